-- What the machine's &, ^ and << do to one bit of a word, by arithmetic. Assumes nothing.
use Rattle.std.specs.Prelude.{◌≡◌, refl, ℕ, zero, suc, ◌+◌, ◌-◌, ◌*◌, ◌/◌, ◌%◌, ◌^◌, ◌<◌, ◌≤◌, Bool, true, false, cond, not, ◌&&◌, eqb, ltb}
use Rattle.std.proofs.Common.{sym, ap, ap₂, ◌∙◌, subst, mod-lt, one-mul, zero-mul, mul-div_cancel, add-mul, mod-eq_of_lt, div-lt_iff_lt-mul, div-add-mod', arith, add-one, eqb-true, eq-eqb, ne_eqb, ltb-true, ltb-false, lt-ltb, le-ltb, lit<, pow-add, pow_pos, shl_exact}
use Rattle.std.proofs.Math.Nat.{add-div_right, div-eq_of_lt}
use Rattle.std.proofs.Math.Arith.{bin_ind}
use Rattle.std.proofs.Math.Bool.{xor}
use Rattle.std.proofs.lemmas.Bool.{eqb-false}
use Rattle.std.proofs.Math.Pow.{pow-lt, split}
use Rattle.std.specs.Int.Bits.{bit_and, bit_xor, xor_add_and, and_zero_r, xor_zero_r, xor_zero_l, xor_self, xor_step, differ}
use Rattle.std.proofs.lemmas.Nat.Bits.{and_high}
use Rattle.std.proofs.lemmas.Nat.{and_mask, and_le_l, and_block, and_shr, and_mod, xor_lt, xor_shr, xor_mod}
use Rattle.keys.specs.Keys.{bit_of, clear_of, toggle_of}

doubled : (p : ℕ) → 2 ^ (1 + p) - 2 ^ p ≡ 2 ^ p
doubled p = let e = pow-add 2 1 p in omega arith

pub and-bit : (w p : ℕ) → bit_and w (2 ^ p) ≡ bit_of p w * 2 ^ p
and-bit w p = subst (λ (m : ℕ). bit_and w m ≡ bit_of p w * 2 ^ p) (doubled p) (and_high w 1 p)

pub and_one : (w : ℕ) → bit_and w 1 ≡ w % 2
and_one w = and_mask w 1

pub bit_below : (w p : ℕ) → bit_of p w < 2
bit_below w p = mod-lt (w / 2 ^ p) (lit< tt)

-- the bit's share of the word is in the word
pub bit-part : (w p : ℕ) → bit_of p w * 2 ^ p ≤ w
bit-part w p = subst (λ (m : ℕ). m ≤ w) (and-bit w p) (and_le_l w (2 ^ p))

-- a bit is 0 or 1, as a test and as a number
pub is_one : (w p : ℕ) → eqb (bit_of p w) 1 ≡ true → bit_of p w ≡ 1
is_one w p e = eqb-true (bit_of p w) 1 e

pub is-clear : (w p : ℕ) → eqb (bit_of p w) 1 ≡ false → bit_of p w ≡ 0
is-clear w p e = let f = eqb-false (bit_of p w) 1 e in omega (arith, bit_below w p, f)

pub xor-bit : (w p : ℕ) → bit_xor w (2 ^ p) ≡ toggle_of p w
xor-bit w p = go (eqb (bit_of p w) 1) refl
  where
    sum : bit_xor w (2 ^ p) + (bit_of p w * 2 ^ p) * 2 ≡ w + 2 ^ p
    sum = subst (λ (m : ℕ). bit_xor w (2 ^ p) + m * 2 ≡ w + 2 ^ p) (and-bit w p) (xor_add_and w (2 ^ p))

    go : (t : Bool) → eqb (bit_of p w) 1 ≡ t → bit_xor w (2 ^ p) ≡ cond t (w - 2 ^ p) (w + 2 ^ p)
    go true e =
        let one : bit_of p w * 2 ^ p ≡ 2 ^ p = ap (λ (b : ℕ). b * 2 ^ p) (is_one w p e) ∙ one-mul (2 ^ p) in
        omega (arith, sum, one)
    go false e =
        let none : bit_of p w * 2 ^ p ≡ 0 = ap (λ (b : ℕ). b * 2 ^ p) (is-clear w p e) ∙ zero-mul (2 ^ p) in
        omega (arith, sum, none)

-- one, moved to bit p, as the machine has it
pub one_shifted : (p : ℕ) → p < 64 → 1 * 2 ^ p % 2 ^ 64 ≡ 2 ^ p
one_shifted p h = shl_exact 1 p 64 (lit< tt) (omega arith) ∙ one-mul (2 ^ p)

-- ---- turning a bit over, and clearing it

plus-bit : (w p : ℕ) → (w + 2 ^ p) / 2 ^ p ≡ suc (w / 2 ^ p)
plus-bit w p = add-div_right w (pow_pos p) ∙ add-one (w / 2 ^ p)

-- with a bit that is clear set, and with one that is set clear
put-bit : (w p : ℕ) → bit_of p w ≡ 0 → bit_of p (w + 2 ^ p) ≡ 1
put-bit w p e = rw (plus-bit w p) (omega arith)

pub bit-size : (w p : ℕ) → bit_of p w ≡ 1 → 2 ^ p ≤ w
bit-size w p e = let h : bit_of p w * 2 ^ p ≡ 2 ^ p = ap (λ (b : ℕ). b * 2 ^ p) e ∙ one-mul (2 ^ p) in omega (arith, bit-part w p)

take-bit : (w p : ℕ) → bit_of p w ≡ 1 → bit_of p (w - 2 ^ p) ≡ 0
take-bit w p e =
    let h = bit-size w p e in
    let back : w - 2 ^ p + 2 ^ p ≡ w = omega arith in
    let d : w / 2 ^ p ≡ suc ((w - 2 ^ p) / 2 ^ p) = ap (λ (v : ℕ). v / 2 ^ p) (sym back) ∙ plus-bit (w - 2 ^ p) p in
    omega arith

-- the two forms of a word turned over at p, and of one with p clear
pub toggled-set : (w p : ℕ) → bit_of p w ≡ 1 → toggle_of p w ≡ w - 2 ^ p
toggled-set w p e = rw (eq-eqb (bit_of p w) 1 e)

pub toggled-clear : (w p : ℕ) → bit_of p w ≡ 0 → toggle_of p w ≡ w + 2 ^ p
toggled-clear w p e = rw (ne_eqb (bit_of p w) 1 (λ h. omega arith))

pub cleared-set : (w p : ℕ) → bit_of p w ≡ 1 → clear_of p w ≡ w - 2 ^ p
cleared-set w p e = rw (e, one-mul)

pub cleared-clear : (w p : ℕ) → bit_of p w ≡ 0 → clear_of p w ≡ w
cleared-clear w p e = rw (e, zero-mul) (omega arith)

-- by cases on the bit
pub by_bit : (P : ℕ → Type 0) (w p : ℕ) → (bit_of p w ≡ 0 → P w) → (bit_of p w ≡ 1 → P w) → P w
by_bit P w p f g = go (eqb (bit_of p w) 1) refl
  where
    go : (t : Bool) → eqb (bit_of p w) 1 ≡ t → P w
    go true e = g (is_one w p e)
    go false e = f (is-clear w p e)

pub bit-toggled : (w p : ℕ) → eqb (bit_of p (toggle_of p w)) 1 ≡ not (eqb (bit_of p w) 1)
bit-toggled w p = by_bit (λ (w : ℕ). eqb (bit_of p (toggle_of p w)) 1 ≡ not (eqb (bit_of p w) 1)) w p
    (λ e. rw (toggled-clear w p e, put-bit w p e, e))
    (λ e. rw (toggled-set w p e, take-bit w p e, e))

pub toggled-twice : (w p : ℕ) → toggle_of p (toggle_of p w) ≡ w
toggled-twice w p = by_bit (λ (w : ℕ). toggle_of p (toggle_of p w) ≡ w) w p
    (λ e. ap (toggle_of p) (toggled-clear w p e) ∙ toggled-set (w + 2 ^ p) p (put-bit w p e) ∙ (omega arith))
    (λ e. ap (toggle_of p) (toggled-set w p e) ∙ toggled-clear (w - 2 ^ p) p (take-bit w p e) ∙ (let h = bit-size w p e in omega arith))

pub cleared-toggled : (w p : ℕ) → clear_of p (toggle_of p w) ≡ clear_of p w
cleared-toggled w p = by_bit (λ (w : ℕ). clear_of p (toggle_of p w) ≡ clear_of p w) w p
    (λ e. ap (clear_of p) (toggled-clear w p e) ∙ cleared-set (w + 2 ^ p) p (put-bit w p e) ∙ (let h = cleared-clear w p e in omega arith))
    (λ e. ap (clear_of p) (toggled-set w p e) ∙ cleared-clear (w - 2 ^ p) p (take-bit w p e) ∙ sym (cleared-set w p e))

-- with the same bit in both, clearing it keeps the order
pub cleared-less : (x y p : ℕ) → bit_of p x ≡ bit_of p y → ltb (clear_of p x) (clear_of p y) ≡ ltb x y
cleared-less x y p e = go (ltb x y) refl
  where
    g : bit_of p x * 2 ^ p ≡ bit_of p y * 2 ^ p
    g = ap (λ (b : ℕ). b * 2 ^ p) e

    go : (t : Bool) → ltb x y ≡ t → ltb (clear_of p x) (clear_of p y) ≡ t
    go true h = let l = ltb-true x y h in lt-ltb (clear_of p x) (clear_of p y) (omega (arith, bit-part x p, bit-part y p, g))
    go false h = let l = ltb-false x y h in le-ltb (clear_of p x) (clear_of p y) (omega (arith, bit-part x p, bit-part y p, g))

pub bit-cleared : (w p : ℕ) → bit_of p (clear_of p w) ≡ 0
bit-cleared w p = by_bit (λ (w : ℕ). bit_of p (clear_of p w) ≡ 0) w p
    (λ e. ap (bit_of p) (cleared-clear w p e) ∙ e)
    (λ e. ap (bit_of p) (cleared-set w p e) ∙ take-bit w p e)

-- ---- the other bits, and the word's range

-- a bit's power has no other bit
other-power : (p r : ℕ) → (r ≡ p → ⊥) → 2 ^ p / 2 ^ r % 2 ≡ 0
other-power p r h = go (ltb p r) refl
  where
    go : (t : Bool) → ltb p r ≡ t → 2 ^ p / 2 ^ r % 2 ≡ 0
    go true e = rw (div-eq_of_lt (pow-lt (ltb-true p r e)))
    go false e =
        let l : (p - r - 1) + 1 + r ≡ p = (let f = ltb-false p r e in let g : r ≡ p → ⊥ = h in omega arith) in
        let d : 2 ^ p ≡ 2 ^ (p - r - 1) * 2 * 2 ^ r =
        ap (λ (i : ℕ). 2 ^ i) (sym l) ∙ pow-add 2 ((p - r - 1) + 1) r ∙ ap (λ (i : ℕ). i * 2 ^ r) (pow-add 2 (p - r - 1) 1) in
        rw (d, mul-div_cancel (2 ^ (p - r - 1) * 2) (pow_pos r)) (omega arith)

pub other-bit : (w p r : ℕ) → (r ≡ p → ⊥) → bit_of r (toggle_of p w) ≡ bit_of r w
other-bit w p r h =
    ap (bit_of r) (sym (xor-bit w p))
    ∙ ap (λ (x : ℕ). x % 2) (xor_shr w (2 ^ p) r)
    ∙ xor_mod (w / 2 ^ r) (2 ^ p / 2 ^ r) 1
    ∙ ap (λ (x : ℕ). bit_xor (w / 2 ^ r % 2) x) (other-power p r h)
    ∙ xor_zero_r (w / 2 ^ r % 2)

pub toggled-small : (w p : ℕ) → p < 64 → w < 2 ^ 64 → toggle_of p w < 2 ^ 64
toggled-small w p h l = subst (λ (x : ℕ). x < 2 ^ 64) (xor-bit w p) (xor_lt 64 w (2 ^ p) l (pow-lt h))

-- a word by its upper part, its bit p and its lower part; the mask of all bits but p has ones,
-- nought and ones there
by_parts : (w p : ℕ) → w ≡ (w / 2 ^ p / 2 * 2 ^ 1 + bit_of p w) * 2 ^ p + w % 2 ^ p
by_parts w p = sym (split w p) ∙ ap (λ (u : ℕ). u * 2 ^ p + w % 2 ^ p) (sym (split (w / 2 ^ p) 1))

mask-parts : (p : ℕ) → p < 64 → 2 ^ 64 - 1 - 2 ^ p ≡ ((2 ^ (63 - p) - 1) * 2 ^ 1 + 0) * 2 ^ p + (2 ^ p - 1)
mask-parts p h =
    let t = 2 ^ (63 - p) in
    let top : 2 ^ 64 ≡ t * 2 * 2 ^ p =
    ap (λ (i : ℕ). 2 ^ i) (let e : 64 ≡ (63 - p) + 1 + p = omega arith in e) ∙ pow-add 2 ((63 - p) + 1) p ∙ ap (λ (i : ℕ). i * 2 ^ p) (pow-add 2 (63 - p) 1) in
    let less : t * 2 ≡ (t - 1) * 2 + 2 = (let f = pow_pos (63 - p) in omega arith) in
    let more : t * 2 * 2 ^ p ≡ (t - 1) * 2 * 2 ^ p + 2 * 2 ^ p = ap (λ (i : ℕ). i * 2 ^ p) less ∙ add-mul ((t - 1) * 2) 2 (2 ^ p) in
    let none : (t - 1) * 2 + 0 ≡ (t - 1) * 2 = omega arith in
    rw none (let f = pow_pos p in omega arith)

upper-small : (w p : ℕ) → p < 64 → w < 2 ^ 64 → w / 2 ^ p / 2 < 2 ^ (63 - p)
upper-small w p h l =
    let top : 2 ^ 64 ≡ 2 ^ (64 - p) * 2 ^ p = ap (λ (i : ℕ). 2 ^ i) (let e : 64 ≡ (64 - p) + p = omega arith in e) ∙ pow-add 2 (64 - p) p in
    let two : 2 ^ (64 - p) ≡ 2 ^ (63 - p) * 2 = ap (λ (i : ℕ). 2 ^ i) (let e : 64 - p ≡ (63 - p) + 1 = omega arith in e) ∙ pow-add 2 (63 - p) 1 in
    let u : w / 2 ^ p < 2 ^ (64 - p) = (div-lt_iff_lt-mul {x = w} (pow_pos p)).1 (rw top at l) in
    omega arith

pub mask-clears : (w p : ℕ) → p < 64 → w < 2 ^ 64 → bit_and w (2 ^ 64 - 1 - 2 ^ p) ≡ clear_of p w
mask-clears w p h l =
    let a = w / 2 ^ p / 2 in
    let r = w % 2 ^ p in
    let small = mod-lt w (pow_pos p) in
    let one = pow_pos p in
    let parts = by_parts w p in
    let lay : (a * 2 ^ 1 + bit_of p w) * 2 ^ p ≡ a * 2 ^ 1 * 2 ^ p + bit_of p w * 2 ^ p = add-mul (a * 2 ^ 1) (bit_of p w) (2 ^ p) in
    let none : a * 2 ^ 1 + 0 ≡ a * 2 ^ 1 = omega arith in
    ap₂ bit_and parts (mask-parts p h)
    ∙ and_block p (a * 2 ^ 1 + bit_of p w) ((2 ^ (63 - p) - 1) * 2 ^ 1 + 0) r (2 ^ p - 1) small (omega arith)
    ∙ ap₂ (λ (x y : ℕ). x * 2 ^ p + y)
    (and_block 1 a (2 ^ (63 - p) - 1) (bit_of p w) 0 (bit_below w p) (lit< tt) ∙ ap₂ (λ (x y : ℕ). x * 2 ^ 1 + y) (and_mask a (63 - p) ∙ mod-eq_of_lt (upper-small w p h l)) (and_zero_r (bit_of p w)))
    (and_mask r p ∙ mod-eq_of_lt small)
    ∙ rw none (omega arith)

-- a bit of what & and ^ give, and ^ undone
and-digits : (a b : ℕ) → a < 2 → b < 2 → eqb (bit_and a b) 1 ≡ (eqb a 1 && eqb b 1)
and-digits zero zero h l = refl
and-digits zero (suc zero) h l = refl
and-digits (suc zero) zero h l = refl
and-digits (suc zero) (suc zero) h l = refl
and-digits (suc (suc a)) b h l = absurd (omega arith)
and-digits zero (suc (suc b)) h l = absurd (omega arith)
and-digits (suc zero) (suc (suc b)) h l = absurd (omega arith)

xor-digits : (a b : ℕ) → a < 2 → b < 2 → eqb (bit_xor a b) 1 ≡ xor (eqb a 1) (eqb b 1)
unfolding xor
xor-digits zero zero h l = refl
xor-digits zero (suc zero) h l = refl
xor-digits (suc zero) zero h l = refl
xor-digits (suc zero) (suc zero) h l = refl
xor-digits (suc (suc a)) b h l = absurd (omega arith)
xor-digits zero (suc (suc b)) h l = absurd (omega arith)
xor-digits (suc zero) (suc (suc b)) h l = absurd (omega arith)

pub and-bits : (v w p : ℕ) → eqb (bit_of p (bit_and v w)) 1 ≡ (eqb (bit_of p v) 1 && eqb (bit_of p w) 1)
and-bits v w p =
    ap (λ (x : ℕ). eqb (x % 2) 1) (and_shr v w p) ∙ ap (λ (x : ℕ). eqb x 1) (and_mod (v / 2 ^ p) (w / 2 ^ p) 1)
    ∙ and-digits (bit_of p v) (bit_of p w) (bit_below v p) (bit_below w p)

pub xor-bits : (v w p : ℕ) → eqb (bit_of p (bit_xor v w)) 1 ≡ xor (eqb (bit_of p v) 1) (eqb (bit_of p w) 1)
xor-bits v w p =
    ap (λ (x : ℕ). eqb (x % 2) 1) (xor_shr v w p) ∙ ap (λ (x : ℕ). eqb x 1) (xor_mod (v / 2 ^ p) (w / 2 ^ p) 1)
    ∙ xor-digits (bit_of p v) (bit_of p w) (bit_below v p) (bit_below w p)

pub xor-twice : (v w : ℕ) → bit_xor (bit_xor v w) w ≡ v
xor-twice = bin_ind (λ (v : ℕ). (w : ℕ) → bit_xor (bit_xor v w) w ≡ v) (λ w. ap (λ (x : ℕ). bit_xor x w) (xor_zero_l w) ∙ xor_self w) step
  where
    digit : (a b : ℕ) → a < 2 → b < 2 → differ (bit_xor a b) b ≡ a
    digit zero zero h l = refl
    digit zero (suc zero) h l = refl
    digit (suc zero) zero h l = refl
    digit (suc zero) (suc zero) h l = refl
    digit (suc (suc a)) b h l = absurd (omega arith)
    digit zero (suc (suc b)) h l = absurd (omega arith)
    digit (suc zero) (suc (suc b)) h l = absurd (omega arith)

    step : (v : ℕ) → ((w : ℕ) → bit_xor (bit_xor (v / 2) w) w ≡ v / 2) → (w : ℕ) → bit_xor (bit_xor v w) w ≡ v
    step v ih w =
        xor_step (bit_xor v w) w
        ∙ ap₂ (λ (x y : ℕ). x * 2 + y)
        (ap (λ (x : ℕ). bit_xor x (w / 2)) (xor_shr v w 1) ∙ ih (w / 2))
        (ap (λ (x : ℕ). differ x (w % 2)) (xor_mod v w 1) ∙ digit (v % 2) (w % 2) (mod-lt v (lit< tt)) (mod-lt w (lit< tt)))
        ∙ div-add-mod' v 2
