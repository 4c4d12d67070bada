-- Bits of keys: read, cleared, turned over; the order with a bit left out. For every crate above.
-- Assumes nothing.
use Rattle.std.specs.declared.cmp.Ordering.TheVariants.{Equal}
use Rattle.std.specs.Prelude.{◌≡◌, refl, ℕ, zero, suc, ◌+◌, ◌-◌, ◌*◌, ◌/◌, ◌%◌, ◌^◌, ◌<◌, ◌≤◌, List, [], ◌∷◌, Bool, true, false, cond, not, ◌⊎◌, eqb, ltb, length, get_or, set, take, drop, None, Option, Some}
use Rattle.std.proofs.Common.{sym, ap, ap₂, ◌∙◌, add-zero, mod-lt, sub-le, lt_of_le_of_lt, arith, inl, inr, eqb-true, lit<, length-set, length-take, length-drop, get_or-take, get_or-drop, get_or-set_same, get_or-set_other, set-set}
use Rattle.std.proofs.lemmas.Bool.{eqb-false}
use Rattle.std.proofs.lemmas.List.{set-get_or}
use Rattle.std.specs.List.{slice_range}
use Rattle.keys.specs.Keys.{Words, IsKey, key_at, bit_of, clear_of, toggle_of, bit_at, clear, toggle, order, is_equal, same, without, word_without}
use Rattle.keys.specs.Lists.{all_take, all_drop, all_set}
use Rattle.keys.specs.Words.{bit-toggled, toggled-twice, cleared-toggled, cleared-less, cleared-set, cleared-clear, toggled-set, is_one, is-clear, bit-cleared, other-bit, toggled-small}
use Rattle.keys.specs.Laws.Orders.{order-equal, same-iff}

-- ---- bits

pub key-length : (n i : ℕ) (ws : List ℕ) → i + n ≤ length ws → length (key_at n ws i) ≡ n
key-length n i ws h = simp (length-take, length-drop) (omega arith)

pub key-word : (n i k : ℕ) (ws : List ℕ) → k < n → get_or (key_at n ws i) k 0 ≡ get_or ws (i + k) 0
key-word n i k ws h = rw (get_or-take, get_or-drop)

pub key-first : (n i : ℕ) (ws : List ℕ) → 0 < n → get_or (key_at n ws i) 0 0 ≡ get_or ws i 0
key-first n i ws h = key-word n i 0 ws h ∙ ap (λ (m : ℕ). get_or ws m 0) (add-zero i)

pub key-words : (n i : ℕ) (ws : List ℕ) → i + n ≤ length ws → Words ws → IsKey n (key_at n ws i)
key-words n i ws h w = (key-length n i ws h, all_take (λ w. w < 2 ^ 64) n (drop i ws) (all_drop (λ w. w < 2 ^ 64) i ws w))

-- q is a qubit of keys of n words
pub qubit-word : (n q : ℕ) (k : List ℕ) → q < 64 * n → IsKey n k → q / 64 < length k
qubit-word n q k h i = let e = i.0 in omega arith

-- bit q of a key is bit q of the words that begin with it
pub bit-take : (q n : ℕ) (k : List ℕ) → q / 64 < n → bit_at q (take n k) ≡ bit_at q k
unfolding bit_at
bit-take q n k h = rw (get_or-take n k (q / 64) 0 h)

pub length-clear : (q : ℕ) (k : List ℕ) → length (clear q k) ≡ length k
unfolding clear
length-clear q k = simp length-set

pub length-toggle : (q : ℕ) (k : List ℕ) → length (toggle q k) ≡ length k
unfolding toggle
length-toggle q k = simp length-set

-- bit q is turned over in word q / 64
pub toggle-word : (q : ℕ) (k : List ℕ) → q / 64 < length k → get_or (toggle q k) (q / 64) 0 ≡ toggle_of (q % 64) (get_or k (q / 64) 0)
unfolding toggle
toggle-word q k h = get_or-set_same k (q / 64) _ 0 h

-- turning a bit over twice changes nothing; once, it changes that bit and no other
pub toggle-toggle : (q : ℕ) (k : List ℕ) → q / 64 < length k → toggle q (toggle q k) ≡ k
unfolding toggle
toggle-toggle q k h = rw (get_or-set_same k (q / 64) _ 0 h, toggled-twice, set-set, set-get_or)

pub bit-toggle : (q : ℕ) (k : List ℕ) → q / 64 < length k → bit_at q (toggle q k) ≡ not (bit_at q k)
unfolding toggle bit_at
bit-toggle q k h = rw (get_or-set_same k (q / 64) _ 0 h) (bit-toggled (get_or k (q / 64) 0) (q % 64))

pub bit-toggle-other : (q r : ℕ) (k : List ℕ) → (r ≡ q → ⊥) → q / 64 < length k → bit_at r (toggle q k) ≡ bit_at r k
unfolding toggle bit_at
bit-toggle-other q r k f h = go (eqb (r / 64) (q / 64)) refl
  where
    go : (t : Bool) → eqb (r / 64) (q / 64) ≡ t → eqb (bit_of (r % 64) (get_or (set k (q / 64) (toggle_of (q % 64) (get_or k (q / 64) 0))) (r / 64) 0)) 1 ≡ eqb (bit_of (r % 64) (get_or k (r / 64) 0)) 1
    go true e =
        let d = eqb-true (r / 64) (q / 64) e in
        rw (d, get_or-set_same k (q / 64) _ 0 h, other-bit (get_or k (q / 64) 0) (q % 64) (r % 64) (λ m. f (omega arith)))
    go false e = rw (get_or-set_other k (q / 64) (r / 64) _ 0 (eqb-false _ _ e))

-- a word that is out of range reads as 0
word_small : (k : List ℕ) (i : ℕ) → Words k → get_or k i 0 < 2 ^ 64
word_small [] i w = lit< tt
word_small (x ∷ k) zero w = w.0
word_small (x ∷ k) (suc i) w = word_small k i w.1

pub toggle-key : (n q : ℕ) (k : List ℕ) → IsKey n k → IsKey n (toggle q k)
unfolding toggle
toggle-key n q k h =
    (simp length-set h.0, all_set (λ w. w < 2 ^ 64) k (q / 64) _ (toggled-small (get_or k (q / 64) 0) (q % 64) (mod-lt q (lit< tt)) (word_small k (q / 64) h.1)) h.1)

pub clear-key : (n q : ℕ) (k : List ℕ) → IsKey n k → IsKey n (clear q k)
unfolding clear
clear-key n q k h =
    let w = get_or k (q / 64) 0 in
    (simp length-set h.0, all_set (λ w. w < 2 ^ 64) k (q / 64) _ (lt_of_le_of_lt (sub-le w (bit_of (q % 64) w * 2 ^ (q % 64))) (word_small k (q / 64) h.1)) h.1)

pub bit-clear : (q : ℕ) (k : List ℕ) → q / 64 < length k → bit_at q (clear q k) ≡ false
unfolding clear bit_at
bit-clear q k h = rw (get_or-set_same k (q / 64) _ 0 h, bit-cleared)

-- clearing bit q leaves a key that has it clear as it is, and makes the partner of one that has it
-- set
pub clear-off : (q : ℕ) (k : List ℕ) → bit_at q k ≡ false → clear q k ≡ k
unfolding clear bit_at
clear-off q k e = rw (cleared-clear (get_or k (q / 64) 0) (q % 64) (is-clear (get_or k (q / 64) 0) (q % 64) e), set-get_or)

pub clear-on : (q : ℕ) (k : List ℕ) → bit_at q k ≡ true → clear q k ≡ toggle q k
unfolding clear toggle bit_at
clear-on q k e =
    let w = get_or k (q / 64) 0 in
    let b = is_one w (q % 64) e in
    ap (set k (q / 64)) (cleared-set w (q % 64) b ∙ sym (toggled-set w (q % 64) b))

-- the two keys of a pair agree without bit q, and no other two do
pub clear-toggle : (q : ℕ) (k : List ℕ) → q / 64 < length k → clear q (toggle q k) ≡ clear q k
unfolding toggle clear
clear-toggle q k h = rw (get_or-set_same k (q / 64) _ 0 h, cleared-toggled, set-set)

pub clear-pair : (q : ℕ) (a b : List ℕ) → q / 64 < length a → q / 64 < length b → clear q a ≡ clear q b → (a ≡ b) ⊎ (a ≡ toggle q b)
clear-pair q a b h l e = go (bit_at q a) (bit_at q b) refl refl
  where
    go : (s t : Bool) → bit_at q a ≡ s → bit_at q b ≡ t → (a ≡ b) ⊎ (a ≡ toggle q b)
    go false false u v = inl (sym (clear-off q a u) ∙ e ∙ clear-off q b v)
    go false true u v = inr (sym (clear-off q a u) ∙ e ∙ clear-on q b v)
    go true false u v = inr (sym (toggle-toggle q a h) ∙ ap (toggle q) (sym (clear-on q a u) ∙ e ∙ clear-off q b v))
    go true true u v = inl (sym (toggle-toggle q a h) ∙ ap (toggle q) (sym (clear-on q a u) ∙ e ∙ clear-on q b v) ∙ toggle-toggle q b l)

pub same-toggle : (q : ℕ) (a b : List ℕ) → q / 64 < length a → q / 64 < length b → same a (toggle q b) ≡ same (toggle q a) b
same-toggle q a b h i = same-iff a (toggle q b) (toggle q a) b (λ e. ap (toggle q) e ∙ toggle-toggle q b i) (λ e. sym (toggle-toggle q a h) ∙ ap (toggle q) e)

-- ---- the order with bit q left out

-- one word is changed in both keys, and the change keeps how the two stand
order-kept : (a b : List ℕ) (m x y : ℕ) → ltb x y ≡ ltb (get_or a m 0) (get_or b m 0) → ltb y x ≡ ltb (get_or b m 0) (get_or a m 0)
    → order (set a m x) (set b m y) ≡ order a b
unfolding order
order-kept [] [] m x y d e = refl
order-kept [] (w ∷ b) zero x y d e = refl
order-kept [] (w ∷ b) (suc m) x y d e = refl
order-kept (v ∷ a) [] zero x y d e = refl
order-kept (v ∷ a) [] (suc m) x y d e = refl
order-kept (v ∷ a) (w ∷ b) zero x y d e = rw (d, e)
order-kept (v ∷ a) (w ∷ b) (suc m) x y d e = rw (order-kept a b m x y d e)

same_bit : (v w p : ℕ) → eqb (bit_of p v) 1 ≡ eqb (bit_of p w) 1 → bit_of p v ≡ bit_of p w
same_bit v w p e = go (eqb (bit_of p w) 1) refl
  where
    go : (t : Bool) → eqb (bit_of p w) 1 ≡ t → bit_of p v ≡ bit_of p w
    go true f = is_one v p (e ∙ f) ∙ sym (is_one w p f)
    go false f = is-clear v p (e ∙ f) ∙ sym (is-clear w p f)

-- two keys on the same side of q stand as they do without the bit
pub order-clear : (q : ℕ) (a b : List ℕ) → bit_at q a ≡ bit_at q b → order (clear q a) (clear q b) ≡ order a b
unfolding clear bit_at
order-clear q a b e =
    let p = q % 64 in
    let v = get_or a (q / 64) 0 in
    let w = get_or b (q / 64) 0 in
    let s = same_bit v w p e in
    order-kept a b (q / 64) (clear_of p v) (clear_of p w) (cleared-less v w p s) (cleared-less w v p (sym s))

pub same-clear : (q : ℕ) (a b : List ℕ) → bit_at q a ≡ bit_at q b → same (clear q a) (clear q b) ≡ same a b
unfolding same
same-clear q a b e = ap is_equal (order-clear q a b e)

-- turning the bit over in both keeps their order
pub toggle-order : (q : ℕ) (a b : List ℕ) → q / 64 < length a → q / 64 < length b → bit_at q a ≡ bit_at q b → order (toggle q a) (toggle q b) ≡ order a b
toggle-order q a b h l e =
    sym (order-clear q (toggle q a) (toggle q b) (bit-toggle q a h ∙ ap not e ∙ sym (bit-toggle q b l)))
    ∙ ap₂ order (clear-toggle q a h) (clear-toggle q b l)
    ∙ order-clear q a b e

-- keys on different sides that are equal without the bit are partners
pub partner-toggled : (q : ℕ) (a b : List ℕ) → q / 64 < length b → bit_at q a ≡ false → bit_at q b ≡ true → order (clear q a) (clear q b) ≡ Equal → b ≡ toggle q a
partner-toggled q a b h e f o =
    let equal = sym (clear-off q a e) ∙ order-equal (clear q a) (clear q b) o ∙ clear-on q b f in
    sym (ap (toggle q) equal ∙ toggle-toggle q b h)

-- ---- a key without the bit that a comparison leaves out

pub length_without : (o : Option ℕ) (k : List ℕ) → length (without o k) ≡ length k
length_without None k = refl
length_without (Some q) k = length-clear q k

clear-word : (q : ℕ) (a : List ℕ) (k : ℕ) → k < length a → get_or (clear q a) k 0 ≡ word_without (Some q) k (get_or a k 0)
unfolding clear word_without
clear-word q a k h = go (eqb k (q / 64)) refl
  where
    go : (t : Bool) → eqb k (q / 64) ≡ t → get_or (set a (q / 64) (clear_of (q % 64) (get_or a (q / 64) 0))) k 0 ≡ cond t (clear_of (q % 64) (get_or a k 0)) (get_or a k 0)
    go true e = rw (← eqb-true k (q / 64) e) (get_or-set_same a k _ 0 h)
    go false e = get_or-set_other a (q / 64) k _ 0 (eqb-false _ _ e)

pub word-of-without : (o : Option ℕ) (a : List ℕ) (k : ℕ) → k < length a → get_or (without o a) k 0 ≡ word_without o k (get_or a k 0)
unfolding word_without
word-of-without None a k h = refl
word-of-without (Some q) a k h = clear-word q a k h

-- a key as a part of a slice
pub key-range : (n i : ℕ) (ws : List ℕ) → slice_range ws i (i + n) ≡ key_at n ws i
key-range n i ws = let e : i + n - i ≡ n = omega arith in ap (λ (m : ℕ). take m (drop i ws)) e

-- and its bit
pub range-bit : (n q i : ℕ) (ws : List ℕ) → q / 64 < n → bit_at q (slice_range ws i (i + n)) ≡ bit_at q (drop i ws)
range-bit n q i ws h = ap (bit_at q) (key-range n i ws) ∙ bit-take q n (drop i ws) h
