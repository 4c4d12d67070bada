-- Digits and lines: how long they are, that digits read back, and what a line that was put leaves.
-- Assumes nothing.
use Rattle.std.specs.Prelude.{◌≡◌, refl, ℕ, zero, suc, ◌+◌, ◌-◌, ◌*◌, ◌/◌, ◌%◌, ◌^◌, ◌<◌, ◌≤◌, List, [], ◌∷◌, ◌++◌, Bool, true, false, cond, ltb, length, set, take, drop}
use Rattle.std.proofs.Common.{sym, ap, ap₂, ◌∙◌, subst, mod-lt, lt_of_lt_of_le, le_refl, pow-suc, div-lt_iff_lt-mul, div-add-mod', add-one, arith, append_assoc, lt-ltb, le-ltb, ltb-true, ltb-false, lit<, lit≤, length-append, length-take-le, drop_at}
use Rattle.std.proofs.Math.Nat.{pow-zero, one-le-pow}
use Rattle.std.proofs.lemmas.List.Edits.{sets, sets-eq}
use Rattle.std.proofs.Math.Seq.{take-append_seam}
use Rattle.keys.specs.Laws.{sets-append, sets-comm}
use Rattle.text.specs.Text.{digit_of, digits, places, decimal_of, hex_of, Put, Line, step_text, answer_text, sizes_text, sums_text, tag_text, space, newline, step_head, step_line, step_line_with_sums, tag_line, record_line}

-- ---- digits

pub digits-length : (base k n : ℕ) → length (digits base k n) ≡ k
digits-length base zero n = refl
digits-length base (suc k) n = rw (length-append, digits-length base k (n / base)) (add-one k)

pub hex-length : (w : ℕ) → length (hex_of w) ≡ 16
unfolding hex_of
hex-length w = digits-length 16 16 w

pub places-less : (f n : ℕ) → n < 10 → places f n ≡ 1
unfolding places
places-less zero n h = refl
places-less (suc f) n h = rw (lt-ltb n 10 h)

pub places-more : (f n : ℕ) → 10 ≤ n → places (suc f) n ≡ suc (places f (n / 10))
unfolding places
places-more f n h = rw (le-ltb n 10 h)

-- 10^k ≤ n < 10^(k+1): k + 1 digits
pub places-at : (f k n : ℕ) → 10 ^ k ≤ n → n < 10 * 10 ^ k → k ≤ f → places f n ≡ suc k
places-at f zero n low high le = places-less f n (omega arith)
places-at zero (suc k) n low high le = absurd (omega arith)
places-at (suc f) (suc k) n low high le =
    let p : 10 ^ suc k ≡ 10 ^ k * 10 = pow-suc 10 k in
    let one = one-le-pow k 10 (lit< tt) in
    places-more f n (omega arith) ∙ ap suc (places-at f k (n / 10) (omega arith) (omega arith) (omega arith))

pub places-range : (f n : ℕ) → (0 < places f n) × (places f n ≤ suc f)
unfolding places
places-range zero n = (lit< tt, lit≤ tt)
places-range (suc f) n = go (ltb n 10) (places-range f (n / 10))
  where
    go : (t : Bool) → (0 < places f (n / 10)) × (places f (n / 10) ≤ suc f)
        → (0 < cond t 1 (suc (places f (n / 10)))) × (cond t 1 (suc (places f (n / 10))) ≤ suc (suc f))
    go true h = (omega arith, omega arith)
    go false h = (omega arith, omega arith)

pub decimal-length : (n : ℕ) → length (decimal_of n) ≤ 20
unfolding decimal_of
decimal-length n = rw (digits-length 10 (places 19 n) n) (places-range 19 n).1

-- as many digits as hold the number, and no fewer would
pub places-enough : (f n : ℕ) → n < 10 ^ suc f → n < 10 ^ places f n
unfolding places
places-enough zero n h = h
places-enough (suc f) n h =
    let l : n < 10 ^ suc f * 10 = rw (pow-suc 10 (suc f)) at h in
    go (ltb n 10) refl (places-enough f (n / 10) (omega arith))
  where
    go : (t : Bool) → ltb n 10 ≡ t → n / 10 < 10 ^ places f (n / 10) → n < 10 ^ cond t 1 (suc (places f (n / 10)))
    go true e i = ltb-true n 10 e
    go false e i =
        rw (pow-suc 10 (places f (n / 10))) (omega arith)

pub places-fewest : (f n : ℕ) → 0 < n → 10 ^ (places f n - 1) ≤ n
unfolding places
places-fewest zero n h = h
places-fewest (suc f) n h = go (ltb n 10) refl (places-fewest f (n / 10))
  where
    go : (t : Bool) → ltb n 10 ≡ t → (0 < n / 10 → 10 ^ (places f (n / 10) - 1) ≤ n / 10) → 10 ^ (cond t 1 (suc (places f (n / 10))) - 1) ≤ n
    go true e g = h
    go false e g =
        let l = ltb-false n 10 e in
        let i = g (omega arith) in
        let p = (places-range f (n / 10)).0 in
        let k : suc (places f (n / 10)) - 1 ≡ suc (places f (n / 10) - 1) = omega arith in
        rw (k, pow-suc 10 (places f (n / 10) - 1)) (omega arith)

-- no leading zero: n has as many digits as that
pub decimal-fewest : (n : ℕ) → 0 < n → 10 ^ (length (decimal_of n) - 1) ≤ n
unfolding decimal_of
decimal-fewest n h = rw (digits-length 10 (places 19 n) n) (places-fewest 19 n h)

-- what a digit and a text of digits stand for
abbrev pub digit_value : ℕ → ℕ
digit_value c = cond (ltb c 58) (c - 48) (c - 87)

abbrev pub value : ℕ → ℕ → List ℕ → ℕ
value base v [] = v
value base v (c ∷ cs) = value base (v * base + digit_value c) cs

digit-back : (d : ℕ) → d < 16 → digit_value (digit_of d) ≡ d
unfolding digit_of
digit-back d h = go (ltb d 10) refl
  where
    go : (t : Bool) → ltb d 10 ≡ t → digit_value (cond t (48 + d) (87 + d)) ≡ d
    go true e = let l = ltb-true d 10 e in rw (lt-ltb (48 + d) 58 (omega arith)) (omega arith)
    go false e = let l = ltb-false d 10 e in rw (le-ltb (87 + d) 58 (omega arith)) (omega arith)

value-last : (base v : ℕ) (cs : List ℕ) (c : ℕ) → value base v (cs ++ (c ∷ [])) ≡ value base v cs * base + digit_value c
value-last base v [] c = refl
value-last base v (x ∷ cs) c = value-last base (v * base + digit_value x) cs c

pub digits-back : (base k n : ℕ) → 0 < base → base ≤ 16 → n < base ^ k → value base 0 (digits base k n) ≡ n
digits-back base zero n p b h = let l : n < 1 = rw (pow-zero base) at h in omega arith
digits-back base (suc k) n p b h =
    let l : n < base ^ k * base = rw (pow-suc base k) at h in
    let m = mod-lt n p in
    value-last base 0 (digits base k (n / base)) (digit_of (n % base))
    ∙ ap₂ (λ (x y : ℕ). x * base + y) (digits-back base k (n / base) p b ((div-lt_iff_lt-mul {x = n} p).1 l)) (digit-back (n % base) (omega arith))
    ∙ div-add-mod' n base

-- the digits of a word read back to it
pub decimal-back : (n : ℕ) → n < 2 ^ 64 → value 10 0 (decimal_of n) ≡ n
unfolding decimal_of
decimal-back n h = digits-back 10 (places 19 n) n (lit< tt) (lit≤ tt) (places-enough 19 n (lt_of_lt_of_le h (lit≤ tt)))

pub hex-back : (w : ℕ) → w < 2 ^ 64 → value 16 0 (hex_of w) ≡ w
unfolding hex_of
hex-back w h = digits-back 16 16 w (lit< tt) (lit≤ tt) h

-- ---- parts of a line, one after the other

-- the last byte of a text may be stored first
pub sets_last : (l : List ℕ) (at : ℕ) (a : List ℕ) (v : ℕ) → sets l at (a ++ (v ∷ [])) ≡ sets (set l (at + length a) v) at a
sets_last l at a v = sets-append l at a (v ∷ []) ∙ sym (sets-comm l at a (at + length a) (v ∷ []) (le_refl (at + length a)))

pub digits_step : (l : List ℕ) (at base i n : ℕ) → sets (set l (at + i) (digit_of (n % base))) at (digits base i (n / base)) ≡ sets l at (digits base (suc i) n)
digits_step l at base i n =
    sym (subst (λ (k : ℕ). sets l at (digits base (suc i) n) ≡ sets (set l (at + k) (digit_of (n % base))) at (digits base i (n / base))) (digits-length base i (n / base))
    (sets_last l at (digits base i (n / base)) (digit_of (n % base))))

pub put_then : {l a m b n : List ℕ} {at i j : ℕ} → Put l at a m i → Put m i b n j → Put l at (a ++ b) n j
put_then {l} {a} {m} {b} {n} {at} {i} {j} p q =
    record {
      bytes = q.bytes ∙ ap₂ (λ (x : List ℕ) (k : ℕ). sets x k b) p.bytes p.after ∙ sym (sets-append l at a b);
      after = let e = p.after in let f = q.after in rw length-append (omega arith);
    }

pub line_of : {l t m : List ℕ} {n : ℕ} → Put l 0 t m n → Line l t m n
line_of p = record { bytes = p.bytes; size = let e = p.after in omega arith }

-- what was stored stands there
sets-part : (l : List ℕ) (at : ℕ) (a : List ℕ) → at + length a ≤ length l → take (length a) (drop at (sets l at a)) ≡ a
sets-part l at a h =
    let n : at ≤ length l = omega arith in
    rw (sets-eq a l at h, append_assoc (take at l) a (drop (at + length a) l), drop_at (take at l) (a ++ drop (at + length a) l) at (length-take-le at l n))
    (take-append_seam a (drop (at + length a) l))

-- a line is the buffer's front
pub line-front : {l t m : List ℕ} {n : ℕ} → Line l t m n → length t ≤ length l → take n m ≡ t
line-front {l} {t} p h =
    let r : 0 + length t ≤ length l = omega arith in
    rw (p.size, p.bytes) (sets-part l 0 t r)

-- what a buffer's front is with a text put after it
pub put-front : {l t m : List ℕ} {at n : ℕ} → Put l at t m n → at + length t ≤ length l → take n m ≡ take at l ++ t
put-front {l} {t} {m} {at} {n} p h =
    let front = take at l ++ t in
    let len : length front ≡ at + length t = length-append (take at l) t ∙ ap (λ (k : ℕ). k + length t) (length-take-le at l (omega arith)) in
    let whole : m ≡ front ++ drop (at + length t) l = p.bytes ∙ sets-eq t l at h in
    ap₂ (λ (k : ℕ) (x : List ℕ). take k x) (p.after ∙ sym len) whole ∙ take-append_seam front (drop (at + length t) l)

pub line-text : {l t u m : List ℕ} {n : ℕ} → t ≡ u → Line l t m n → Line l u m n
line-text {l} {m = m} {n} e p = subst (λ (x : List ℕ). Line l x m n) e p

-- ---- how long lines are

pub head-length : (i answer n0 n1 : ℕ) → length (step_head i answer n0 n1) ≤ 101
unfolding step_head
head-length i answer n0 n1 =
    simp length-append (omega (arith, decimal-length i, decimal-length answer, decimal-length n0, decimal-length n1))

pub step-length : (i answer n0 n1 : ℕ) → length (step_line i answer n0 n1) ≤ 102
unfolding step_line
step-length i answer n0 n1 = simp length-append (omega (arith, head-length i answer n0 n1))

pub sums-length : (i answer n0 n1 s0 s1 : ℕ) → length (step_line_with_sums i answer n0 n1 s0 s1) ≤ 141
unfolding step_line_with_sums
sums-length i answer n0 n1 s0 s1 = simp length-append (omega (arith, head-length i answer n0 n1, hex-length s0, hex-length s1))

pub tag-length : (tagged : Bool) (q : ℕ) → length (tag_line tagged q) ≤ 25
unfolding tag_line
tag-length true q = simp length-append (omega (arith, decimal-length q))
tag-length false q = lit≤ tt

pub record-line-length : (key re im : ℕ) → length (record_line key re im) ≡ 51
unfolding record_line
record-line-length key re im = simp length-append (omega (arith, hex-length key, hex-length re, hex-length im))

-- ---- the lines of the example of SPECIFICATION 9.3, all but that of key 0's record

-- step 1 answer 0 sizes 1 1
example-step : step_line 1 0 1 1 ≡ step_text ++ (49 ∷ answer_text) ++ (48 ∷ sizes_text) ++ (49 ∷ 32 ∷ 49 ∷ 10 ∷ [])
unfolding step_line step_head decimal_of digit_of places
example-step = refl

-- 3ff0000000000000
abbrev one : List ℕ
one = 51 ∷ 102 ∷ 102 ∷ 48 ∷ 48 ∷ 48 ∷ 48 ∷ 48 ∷ 48 ∷ 48 ∷ 48 ∷ 48 ∷ 48 ∷ 48 ∷ 48 ∷ 48 ∷ []

abbrev zero_digits : List ℕ
zero_digits = 48 ∷ 48 ∷ 48 ∷ 48 ∷ 48 ∷ 48 ∷ 48 ∷ 48 ∷ 48 ∷ 48 ∷ 48 ∷ 48 ∷ 48 ∷ 48 ∷ 48 ∷ []

-- step 2 answer 0 sizes 1 1 sums 3ff0000000000000 3ff0000000000000
example-sums : step_line_with_sums 2 0 1 1 4607182418800017408 4607182418800017408
    ≡ step_text ++ (50 ∷ answer_text) ++ (48 ∷ sizes_text) ++ (49 ∷ 32 ∷ 49 ∷ sums_text) ++ one ++ space ++ one ++ newline
unfolding step_line_with_sums step_head decimal_of hex_of digit_of places
example-sums = refl

-- tag 0
example-tag : tag_line true 0 ≡ tag_text ++ (48 ∷ 10 ∷ [])
unfolding tag_line decimal_of digit_of places
example-tag = refl

-- 0000000000000001 3ff0000000000000 0000000000000000
example-record : record_line 1 4607182418800017408 0 ≡ zero_digits ++ (49 ∷ 32 ∷ one) ++ space ++ zero_digits ++ (48 ∷ 10 ∷ [])
unfolding record_line hex_of digit_of
example-record = refl
