-- What a format holds is not changed by rounding (`round-own`), and is fixed by its sign and its
-- value (`value-unique`). So the size of a float is the larger of 0 − x and x. Assumes nothing.
use Rattle.std.specs.Prelude.{◌≡◌, refl, ℕ, zero, suc, ◌+◌, ◌-◌, ◌*◌, ◌/◌, ◌%◌, ◌^◌, ◌≤◌, ◌<◌, Bool, true, false, not, ◌&&◌, cond, ℤ, pos, negsuc, T, ltb, leb, eqb, Float}
use Rattle.std.proofs.Common.{sym, ap, ap₂, ◌∙◌, subst, le_of_suc-le-suc, lt_of_not-le, not-le_of_lt, zero-lt-suc, mul-one, one-mul, zero-mul, zero-add, mul_assoc, mul_comm, mul_right_comm, mul-lt-mul_of_pos_right, lt_of_mul-lt-mul_right, mul-pos, arith, ltb→lt, lt→ltb, leb→le, pow-add, pow_pos}
use Rattle.std.proofs.Math.Nat.{sub-zero, eq_of_mul-eq-mul_right}
use Rattle.std.proofs.Math.Pow.{pow-lt}
use Rattle.std.specs.Float.{nan, inf, fin, Format, binary64}
use Rattle.std.specs.Float.Ieee.{prec, emax, low, hid, top, up, down, size, round, sum, add, sub, neg, lt, fits, to_bits, of_bits}
use Rattle.std.specs.Float.Ieee.Digits.{back}
use Rattle.std.specs.Float.Ieee.Fits.{round-fits, up_pos, down_pos, and_l, and_r}
use Rattle.std.specs.Float.Ieee.Bits.{of_bits-to_bits, is_true}
use Rattle.std.specs.Float.Ieee.Exact.{HasValue, round_exact}
use Rattle.std.specs.Float.Ieee.Nearest.{div_same}
use Rattle.std.specs.Float.Ieee.Back.{whole_unique}
use Rattle.amplitudes.specs.Amplitudes.{absolute, larger}

-- ---- a value that the format holds is fixed by its sign and its fraction: its bit pattern is
code : Format → Bool → ℕ → ℕ
code f s n = let k = size n - prec f in cond s (top f) 0 + k * hid f + n / 2 ^ k

same-fraction : (x p y q a c l : ℕ) → 0 < c → x * c ≡ a * p → y * c ≡ a * q → x * l * q ≡ y * l * p
same-fraction x p y q a c l C u v =
    mul_right_comm x l q
    ∙ ap (λ (z : ℕ). z * l)
    (eq_of_mul-eq-mul_right c C (x * q) (y * p)
    (mul_right_comm x q c ∙ ap (λ (z : ℕ). z * q) u ∙ mul_right_comm a p q ∙ ap (λ (z : ℕ). z * p) (sym v) ∙ mul_right_comm y c p))
    ∙ mul_right_comm y p l

pub value-unique : (f : Format) (x y : Float) (s : Bool) (a c : ℕ) → 0 < c → T (fits f x) → T (fits f y) → HasValue x s a c → HasValue y s a c → x ≡ y
unfolding to_bits code
value-unique f nan y s a c C p q v w = absurd v
value-unique f (inf t) y s a c C p q v w = absurd v
value-unique f (fin t m e) nan s a c C p q v w = absurd w
value-unique f (fin t m e) (inf u) s a c C p q v w = absurd w
value-unique f (fin t m e) (fin u n g) s a c C p q v w =
    let l = 2 ^ low f in
    sym (of_bits-to_bits f (fin t m e) p)
    ∙ ap (of_bits f)
    (ap₂ (code f) (v.0 ∙ sym w.0) (div_same (m * up e * l) (down e) (n * up g * l) (down g) (down_pos e) (down_pos g) (same-fraction (m * up e) (down e) (n * up g) (down g) a c l C v.1 w.1)))
    ∙ of_bits-to_bits f (fin u n g) q

-- ---- and rounding does not change it. 2 ^ e is 2 ^ j units of the format's smallest value
exponent : (e : ℤ) (l : ℕ) → down e ≤ 2 ^ l → (j : ℕ) × (2 ^ j * down e ≡ up e * 2 ^ l)
exponent (pos k) l h = (k + l, mul-one (2 ^ (k + l)) ∙ pow-add 2 k l)
exponent (negsuc k) l h =
    let g : suc k ≤ l = le_of_suc-le-suc (lt_of_not-le (λ (i : suc l ≤ suc k). not-le_of_lt (pow-lt i) h)) in
    (l - suc k, sym (pow-add 2 (l - suc k) (suc k)) ∙ ap (λ (z : ℕ). 2 ^ z) (back l (suc k) g) ∙ sym (one-mul (2 ^ l)))

in-range : (m u d L E j : ℕ) → 0 < L → 2 ^ j * d ≡ u * L → m * u < E * d → m * 2 ^ j < L * E
in-range m u d L E j P e h =
    lt_of_mul-lt-mul_right d
    (subst (λ (z : ℕ). z < L * E * d) (mul_assoc m u L ∙ ap (λ (z : ℕ). m * z) (sym e) ∙ sym (mul_assoc m (2 ^ j) d))
    (subst (λ (z : ℕ). m * u * L < z) (mul_comm (E * d) L ∙ sym (mul_assoc L E d)) (mul-lt-mul_of_pos_right h P)))

own-exact : (f : Format) (s : Bool) (m : ℕ) (e : ℤ) → m < 2 ^ prec f → down e ≤ 2 ^ low f → m * up e < 2 ^ suc (emax f) * down e → HasValue (round f s (m * up e) (down e)) s (m * up e) (down e)
own-exact f s m e a b c =
    let j = exponent e (low f) b in
    round_exact f s (m * up e) (down e) m j.0 (down_pos e) a
    (subst (λ (z : ℕ). m * 2 ^ j.0 < z) (sym (pow-add 2 (low f) (suc (emax f)))) (in-range m (up e) (down e) (2 ^ low f) (2 ^ suc (emax f)) j.0 (pow_pos (low f)) j.1 c))
    (mul_assoc m (up e) (2 ^ low f) ∙ ap (λ (z : ℕ). m * z) (sym j.1) ∙ sym (mul_assoc m (2 ^ j.0) (down e)))

pub round-own : (f : Format) (s : Bool) (m : ℕ) (e : ℤ) → T (fits f (fin s (suc m) e)) → round f s (suc m * up e) (down e) ≡ fin s (suc m) e
unfolding fits
round-own f s m e h =
    let A = eqb (suc m % 2) 1 in
    let B = ltb (suc m) (2 ^ prec f) in
    let C = leb (down e) (2 ^ low f) in
    let D = ltb (suc m * up e) (2 ^ suc (emax f) * down e) in
    value-unique f (round f s (suc m * up e) (down e)) (fin s (suc m) e) s (suc m * up e) (down e) (down_pos e) (round-fits f s (suc m * up e) (down e)) h
    (own-exact f s (suc m) e
    (ltb→lt (suc m) (2 ^ prec f) (and_r A B (and_l (A && B) C (and_l (A && B && C) D h))))
    (leb→le (down e) (2 ^ low f) (and_r (A && B) C (and_l (A && B && C) D h)))
    (ltb→lt (suc m * up e) (2 ^ suc (emax f) * down e) (and_r (A && B && C) D h)))
    (refl, refl)

-- ---- the absolute value
abbrev plus_zero : Float
plus_zero = fin false 0 (pos 0)

-- 0 − x has the other sign
above_zero : (m : ℕ) (e : ℤ) → ltb 0 (suc m * up e) ≡ true
above_zero m e = is_true (ltb 0 (suc m * up e)) (lt→ltb 0 (suc m * up e) (mul-pos (zero-lt-suc m) (up_pos e)))

from_zero : (s : Bool) (m : ℕ) (e : ℤ) → T (fits binary64 (fin s (suc m) e)) → sub binary64 plus_zero (fin s (suc m) e) ≡ fin (not s) (suc m) e
unfolding sub add neg sum fits
from_zero true m e h = simp (zero-mul, zero-add, mul-one, one-mul) (round-own binary64 false m e h)
from_zero false m e h = simp (zero-mul, mul-one, one-mul, above_zero m e, sub-zero) (round-own binary64 true m e h)

-- and where x is positive it is the smaller
negative-below : (m : ℕ) (e : ℤ) → lt (fin true (suc m) e) (fin false (suc m) e) ≡ true
unfolding lt
negative-below m e =
    let a = suc m * up e * down e in
    is_true (ltb 0 (a + a)) (lt→ltb 0 (a + a) (let h = mul-pos (mul-pos (zero-lt-suc m) (up_pos e)) (down_pos e) in omega arith))

the_zero : (s : Bool) (e : ℤ) → T (fits binary64 (fin s zero e)) → fin s zero e ≡ fin s zero (pos 0)
unfolding fits
the_zero s e h = whole_unique binary64 (fin s zero e) (fin s zero (pos 0)) s 0 h tt (refl, simp zero-mul) (refl, refl)

pub absolute-difference : (x : Float) → T (fits binary64 x) → larger (sub binary64 plus_zero x) x ≡ absolute x
unfolding larger lt sub add neg sum round fits
absolute-difference nan h = refl
absolute-difference (inf true) h = refl
absolute-difference (inf false) h = refl
absolute-difference (fin true (suc m) e) h = ap (λ (y : Float). larger y (fin true (suc m) e)) (from_zero true m e h)
absolute-difference (fin false (suc m) e) h = ap (λ (y : Float). larger y (fin false (suc m) e)) (from_zero false m e h) ∙ ap (λ (t : Bool). cond t (fin false (suc m) e) (fin true (suc m) e)) (negative-below m e)
absolute-difference (fin true zero e) h = let p = the_zero true e h in ap (λ (y : Float). larger (sub binary64 plus_zero y) y) p ∙ sym (ap absolute p)
absolute-difference (fin false zero e) h = let p = the_zero false e h in ap (λ (y : Float). larger (sub binary64 plus_zero y) y) p ∙ sym (ap absolute p)
