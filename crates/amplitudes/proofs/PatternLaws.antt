-- Bit patterns: that of a finite float is, with the sign taken off, below that of the infinity,
-- 2047 * 2 ^ 52; that of a float of moderate size below that of 2 ^ 513, 1536 * 2 ^ 52. Assumes
-- nothing.
use Rattle.std.specs.Prelude.{◌≡◌, refl, ℕ, zero, suc, ◌+◌, ◌*◌, ◌/◌, ◌%◌, ◌^◌, ◌≤◌, ◌<◌, Bool, true, false, not, cond, T, ltb, eqb, pos, Float}
use Rattle.std.proofs.Common.{sym, ap, ◌∙◌, subst, le_trans, le_of_eq, le_of_suc-le-suc, lt_of_le_of_lt, lt_of_lt_of_le, lt_of_not-le, not-le_of_lt, mul-one, mul-le-mul, mod-lt, arith, ltb→lt, lt→ltb, eqb→eq, T_not, lit≤, pow_pos, pow_mono, shl_lt}
use Rattle.std.proofs.Math.Dec.{not_T}
use Rattle.std.specs.Float.{nan, inf, fin, binary64, Format, float_is_finite}
use Rattle.std.specs.Float.Ieee.{prec, low, hid, ones, odd, of_fields, of_bits, to_bits, is_nan, nan_bits, fits}
use Rattle.std.specs.Float.Ieee.Bits.{of_bits-to_bits, to_bits-of_bits, nan_bits_is, is_true}
use Rattle.std.specs.Float.Ieee.Fits.{eq→eqb}
use Rattle.std.specs.Float.Ieee.Exact.{HasValue, odd_sign}
use Rattle.std.specs.Float.Ieee.Scale.{finite}
use Rattle.amplitudes.proofs.Compare.{same_test, lt-values}
use Rattle.amplitudes.specs.Moderate.{within, moderate}

odd-finite : (d : ℕ) (s : Bool) (q k l : ℕ) → finite (odd d s q k l) ≡ true
unfolding odd
odd-finite d s zero k l = refl
odd-finite d s (suc q) k l = refl

fields-finite : (f : Format) (s : Bool) (x t : ℕ) → finite (of_fields f s (suc x) t) ≡ not (eqb (suc x) (ones f))
unfolding of_fields
fields-finite f s x t = go (eqb (suc x) (ones f)) (eqb t 0)
  where
    go : (a b : Bool) → finite (cond a (cond b (inf s) nan) (odd (prec f) s (hid f + t) x (low f))) ≡ not a
    go true true = refl
    go true false = refl
    go false b = odd-finite (prec f) s (hid f + t) x (low f)

at-exponent : (s : Bool) (x t : ℕ) → finite (of_fields binary64 s x t) ≡ not (eqb x 2047)
at-exponent s zero t = unfold of_fields in odd-finite 53 s t 0 1074
at-exponent s (suc x) t = fields-finite binary64 s x t

-- the test on the number
pub finite-pattern : (n : ℕ) → ltb (n % 2 ^ 63) (2047 * 2 ^ 52) ≡ finite (of_bits binary64 n)
unfolding of_bits
finite-pattern n =
    let r = n % 2 ^ 63 in
    let l : r < 2 ^ 63 = mod-lt n (pow_pos 63) in
    same_test (ltb r (2047 * 2 ^ 52)) (not (eqb (r / 2 ^ 52) 2047))
    (λ t. let h = ltb→lt r (2047 * 2 ^ 52) t in not_T (eqb (r / 2 ^ 52) 2047) (λ u. let e = eqb→eq (r / 2 ^ 52) 2047 u in omega arith))
    (λ t. lt→ltb r (2047 * 2 ^ 52) (below r l (λ e. T_not (eqb (r / 2 ^ 52) 2047) t (eq→eqb e))))
    ∙ sym (at-exponent _ (r / 2 ^ 52) (n % 2 ^ 52))
  where
    below : (r : ℕ) → r < 2 ^ 63 → (r / 2 ^ 52 ≡ 2047 → ⊥) → r < 2047 * 2 ^ 52
    below r l f = omega arith

-- ---- moderate size, by the value
by_value : (x : Float) (s : Bool) (a c : ℕ) → 0 < c → HasValue x s a c → moderate x ≡ ltb (a * 1) (1 * 2 ^ 513 * c)
unfolding within
by_value nan s a c C v = absurd v
by_value (inf t) s a c C v = absurd v
by_value (fin t m e) s a c C v = lt-values (fin false m e) (fin false 1 (pos 513)) false false a c (1 * 2 ^ 513) 1 C (pow_pos 0) (refl, v.1) (refl, refl)

-- the exponent's field suc x stands for a number from 2 ^ 52 * 2 ^ x on, below 2 ^ 53 * 2 ^ x, in
-- units of 2 ^ -1074
normal-size : (x t : ℕ) → t < 2 ^ 52 → ltb ((2 ^ 52 + t) * 2 ^ x * 1) (1 * 2 ^ 513 * 2 ^ 1074) ≡ ltb (suc x) 1536
normal-size x t l =
    let v = (2 ^ 52 + t) * 2 ^ x in
    same_test (ltb (v * 1) (2 ^ 1587)) (ltb (suc x) 1536)
    (λ p. lt→ltb (suc x) 1536 (lt_of_not-le (λ (h : 1536 ≤ suc x). not-le_of_lt (ltb→lt (v * 1) (2 ^ 1587) p)
    (le_trans (mul-le-mul {n₁ = 2 ^ 52} {m₁ = 2 ^ 1535} {n₂ = 2 ^ 52 + t} {m₂ = 2 ^ x} (omega arith) (pow_mono (le_of_suc-le-suc h))) (le_of_eq (sym (mul-one v)))))))
    (λ p. lt→ltb (v * 1) (2 ^ 1587) (lt_of_le_of_lt (le_of_eq (mul-one v)) (lt_of_lt_of_le (shl_lt 53 x (omega arith)) (pow_mono {i = 53 + x} {j = 1587} (let h = ltb→lt (suc x) 1536 p in omega arith)))))

at_size : (s : Bool) (x t : ℕ) → t < 2 ^ 52 → moderate (of_fields binary64 s x t) ≡ ltb x 1536
unfolding of_fields within
at_size s zero t l =
    by_value (odd 53 s t 0 1074) s (t * 2 ^ 0) (2 ^ 1074) (pow_pos 1074) (odd_sign 53 s t 0 1074)
    ∙ is_true (ltb (t * 1 * 1) (2 ^ 1587)) (lt→ltb (t * 1 * 1) (2 ^ 1587) (lt_of_le_of_lt (le_of_eq (mul-one (t * 1) ∙ mul-one t)) (lt_of_lt_of_le l (pow_mono {i = 52} {j = 1587} (lit≤ tt)))))
at_size s (suc x) t l = go (eqb (suc x) 2047) (eqb→eq (suc x) 2047) (eqb t 0)
  where
    go : (p : Bool) → (T p → suc x ≡ 2047) → (q : Bool) → moderate (cond p (cond q (inf s) nan) (odd 53 s (2 ^ 52 + t) x 1074)) ≡ ltb (suc x) 1536
    go true e true = sym (ap (λ (y : ℕ). ltb y 1536) (e tt))
    go true e false = sym (ap (λ (y : ℕ). ltb y 1536) (e tt))
    go false e q = by_value (odd 53 s (2 ^ 52 + t) x 1074) s ((2 ^ 52 + t) * 2 ^ x) (2 ^ 1074) (pow_pos 1074) (odd_sign 53 s (2 ^ 52 + t) x 1074) ∙ normal-size x t l

-- the test on the number
pub moderate-pattern : (n : ℕ) → ltb (n % 2 ^ 63) (1536 * 2 ^ 52) ≡ moderate (of_bits binary64 n)
unfolding of_bits
moderate-pattern n =
    let r = n % 2 ^ 63 in
    same_test (ltb r (1536 * 2 ^ 52)) (ltb (r / 2 ^ 52) 1536)
    (λ t. lt→ltb (r / 2 ^ 52) 1536 (let h = ltb→lt r (1536 * 2 ^ 52) t in omega arith))
    (λ t. lt→ltb r (1536 * 2 ^ 52) (let h = ltb→lt (r / 2 ^ 52) 1536 t in omega arith))
    ∙ sym (at_size _ (r / 2 ^ 52) (n % 2 ^ 52) (mod-lt n (pow_pos 52)))

-- std's test is this one
pub std_finite : (x : Float) → float_is_finite x ≡ finite x
unfolding float_is_finite
std_finite nan = refl
std_finite (inf s) = refl
std_finite (fin s m e) = refl

pub finite-no-nan : (x : Float) → T (finite x) → T (not (is_nan x))
unfolding is_nan
finite-no-nan nan t = t
finite-no-nan (inf s) t = tt
finite-no-nan (fin s m e) t = tt

pub finite-pattern-no-nan : (n : ℕ) → T (finite (of_bits binary64 n)) → T (not (nan_bits binary64 n))
finite-pattern-no-nan n t = subst (λ (b : Bool). T (not b)) (sym (nan_bits_is binary64 n)) (finite-no-nan (of_bits binary64 n) t)

-- ---- there and back
pub pattern-back : (n : ℕ) → n < 2 ^ 64 → T (finite (of_bits binary64 n)) → to_bits binary64 (of_bits binary64 n) ≡ n
pattern-back n h t = to_bits-of_bits binary64 n h (finite-no-nan (of_bits binary64 n) t)

pub float_back : (x : Float) → T (fits binary64 x) → of_bits binary64 (to_bits binary64 x) ≡ x
float_back x h = of_bits-to_bits binary64 x h

-- the three laws of a pattern's test, for the functions that make it
pub ruleset pattern_tests = (finite-pattern, moderate-pattern, finite-pattern-no-nan)
