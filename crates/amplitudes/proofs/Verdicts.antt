-- The verdict is exact on whole numbers: where no part of the first operand exceeds 2 ^ 39, eps
-- times its norm is at most 1 / 2. So a sum exceeds it exactly where the sum is not 0. Assumes
-- nothing.
use Rattle.std.specs.Prelude.{◌≡◌, refl, ℕ, ◌+◌, ◌*◌, ◌^◌, ◌≤◌, ◌<◌, max, Bool, true, false, not, ℤ, pos, negsuc, nat_abs, T, ltb, Float}
use Rattle.std.proofs.Common.{sym, ap, ◌∙◌, subst, lt_of_lt_of_le, zero-lt-suc, mul-one, one-mul, mul_assoc, mul_comm, mul-pos, arith, true≢false, ltb→lt, lt→ltb, nltb→le, lit≤, pow_pos, pow_mono, shl_lt}
use Rattle.std.specs.Float.{nan, inf, fin, binary64}
use Rattle.std.specs.Float.Ieee.{up, down, round, mul}
use Rattle.std.specs.Float.Ieee.Fits.{down_pos}
use Rattle.std.specs.Float.Ieee.Exact.{HasValue, round_exact}
use Rattle.std.specs.Float.Ieee.Scale.{round_same}
use Rattle.algebra.specs.Gate.{Gauss, zero_g}
use Rattle.amplitudes.specs.declared.Complex.{Complex}
use Rattle.amplitudes.proofs.Compare.{lt-values, same_test, absolute-value, larger-value}
use Rattle.amplitudes.specs.Numbers.{Small, norm_g, nonzero, Stands}
use Rattle.amplitudes.specs.Amplitudes.{absolute, eps, norm_inf}
use Rattle.amplitudes.specs.Pairs.{exceeds}

-- ---- the norm of whole parts
pub norm_inf-value : {p : Complex} {g : Gauss} → Stands p g → HasValue (norm_inf p) false (norm_g g) 1
unfolding norm_inf
norm_inf-value {p} {g} P = larger-value (absolute p.re) (absolute p.im) (nat_abs g.re) (nat_abs g.im) (absolute-value P.re) (absolute-value P.im)

-- ---- eps times a whole number n below 2 ^ 53 is n / 2 ^ 40, with no rounding
round-eps : (n : ℕ) → n < 2 ^ 53 → HasValue (round binary64 false n (2 ^ 40)) false n (2 ^ 40)
round-eps n h = round_exact binary64 false n (2 ^ 40) n 1034 (pow_pos 40) h (lt_of_lt_of_le (shl_lt 53 1034 h) (pow_mono {i = 53 + 1034} {j = 2098} (lit≤ tt))) (sym (mul_assoc n (2 ^ 1034) (2 ^ 40)))

eps-value : (y : Float) (n : ℕ) → n < 2 ^ 53 → HasValue y false n 1 → HasValue (mul binary64 eps y) false n (2 ^ 40)
unfolding mul
eps-value nan n h v = absurd v
eps-value (inf t) n h v = absurd v
eps-value (fin true m e) n h v = absurd (true≢false v.0)
eps-value (fin false m e) n h v =
    subst (λ (x : Float). HasValue x false n (2 ^ 40))
    (sym (round_same binary64 false (1 * (m * up e)) (2 ^ 40 * down e) n (2 ^ 40) (mul-pos (pow_pos 40) (down_pos e)) (pow_pos 40)
    (ap (λ (k : ℕ). k * 2 ^ 40) (one-mul (m * up e) ∙ sym (mul-one (m * up e)) ∙ v.1) ∙ mul_assoc n (down e) (2 ^ 40) ∙ ap (λ (k : ℕ). n * k) (mul_comm (down e) (2 ^ 40)))))
    (round-eps n h)

-- ---- a Gaussian integer is not 0
nat_abs-zero : (z : ℤ) → nat_abs z ≡ 0 → z ≡ pos 0
nat_abs-zero (pos n) e = ap pos e
nat_abs-zero (negsuc n) e = absurd (omega arith)

pub nonzero-false : (g : Gauss) → nonzero g ≡ false → g ≡ zero_g
unfolding nonzero
nonzero-false g e =
    let h : norm_g g ≤ 0 = nltb→le 0 (norm_g g) (subst (λ (t : Bool). T (not t)) (sym e) tt) in
    λ i. record { re = nat_abs-zero g.re (low (nat_abs g.re) (nat_abs g.im) h) i; im = nat_abs-zero g.im (high (nat_abs g.re) (nat_abs g.im) h) i }
  where
    low : (a b : ℕ) → max a b ≤ 0 → a ≡ 0
    low a b h = omega arith

    high : (a b : ℕ) → max a b ≤ 0 → b ≡ 0
    high a b h = omega arith

pub nonzero-zero : nonzero zero_g ≡ false
unfolding nonzero
nonzero-zero = refl

-- ---- the verdict

norm-bound : (a b c : ℕ) → a ≤ c → b ≤ c → max a b ≤ c
norm-bound a b c h k = omega arith

verdict : (n m : ℕ) → n ≤ 2 ^ 39 → ltb (n * 1) (m * 2 ^ 40) ≡ ltb 0 m
verdict n m h = same_test (ltb (n * 1) (m * 2 ^ 40)) (ltb 0 m)
    (λ t. lt→ltb 0 m (let l = ltb→lt (n * 1) (m * 2 ^ 40) t in omega arith))
    (λ t. lt→ltb (n * 1) (m * 2 ^ 40) (let l = ltb→lt 0 m t in omega arith))

pub exceeds-exact : {p r : Complex} {g h : Gauss} → Stands p g → Small (2 ^ 39) g → Stands r h → exceeds r p ≡ nonzero h
unfolding nonzero exceeds
exceeds-exact {p} {r} {g} {h} P s R =
    let n = norm_g g in
    let l : n ≤ 2 ^ 39 = norm-bound (nat_abs g.re) (nat_abs g.im) (2 ^ 39) s.0 s.1 in
    lt-values (mul binary64 eps (norm_inf p)) (norm_inf r) false false n (2 ^ 40) (norm_g h) 1 (pow_pos 40) (zero-lt-suc 0) (eps-value (norm_inf p) n (omega arith) (norm_inf-value P)) (norm_inf-value R)
    ∙ verdict n (norm_g h) l
