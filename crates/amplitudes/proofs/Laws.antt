-- What this crate promises of its definitions: all that a crate above may cite besides their names.
-- Assumes nothing.
use Rattle.std.specs.Prelude.{◌≡◌, refl, ℕ, ◌+◌, ◌*◌, ◌^◌, ◌≤◌, ◌≢◌, ◌↔◌, Bool, true, false, not, T, ℤ, pos, neg_ℤ, nat_abs, Float}
use Rattle.std.proofs.Common.{sym, ap, ◌∙◌, arith, lit≤}
use Rattle.std.specs.Float.{nan, inf, fin, binary64}
use Rattle.std.specs.Float.Ieee.{add, mul}
use Rattle.std.specs.Float.Ieee.Fits.{add-fits, sub-fits, div-fits}
use Rattle.std.specs.Float.Ieee.Scale.{finite}
use Rattle.algebra.specs.Ring.{ints}
use Rattle.algebra.specs.Gate.{Gauss, ◌·◌, ◌⊕◌, zero_g, squared}
use Rattle.algebra.specs.Gate as algebra
use Rattle.amplitudes.specs.declared.Complex.{Complex}
use Rattle.amplitudes.specs.declared.U4.{U4}
use Rattle.amplitudes.specs.declared.Verdict.TheVariants.{Dropped}
use Rattle.amplitudes.specs.Amplitudes.{times, plus, opposite, times_i, over_i, conjugate, over, norm2, finite_c, FitsC, from_zero}
use Rattle.amplitudes.specs.Pairs.{exceeds, judged, is_kept, accumulated, stay_of, flip_of, applied, combined}
use Rattle.amplitudes.specs.Numbers.{is_whole, whole_of, Whole, Within, gauss, WholeC, Small, nonzero, Stands, StandsWithin}
use Rattle.amplitudes.proofs.Verdicts.{exceeds-exact}
use Rattle.amplitudes.proofs.Whole.{of_test}
use Rattle.amplitudes.proofs.Exact.{mul-within, sub_within, neg-within}
-- Bit patterns. A pattern is that of a finite float where, its sign taken off, it is below that of
-- the infinity; it is then not that of a NaN.
pub use Rattle.amplitudes.proofs.PatternLaws.{finite-pattern, finite-pattern-no-nan, finite-no-nan, std_finite}
-- One of a float of moderate size is, its sign taken off, below that of 2^513.
pub use Rattle.amplitudes.proofs.PatternLaws.{moderate-pattern}
-- A finite pattern read and written back is the same pattern; a float that the format holds,
-- written and read back, is the same float.
pub use Rattle.amplitudes.proofs.PatternLaws.{pattern-back, float_back}
-- What the code reads of a finite pattern is the float that is written there, of any other it is
-- not finite either; so of a gate's eight patterns.
pub use Rattle.amplitudes.specs.ReadingLaws.{read-as-written, read-not-finite, read-finite, gate-finite, gate_same}
-- Sizes. Where the format holds x, its size is 0 − x if x ≤ 0, and x elsewhere.
pub use Rattle.amplitudes.specs.Rounding.{absolute-difference}
-- Moderate size. What is of moderate size is finite; so is each product of such an amplitude and a
-- factor below 2^500, each sum of two products that such a gate makes, and such an amplitude
-- divided by what is away from zero.
pub use Rattle.amplitudes.specs.Bounded.{moderate-finite-amplitude, moderate-finite-gate, moderate-times, moderate-applied, moderate-pair, moderate-over}
-- Sums of squares. `norm2` of finite parts is from +0 up, and so is the sum of two such numbers:
-- never a NaN, though the infinity is among them.
pub use Rattle.amplitudes.specs.Squares.{norm2-from-zero, add-from-zero, from-zero-no-nan}
-- Whole numbers, exact while the exact result is at most 2 ^ 53 in size. + − × and negation; b c
-- divided by b is c; + with bounds carried along.
pub use Rattle.amplitudes.proofs.Exact.{add-exact, sub-exact, mul-exact, neg-exact, div-exact, add-within}
-- A Gaussian integer is 0 exactly where `nonzero` says so.
pub use Rattle.amplitudes.proofs.Verdicts.{nonzero-false, nonzero-zero}
-- A float equals one that stands for b exactly where it stands for b itself. A natural number as a
-- float stands for itself, one from +0 up is the float of the number that it stands for, and |x|
-- stands for the size of what x stands for.
pub use Rattle.amplitudes.proofs.Equal.{eq-whole, of_int-whole, from-zero-of_int, absolute-whole, absolute-back}
-- Two tests are the same where each passes if the other does.
pub use Rattle.amplitudes.proofs.Compare.{same_test}
-- Sizes of sums, products and opposites of whole numbers.
pub use Rattle.amplitudes.proofs.Sizes.{nat_abs-neg, nat_abs_mul, nat_abs-add}

-- ---- an amplitude with whole parts stands for its Gaussian integer, and for no other
pub whole-within : (b : ℕ) (a : Complex) → WholeC a → Small b (gauss a) → StandsWithin b a (gauss a)
unfolding WholeC gauss
whole-within b a w s = record { re = record { exact = of_test a.re w.0; bound = s.0 }; im = record { exact = of_test a.im w.1; bound = s.1 } }

pub stands-gauss : {a : Complex} {g : Gauss} → Stands a g → gauss a ≡ g
unfolding gauss
stands-gauss h = λ i. record { re = h.re.value i; im = h.im.value i }

pub stands-whole : {a : Complex} {g : Gauss} → Stands a g → WholeC a
unfolding WholeC
stands-whole h = (h.re.whole, h.im.whole)

-- what is whole is finite
pub whole-finite : {x : Float} {z : ℤ} → Whole x z → T (finite x)
unfolding is_whole
whole-finite {x = nan} w = w.whole
whole-finite {x = inf s} w = w.whole
whole-finite {x = fin s m e} w = tt

pub stands : {B : ℕ} {p : Complex} {g : Gauss} → StandsWithin B p g → Stands p g
stands P = record { re = P.re.exact; im = P.im.exact }

pub small : {B : ℕ} {p : Complex} {g : Gauss} → StandsWithin B p g → Small B g
small P = (P.re.bound, P.im.bound)

-- ---- the operations on amplitudes that stand for Gaussian integers
pub times-exact : {A B : ℕ} {p q : Complex} {g h : Gauss} → StandsWithin A p g → StandsWithin B q h → A * B + A * B ≤ 2 ^ 53 → StandsWithin (A * B + A * B) (times p q) (g · h)
unfolding times
times-exact {A} {B} P Q l =
    let k : A * B ≤ 2 ^ 53 = omega arith in
    record { re = sub_within (mul-within P.re Q.re k) (mul-within P.im Q.im k) l; im = add-within (mul-within P.re Q.im k) (mul-within P.im Q.re k) l }

pub plus-exact : {A B : ℕ} {p q : Complex} {g h : Gauss} → StandsWithin A p g → StandsWithin B q h → A + B ≤ 2 ^ 53 → StandsWithin (A + B) (plus p q) (g ⊕ h)
unfolding plus
plus-exact P Q l = record { re = add-within P.re Q.re l; im = add-within P.im Q.im l }

-- for a later call: phases will use these three
pub opposite-exact : {B : ℕ} {p : Complex} {g : Gauss} → StandsWithin B p g → StandsWithin B (opposite p) (record { re = neg_ℤ g.re; im = neg_ℤ g.im })
unfolding opposite
opposite-exact P = record { re = neg-within P.re; im = neg-within P.im }

pub times_i-exact : {B : ℕ} {p : Complex} {g : Gauss} → StandsWithin B p g → StandsWithin B (times_i p) (record { re = neg_ℤ g.im; im = g.re })
unfolding times_i
times_i-exact P = record { re = neg-within P.im; im = P.re }

pub over_i-exact : {B : ℕ} {p : Complex} {g : Gauss} → StandsWithin B p g → StandsWithin B (over_i p) (record { re = g.im; im = neg_ℤ g.re })
unfolding over_i
over_i-exact P = record { re = P.im; im = neg-within P.re }

pub conjugate-exact : {B : ℕ} {p : Complex} {g : Gauss} → StandsWithin B p g → StandsWithin B (conjugate p) (algebra.conj ints g)
unfolding conjugate
conjugate-exact P = record { re = P.re; im = neg-within P.im }

pub norm2-exact : {B : ℕ} {p : Complex} {g : Gauss} → StandsWithin B p g → B * B + B * B ≤ 2 ^ 53 → Within (B * B + B * B) (norm2 p) (squared ints g)
unfolding norm2
norm2-exact {B} P l =
    let k : B * B ≤ 2 ^ 53 = omega arith in
    add-within (mul-within P.re P.re k) (mul-within P.im P.im k) l

-- w g divided by w is g, and so is 2 g halved
pub over-exact : {p : Complex} {y : Float} {w : ℤ} {g : Gauss} → Stands p (algebra.times_number ints w g) → Whole y w → w ≢ pos 0 → Small (2 ^ 53) g → Stands (over p y) g
unfolding over
over-exact P Y n s = record { re = div-exact P.re Y n s.0; im = div-exact P.im Y n s.1 }

pub half-exact : {p : Complex} {g : Gauss} → Stands p (algebra.times_number ints (pos 2) g) → Small (2 ^ 53) g → Stands (over p (fin false 1 (pos 1))) g
unfolding is_whole whole_of
half-exact P s = over-exact P (record { whole = tt; value = refl }) (λ e. absurd (two-zero e)) s
  where
    two-zero : pos 2 ≡ pos 0 → ⊥
    two-zero e = let k = ap nat_abs e in omega arith

-- ---- a row of a gate: with gate parts up to 16 and amplitude parts up to 2 ^ 34, a product is within 2 ^ 39 and a sum of two within 2 ^ 40
pub product-exact : {u p : Complex} {g h : Gauss} → StandsWithin 16 u g → StandsWithin (2 ^ 34) p h → StandsWithin (2 ^ 39) (times u p) (g · h)
product-exact U P = times-exact U P (lit≤ tt)

pub two-products-exact : {u v p q : Complex} {g h i j : Gauss} → StandsWithin 16 u g → StandsWithin (2 ^ 34) p h → StandsWithin 16 v i → StandsWithin (2 ^ 34) q j
    → StandsWithin (2 ^ 40) (plus (times u p) (times v q)) (g · h ⊕ i · j)
two-products-exact U P W Q = plus-exact (product-exact U P) (product-exact W Q) (lit≤ tt)

-- what a verdict says is what it was made from
pub kept-judged : (b : Bool) → is_kept (judged b) ≡ b
kept-judged true = refl
kept-judged false = refl

-- the verdict on that sum goes by whether it is 0
pub verdict-exact : {u v p q : Complex} {g h i j : Gauss} → StandsWithin 16 u g → StandsWithin (2 ^ 34) p h → StandsWithin 16 v i → StandsWithin (2 ^ 34) q j
    → (accumulated (times u p) (times v q)).verdict ≡ judged (nonzero (g · h ⊕ i · j))
unfolding accumulated
verdict-exact U P W Q = ap judged (exceeds-exact (stands (product-exact U P)) (small (product-exact U P)) (stands (two-products-exact U P W Q)))

-- it is dropped exactly where it is 0
pub dropped-exact : {u v p q : Complex} {g h i j : Gauss} → StandsWithin 16 u g → StandsWithin (2 ^ 34) p h → StandsWithin 16 v i → StandsWithin (2 ^ 34) q j
    → ((accumulated (times u p) (times v q)).verdict ≡ Dropped) ↔ (g · h ⊕ i · j ≡ zero_g)
dropped-exact {g = g} {h = h} {i = i} {j = j} U P W Q =
    let s = g · h ⊕ i · j in
    let e = verdict-exact U P W Q in
    ((λ d. nonzero-false s (sym (kept-judged (nonzero s)) ∙ ap is_kept (sym e ∙ d))), (λ z. e ∙ ap (λ (k : Gauss). judged (nonzero k)) z ∙ ap judged nonzero-zero))

-- ---- what a gate makes of one amplitude and of two, opened a step at a time
pub applied-is : (g : U4) (set : Bool) (a : Complex) → applied g set a ≡ record { stay = times (stay_of g set) a; flip = times (flip_of g set) a }
unfolding applied
applied-is g set a = refl

pub accumulated-is : (first other : Complex) → accumulated first other ≡ record { first = first; sum = plus first other; verdict = judged (exceeds (plus first other) first) }
unfolding accumulated
accumulated-is first other = refl

pub pair_is : (g : U4) (set : Bool) (a b : Complex)
    → combined g set a b ≡ record { stay = accumulated (times (stay_of g set) a) (times (flip_of g (not set)) b); flip = accumulated (times (flip_of g set) a) (times (stay_of g (not set)) b) }
unfolding combined applied
pair_is g set a b = refl

-- ---- a running sum of squares, from +0
pub running-from-zero : (s : Float) (a : Complex) → T (from_zero s) → T (finite_c a) → T (from_zero (add binary64 s (norm2 a)))
running-from-zero s a p f = add-from-zero s (norm2 a) p (norm2-from-zero a f)

-- ---- the format holds what the operations give
pub times-fits : (a b : Complex) → FitsC (times a b)
unfolding times
times-fits a b = (sub-fits binary64 (mul binary64 a.re b.re) (mul binary64 a.im b.im), add-fits binary64 (mul binary64 a.re b.im) (mul binary64 a.im b.re))

pub plus-fits : (a b : Complex) → FitsC (plus a b)
unfolding plus
plus-fits a b = (add-fits binary64 a.re b.re, add-fits binary64 a.im b.im)

pub over-fits : (a : Complex) (scale : Float) → FitsC (over a scale)
unfolding over
over-fits a scale = (div-fits binary64 a.re scale, div-fits binary64 a.im scale)
