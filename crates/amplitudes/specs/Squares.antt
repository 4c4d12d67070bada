-- Sums of squares: they are numbers from +0 up, the infinity among them, and so never a NaN.
-- Assumes nothing.
use Prim.Native.Nat.{ℕ, zero, suc, ◌+◌, ◌-◌, ◌*◌, ◌/◌, ◌%◌, ◌^◌, compare}
use Rattle.std.specs.Prelude.{Bool, true, false, not, cond, T, ltb, Float}
use Rattle.std.specs.Float.{nan, inf, fin, Format, binary64}
use Rattle.std.specs.Float.Ieee.{prec, emax, low, up, down, size, nearest, odd, units, round, sum, add, mul, is_nan}
use Rattle.std.specs.Float.Ieee.Fits.{round_is, and_l, and_r}
use Rattle.std.specs.Float.Ieee.Scale.{finite}
use Rattle.amplitudes.specs.declared.Complex.{Complex}
use Rattle.amplitudes.specs.Amplitudes.{norm2, finite_c, from_zero}

odd-from-zero : (d q k l : ℕ) → T (from_zero (odd d false q k l))
unfolding odd
odd-from-zero d zero k l = tt
odd-from-zero d (suc q) k l = tt

units-from-zero : (f : Format) (q k : ℕ) → T (from_zero (units f false q k))
unfolding units
units-from-zero f q k = go (ltb (q * 2 ^ k) (2 ^ (low f + suc (emax f))))
  where
    go : (b : Bool) → T (from_zero (cond b (odd (suc (prec f)) false q k (low f)) (inf false)))
    go true = odd-from-zero (suc (prec f)) q k (low f)
    go false = tt

round-from-zero : (f : Format) (a c : ℕ) → T (from_zero (round f false a c))
round-from-zero f a c =
    let n = a * 2 ^ low f in
    let k = size (n / c) - prec f in
    let u = c * 2 ^ k in
    rw (round_is f false a c) (units-from-zero f (nearest (n / u) (compare (n % u * 2) u)) k)

-- the square of a finite float
square-from-zero : (x : Float) → T (finite x) → T (from_zero (mul binary64 x x))
unfolding mul
square-from-zero nan t = absurd t
square-from-zero (inf s) t = absurd t
square-from-zero (fin true m e) t = round-from-zero binary64 (m * up e * (m * up e)) (down e * down e)
square-from-zero (fin false m e) t = round-from-zero binary64 (m * up e * (m * up e)) (down e * down e)

-- the sum of two such numbers
pub add-from-zero : (x y : Float) → T (from_zero x) → T (from_zero y) → T (from_zero (add binary64 x y))
unfolding add sum
add-from-zero nan y p q = absurd p
add-from-zero (inf true) y p q = absurd p
add-from-zero (inf false) nan p q = absurd q
add-from-zero (inf false) (inf true) p q = absurd q
add-from-zero (inf false) (inf false) p q = tt
add-from-zero (inf false) (fin t n d) p q = tt
add-from-zero (fin true m e) y p q = absurd p
add-from-zero (fin false m e) nan p q = absurd q
add-from-zero (fin false m e) (inf true) p q = absurd q
add-from-zero (fin false m e) (inf false) p q = tt
add-from-zero (fin false m e) (fin true n d) p q = absurd q
add-from-zero (fin false m e) (fin false n d) p q = round-from-zero binary64 (m * up e * down d + n * up d * down e) (down e * down d)

pub from-zero-no-nan : (x : Float) → T (from_zero x) → T (not (is_nan x))
unfolding is_nan
from-zero-no-nan nan t = t
from-zero-no-nan (inf s) t = tt
from-zero-no-nan (fin s m e) t = tt

pub norm2-from-zero : (a : Complex) → T (finite_c a) → T (from_zero (norm2 a))
unfolding norm2
norm2-from-zero a t =
    let R = finite a.re in
    let I = finite a.im in
    add-from-zero (mul binary64 a.re a.re) (mul binary64 a.im a.im) (square-from-zero a.re (and_l R I t)) (square-from-zero a.im (and_r R I t))
