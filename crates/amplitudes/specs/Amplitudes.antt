-- Amplitude arithmetic as complex.rs has it: each operation is IEEE 754's on binary64, rounded
-- once, none fused. Definitions only.
use Rattle.std.specs.Prelude.{Bool, false, not, cond, ◌&&◌, T, pos, negsuc, Float}
use Rattle.std.specs.Float.{nan, inf, fin, binary64}
use Rattle.std.specs.Float.Ieee.{add, sub, mul, div, neg, lt, fits}
use Rattle.std.specs.Float.Ieee.Scale.{finite}
-- a proof opens it to compute a constant of the code
pub use Rattle.std.specs.Float.Ieee.{of_bits}
use Rattle.amplitudes.specs.declared.Complex.{Complex}
use Rattle.amplitudes.specs.declared.U4.{U4}

-- a·b: its re is a.re·b.re − a.im·b.im, its im a.re·b.im + a.im·b.re
unfoldable pub times : Complex → Complex → Complex
unfolding add sub mul
times a b = record {
  re = sub binary64 (mul binary64 a.re b.re) (mul binary64 a.im b.im);
  im = add binary64 (mul binary64 a.re b.im) (mul binary64 a.im b.re);
}

-- the sum, part by part
unfoldable pub plus : Complex → Complex → Complex
unfolding add
plus a b = record { re = add binary64 a.re b.re; im = add binary64 a.im b.im }

-- −a
unfoldable pub opposite : Complex → Complex
unfolding neg
opposite a = record { re = neg a.re; im = neg a.im }

-- i·a: its re is −a.im, its im a.re
unfoldable pub times_i : Complex → Complex
unfolding neg
times_i a = record { re = neg a.im; im = a.re }

-- a / i: its re is a.im, its im −a.re
unfoldable pub over_i : Complex → Complex
unfolding neg
over_i a = record { re = a.im; im = neg a.re }

-- the conjugate: im is negated
unfoldable pub conjugate : Complex → Complex
unfolding neg
conjugate a = record { re = a.re; im = neg a.im }

-- both parts divided by a scale
unfoldable pub over : Complex → Float → Complex
unfolding div
over a scale = record { re = div binary64 a.re scale; im = div binary64 a.im scale }

-- the size of a float: its sign is cleared, that of −0 too
abbrev pub absolute : Float → Float
absolute nan = nan
absolute (inf s) = inf false
absolute (fin s m e) = fin false m e

-- the larger of two, the first where neither is below the other
unfoldable pub larger : Float → Float → Float
unfolding lt
larger x y = cond (lt x y) y x

-- the larger size of the two parts
unfoldable pub norm_inf : Complex → Float
unfolding larger
norm_inf a = larger (absolute a.re) (absolute a.im)

-- re·re + im·im
unfoldable pub norm2 : Complex → Float
unfolding add mul
norm2 a = add binary64 (mul binary64 a.re a.re) (mul binary64 a.im a.im)

-- EPS, 2^-40
abbrev pub eps : Float
eps = fin false 1 (negsuc 39)

-- 1
abbrev pub one_f : Float
one_f = fin false 1 (pos 0)

-- |scale − 1| < EPS
unfoldable pub near_one : Float → Bool
unfolding sub lt
near_one scale = lt (absolute (sub binary64 scale one_f)) eps

-- a test of both parts of an amplitude, and of all eight of a gate
abbrev pub both_parts : (Float → Bool) → Complex → Bool
both_parts test a = test a.re && test a.im

abbrev pub all_parts : (Float → Bool) → U4 → Bool
all_parts test g = (both_parts test g.s0 && both_parts test g.f0) && (both_parts test g.s1 && both_parts test g.f1)

-- no part is an infinity or a NaN: of an amplitude, of a gate
abbrev pub finite_c : Complex → Bool
finite_c a = both_parts finite a

abbrev pub finite_gate : U4 → Bool
finite_gate g = all_parts finite g

-- the format holds both parts
abbrev pub FitsC : Complex → Type 0
FitsC a = T (fits binary64 a.re) × T (fits binary64 a.im)

-- a number from +0 up, the infinity among them
abbrev pub from_zero : Float → Bool
from_zero nan = false
from_zero (inf s) = not s
from_zero (fin s m e) = not s
