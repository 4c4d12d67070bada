-- Whether demand 3 covers a gate, as a test on the exact numbers, and the gate's weight: what the
-- contract of `gate_weight` cites. Definitions only; `WeighedLaws` ties the test to `Admissible`.
use Rattle.std.specs.Prelude.{Bool, false, cond, ◌&&◌, leb, eqb, ℤ, pos, negsuc, nat_abs, Float, Option, None, Some}
use Rattle.std.specs.Float.{fin, binary64}
use Rattle.std.specs.Float.Ieee.{add, eq, of_int}
use Rattle.algebra.specs.Gate.{Gate, column0, column1, cross}
use Rattle.algebra.specs.Ring.{ints}
use Rattle.amplitudes.specs.declared.Complex.{Complex}
use Rattle.amplitudes.specs.declared.U4.{U4}
use Rattle.amplitudes.specs.Amplitudes.{times, plus, conjugate, norm2, both_parts, all_parts}
use Rattle.amplitudes.specs.Numbers.{is_whole, whole_of, gauss, gauss_gate}
-- a proof opens it to compute a constant of the code
pub use Rattle.std.specs.Float.Ieee.{of_bits}

-- two integers are the same
abbrev pub equal : ℤ → ℤ → Bool
equal (pos m) (pos n) = eqb m n
equal (pos m) (negsuc n) = false
equal (negsuc m) (pos n) = false
equal (negsuc m) (negsuc n) = eqb m n

-- a whole number of at most 16 in size: a part, an amplitude, a gate
unfoldable pub small_whole : Float → Bool
unfolding is_whole whole_of
small_whole x = is_whole x && leb (nat_abs (whole_of x)) 16

abbrev pub small_parts : Complex → Bool
small_parts a = both_parts small_whole a

abbrev pub small_gate : U4 → Bool
small_gate g = all_parts small_whole g

-- the columns are of one squared length, and orthogonal
unfoldable pub balanced : Gate ℤ → Bool
balanced g =
    equal (column0 ints g) (column1 ints g)
    && (equal (cross ints g).re (pos 0) && equal (cross ints g).im (pos 0))

-- demand 3 covers the gate
abbrev pub is_admissible : U4 → Bool
is_admissible g = small_gate g && balanced (gauss_gate g)

-- the weight as a float, the squared length of the first column
abbrev pub float_weight : U4 → Float
float_weight g = of_int binary64 (column0 ints (gauss_gate g))

-- the weight of a gate that demand 3 covers, and none of any other
unfoldable pub weighed_of : U4 → Option Float
unfolding small_whole balanced gauss of_int
weighed_of g = cond (is_admissible g) (Some (float_weight g)) None

-- ---- the same by floats, as the code computes: by `WeighedLaws` nothing is rounded on a small gate

unfoldable pub column_f : Complex → Complex → Float
unfolding add norm2
column_f a b = add binary64 (norm2 a) (norm2 b)

unfoldable pub cross_f : U4 → Complex
unfolding plus times conjugate
cross_f g = plus (times g.s0 (conjugate g.f1)) (times g.f0 (conjugate g.s1))

-- both parts are 0, of either sign
unfoldable pub zero_f : Complex → Bool
unfolding eq
zero_f a = eq a.re (fin false 0 (pos 0)) && eq a.im (fin false 0 (pos 0))

unfoldable pub balanced_f : U4 → Bool
unfolding eq column_f cross_f zero_f
balanced_f g = eq (column_f g.s0 g.f0) (column_f g.f1 g.s1) && zero_f (cross_f g)
