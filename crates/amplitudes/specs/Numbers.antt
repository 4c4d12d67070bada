-- Whole numbers as floats, and amplitudes and gates whose parts are whole as Gaussian integers.
-- Definitions only.
use Rattle.std.specs.Prelude.{◌≡◌, ℕ, ◌*◌, ◌/◌, ◌%◌, ◌≤◌, max, Bool, false, cond, T, eqb, ltb, ℤ, pos, neg_ℤ, nat_abs, Float}
use Rattle.std.specs.Float.{nan, inf, fin}
use Rattle.std.specs.Float.Ieee.{up, down}
use Rattle.algebra.specs.Gate.{Gauss, Gate}
use Rattle.amplitudes.specs.declared.Complex.{Complex}
use Rattle.amplitudes.specs.declared.U4.{U4}

-- the integer with a sign and a size
abbrev pub signed : Bool → ℕ → ℤ
signed s n = cond s (neg_ℤ (pos n)) (pos n)

-- finite, and without a fraction
unfoldable pub is_whole : Float → Bool
is_whole nan = false
is_whole (inf s) = false
is_whole (fin s m e) = eqb (m * up e % down e) 0

-- the number that a whole float stands for: either zero is 0
unfoldable pub whole_of : Float → ℤ
whole_of nan = pos 0
whole_of (inf s) = pos 0
whole_of (fin s m e) = signed s (m * up e / down e)

-- x is whole, and stands for z
pub record Whole (x : Float) (z : ℤ) : Type 0 where
  pub whole : T (is_whole x)
  pub value : whole_of x ≡ z

-- besides, z is at most B in size
pub record Within (B : ℕ) (x : Float) (z : ℤ) : Type 0 where
  pub exact : Whole x z
  pub bound : nat_abs z ≤ B

-- both parts of an amplitude are whole
unfoldable pub WholeC : Complex → Type 0
unfolding is_whole
WholeC a = T (is_whole a.re) × T (is_whole a.im)

-- the Gaussian integer of an amplitude, and the gate of Gaussian integers of a gate
unfoldable pub gauss : Complex → Gauss
unfolding whole_of
gauss a = record { re = whole_of a.re; im = whole_of a.im }

abbrev pub gauss_gate : U4 → Gate ℤ
gauss_gate g = record { s0 = gauss g.s0; f0 = gauss g.f0; f1 = gauss g.f1; s1 = gauss g.s1 }

-- no part exceeds b in size
abbrev pub Small : ℕ → Gauss → Type 0
Small b a = (nat_abs a.re ≤ b) × (nat_abs a.im ≤ b)

-- an amplitude has whole parts, and stands for g
pub record Stands (a : Complex) (g : Gauss) : Type 0 where
  pub re : Whole a.re g.re
  pub im : Whole a.im g.im

-- besides, no part of g exceeds B in size
pub record StandsWithin (B : ℕ) (a : Complex) (g : Gauss) : Type 0 where
  pub re : Within B a.re g.re
  pub im : Within B a.im g.im

-- the larger size of the two parts
abbrev pub norm_g : Gauss → ℕ
norm_g g = max (nat_abs g.re) (nat_abs g.im)

-- not 0
unfoldable pub nonzero : Gauss → Bool
nonzero g = ltb 0 (norm_g g)
