-- What `weighed_of` says of some gates, for a reader who wants to see the test at work. Nothing
-- cites this module.
use Rattle.std.specs.Prelude.{◌≡◌, refl, ℕ, ◌+◌, None, Some}
use Rattle.std.specs.Float.{binary64}
use Rattle.std.specs.Float.Ieee.{of_bits}
use Rattle.amplitudes.specs.declared.Complex.{Complex}
use Rattle.amplitudes.specs.declared.U4.{U4}
use Rattle.exact.specs.Cases.{real, real_gate, gate_c}
use Rattle.exact.specs.Weighed.{weighed_of}

-- the patterns of 1, 1/2, 16, 17 and of the infinity
abbrev one : ℕ
one = 0x3ff0_0000_0000_0000

abbrev half : ℕ
half = 0x3fe0_0000_0000_0000

abbrev sixteen : ℕ
sixteen = 0x4030_0000_0000_0000

abbrev seventeen : ℕ
seventeen = 0x4031_0000_0000_0000

abbrev infinity : ℕ
infinity = 0x7ff0_0000_0000_0000

-- i times a real number
abbrev imaginary : ℕ → Complex
imaginary p = record { re = of_bits binary64 0x8000_0000_0000_0000; im = of_bits binary64 p }

-- columns (1, i) and (i, 1): without the conjugates they would not be orthogonal
abbrev turned : U4
turned = record { s0 = real one; f0 = imaginary one; s1 = real one; f1 = imaginary one }

-- the patterns of 2 and 512
case-c : weighed_of gate_c ≡ Some (of_bits binary64 0x4000_0000_0000_0000)
unfolding weighed_of of_bits
case-c = refl

imaginary-parts : weighed_of turned ≡ Some (of_bits binary64 0x4000_0000_0000_0000)
unfolding weighed_of of_bits
imaginary-parts = refl

largest-real : weighed_of (real_gate sixteen sixteen sixteen (sixteen + 0x8000_0000_0000_0000)) ≡ Some (of_bits binary64 0x4080_0000_0000_0000)
unfolding weighed_of of_bits
largest-real = refl

all-zero : weighed_of (real_gate 0 0 0 0x8000_0000_0000_0000) ≡ Some (of_bits binary64 0)
unfolding weighed_of of_bits
all-zero = refl

too_large : weighed_of (real_gate seventeen 0 seventeen 0) ≡ None
unfolding weighed_of of_bits
too_large = refl

not-whole : weighed_of (real_gate half half half half) ≡ None
unfolding weighed_of of_bits
not-whole = refl

not_finite_lem : weighed_of (real_gate infinity 0 infinity 0) ≡ None
unfolding weighed_of of_bits
not_finite_lem = refl

two-lengths : weighed_of (real_gate one 0 sixteen 0) ≡ None
unfolding weighed_of of_bits
two-lengths = refl

not-orthogonal : weighed_of (real_gate one one one one) ≡ None
unfolding weighed_of of_bits
not-orthogonal = refl
