-- The definitions at numbers of the worked cases (SPECIFICATION 12.1). Nothing cites this module.
use Rattle.std.specs.Prelude.{◌≡◌, refl, ℕ, true, false, pos, negsuc}
use Rattle.std.specs.Float.{binary64}
use Rattle.std.specs.Float.Ieee.{of_bits}
use Rattle.amplitudes.specs.declared.Complex.{Complex}
use Rattle.amplitudes.specs.declared.U4.{U4}
use Rattle.amplitudes.specs.declared.Verdict.TheVariants.{Kept, Dropped}
use Rattle.amplitudes.specs.Amplitudes.{eps, near_one}
use Rattle.amplitudes.specs.Pairs.{combined}
use Rattle.amplitudes.specs.Numbers.{is_whole, whole_of}

abbrev real : ℕ → Complex
unfolding of_bits
real n = record { re = of_bits binary64 n; im = of_bits binary64 0 }

-- −3, −0 and 1.5
minus-three : whole_of (of_bits binary64 0xc008_0000_0000_0000) ≡ negsuc 2
unfolding whole_of of_bits
minus-three = refl

minus-zero : whole_of (of_bits binary64 0x8000_0000_0000_0000) ≡ pos 0
unfolding whole_of of_bits
minus-zero = refl

one_and_a_half : is_whole (of_bits binary64 0x3ff8_0000_0000_0000) ≡ false
unfolding is_whole of_bits
one_and_a_half = refl

-- EPS, by its pattern
eps-pattern : of_bits binary64 0x3d70_0000_0000_0000 ≡ eps
unfolding of_bits
eps-pattern = refl

-- gate 1 0 1 1, 2^40 at the clear key
abbrev gate : U4
unfolding of_bits
gate = record { s0 = real 0x3ff0_0000_0000_0000; f0 = real 0; s1 = real 0x3ff0_0000_0000_0000; f1 = real 0x3ff0_0000_0000_0000 }

-- case d: with 1 − 2^40 at the set key the sum 1 is dropped, and kept where the set entry's product
-- comes first
case-d : (combined gate false (real 0x4270_0000_0000_0000) (real 0xc26f_ffff_ffff_e000)).stay.verdict ≡ Dropped
unfolding combined of_bits
case-d = refl

case-d-other : (combined gate true (real 0xc26f_ffff_ffff_e000) (real 0x4270_0000_0000_0000)).flip.verdict ≡ Kept
unfolding combined of_bits
case-d-other = refl

-- case e: with 2 − 2^40 the sum 2 is kept
case-e : (combined gate false (real 0x4270_0000_0000_0000) (real 0xc26f_ffff_ffff_c000)).stay.verdict ≡ Kept
unfolding combined of_bits
case-e = refl

-- cases g and i: 1 + 2^-41 is near 1, and 1 + 2^-40 is not
case-g : near_one (of_bits binary64 0x3ff0_0000_0000_0800) ≡ true
unfolding near_one of_bits
case-g = refl

case-i : near_one (of_bits binary64 0x3ff0_0000_0000_1000) ≡ false
unfolding near_one of_bits
case-i = refl
