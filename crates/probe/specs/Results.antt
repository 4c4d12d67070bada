-- What `butrask_amplitude` gives. Definitions only.
use Rattle.std.specs.Prelude.{ℕ, Bool, true, false, List, [], ◌∷◌, pos, get_or, Float}
use Rattle.std.specs.Float.{fin}
use Rattle.std.specs.Float.Ieee.Scale.{finite}
use Rattle.amplitudes.specs.declared.Complex.{Complex}
use Rattle.amplitudes.specs.declared.Verdict.{Verdict}
use Rattle.amplitudes.specs.declared.Verdict.TheVariants.{Kept, Dropped}
use Rattle.amplitudes.specs.Amplitudes.{times, over, absolute, larger, norm_inf, norm2, near_one}
use Rattle.amplitudes.specs.Pairs.{accumulated}

abbrev pub flag_of : Bool → Float
flag_of true = fin false 1 (pos 0)
flag_of false = fin false 0 (pos 0)

-- 1 says `Kept`, 0 says `Dropped`
abbrev pub verdict_number : Verdict → Float
verdict_number Kept = flag_of true
verdict_number Dropped = flag_of false

-- the product, the sum and its verdict, the norms of a, a divided by the scale, whether the scale
-- is near 1, whether it is finite, the size of a part, the larger part
abbrev pub amplitude_results : Complex → Complex → Float → List Float
amplitude_results a b scale =
    (times a b).re ∷ (times a b).im
    ∷ (accumulated a b).sum.re ∷ (accumulated a b).sum.im ∷ verdict_number (accumulated a b).verdict
    ∷ norm_inf a ∷ norm2 a
    ∷ (over a scale).re ∷ (over a scale).im
    ∷ flag_of (near_one scale) ∷ flag_of (finite scale) ∷ absolute a.re ∷ larger a.re a.im ∷ []

-- the result with a number, counted from 0; past the last, 0
abbrev pub amplitude_result : ℕ → Complex → Complex → Float → Float
amplitude_result n a b scale = get_or (amplitude_results a b scale) n (flag_of false)
