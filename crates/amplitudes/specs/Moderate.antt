-- Floats of moderate size: gates and divisions of them never overflow (`Laws`). Definitions only.
-- Two limits: 2^513 for amplitudes, so that testing a pattern needs one constant in machine code;
-- 2^500 for gates, since 2^513 times 2^513 overflows.
use Rattle.std.specs.Prelude.{ℕ, Bool, false, pos, negsuc, Float}
use Rattle.std.specs.Float.{fin}
use Rattle.std.specs.Float.Ieee.{lt}
use Rattle.amplitudes.specs.declared.Complex.{Complex}
use Rattle.amplitudes.specs.declared.U4.{U4}
use Rattle.amplitudes.specs.Amplitudes.{absolute, both_parts, all_parts}

-- |x| < 2^k: no infinity and no NaN. The same of both parts of an amplitude
unfoldable pub within : ℕ → Float → Bool
unfolding lt
within k x = lt (absolute x) (fin false 1 (pos k))

abbrev pub within_c : ℕ → Complex → Bool
within_c k a = both_parts (within k) a

-- moderate size: of a part of an amplitude, of an amplitude, of a gate
abbrev pub moderate : Float → Bool
moderate x = within 513 x

abbrev pub moderate_c : Complex → Bool
moderate_c a = both_parts moderate a

abbrev pub moderate_gate : U4 → Bool
moderate_gate g = all_parts (within 500) g

-- a divisor away from zero: 2^-500 < |x|, the infinities among them, and no NaN
unfoldable pub away_from_zero : Float → Bool
unfolding lt
away_from_zero x = lt (fin false 1 (negsuc 499)) (absolute x)
