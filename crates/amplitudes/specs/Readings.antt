-- Floats, amplitudes and gates of bit patterns. Read as written each pattern is the float that IEEE
-- 754 has there; the code reads every pattern that is not finite as one infinity, since the
-- machine's reading of a NaN is undefined. Definitions only.
use Rattle.std.specs.Prelude.{ℕ, ◌+◌, List, false, cond, Float, get_or}
use Rattle.std.specs.Float.{inf, binary64}
use Rattle.std.specs.Float.Ieee.{of_bits}
use Rattle.std.specs.Float.Ieee.Scale.{finite}
use Rattle.amplitudes.specs.declared.Complex.{Complex}
use Rattle.amplitudes.specs.declared.U4.{U4}

-- by what reads a pattern as a float. A gate's are eight: re and im of s0, f0, s1, f1
abbrev pub amplitude_by : (ℕ → Float) → ℕ → ℕ → Complex
amplitude_by read re im = record { re = read re; im = read im }

abbrev pub amplitude_at : (ℕ → Float) → List ℕ → ℕ → Complex
amplitude_at read ws i = amplitude_by read (get_or ws i 0) (get_or ws (i + 1) 0)

abbrev pub gate_by : (ℕ → Float) → List ℕ → U4
gate_by read ws = record { s0 = amplitude_at read ws 0; f0 = amplitude_at read ws 2; s1 = amplitude_at read ws 4; f1 = amplitude_at read ws 6 }

-- as written
abbrev pub written_gate : List ℕ → U4
written_gate ws = gate_by (of_bits binary64) ws

-- as the code reads
unfoldable pub read_float : ℕ → Float
unfolding of_bits
read_float w = cond (finite (of_bits binary64 w)) (of_bits binary64 w) (inf false)

abbrev pub read_amplitude : ℕ → ℕ → Complex
read_amplitude re im = amplitude_by read_float re im

abbrev pub read_gate : List ℕ → U4
read_gate ws = gate_by read_float ws
