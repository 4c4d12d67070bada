-- What `butrask_amplitude` gives as a flag, and past its last result. Assumes nothing.
use mathlib.Core.Path.{◌≡◌, refl, sym}
use Prim.Native.Nat.{ℕ, ◌≤◌}
use mathlib.Core.Bool.{Bool, true, false}
use lib.Ieee.{Float, binary64, of_int}
use lib.IntN.{pos}
use lib.ListN.{get_or-eq_default}
use Rattle.std.specs.Int.{from_bool}
use Rattle.amplitudes.specs.declared.Complex.{Complex}
use Rattle.probe.specs.Results.{flag_of, amplitude_results, amplitude_result}

pub flag-is : (b : Bool) → of_int binary64 (pos (from_bool b)) ≡ flag_of b
unfolding of_int
flag-is true = refl
flag-is false = refl

pub beyond : (n : ℕ) (a b : Complex) (s : Float) → 13 ≤ n → flag_of false ≡ amplitude_result n a b s
beyond n a b s h = sym (get_or-eq_default (amplitude_results a b s) (flag_of false) h)

pub ruleset results = (flag-is, beyond)
