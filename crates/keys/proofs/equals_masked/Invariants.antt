use Prim.Native.Nat.{ℕ, ◌<◌}
use mathlib.Core.Path.{◌≡◌}
use lib.Bits.{bit_and}
use lib.ListN.{get_or}
use Rattle.keys.proofs.equals_masked.Given as goal

abbrev pub invariant-loop-k : goal.invariant-loop-k
invariant-loop-k l = (m : ℕ) → m < l.k → bit_and (get_or l.key m 0) (get_or l.mask m 0) ≡ get_or l.wanted m 0
