use Prim.Native.Nat.{ℕ, ◌<◌, ◌≤◌}
use mathlib.Core.Path.{◌≡◌}
use lib.Bits.{bit_xor}
use lib.ListN.{get_or}
use Rattle.keys.proofs.flip.Given as goal

abbrev pub invariant-loop-k : goal.invariant-loop-k
invariant-loop-k l =
    ((m : ℕ) → m < l.k → get_or l.key m 0 ≡ bit_xor (get_or l.initial.key m 0) (get_or l.qubits m 0))
    × ((m : ℕ) → l.k ≤ m → get_or l.key m 0 ≡ get_or l.initial.key m 0)
