use Prim.Native.Nat.{◌*◌, ◌≤◌}
use Rattle.estimates.proofs.Estimating.{AddingFrom}
use Rattle.estimates.proofs.Accepted.total_changes.Given as goal

abbrev pub invariant-loop-r : goal.invariant-loop-r
invariant-loop-r l = (l.unpaired ≤ l.r) × (l.dropped ≤ 2 * l.r) × AddingFrom l.self l.r l.unpaired l.dropped
