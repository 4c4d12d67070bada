use Prim.Native.Nat.{◌-◌, ◌≤◌}
use Rattle.merge.specs.Records.{part}
use Rattle.merge.specs.Pairs.{position_of}
use Rattle.merge.proofs.Searching.{Searched}
use Rattle.merge.proofs.find.Given as goal

abbrev pub invariant-loop-lo : goal.invariant-loop-lo
invariant-loop-lo l =
    (l.lo ≤ l.hi) × (l.hi ≤ l.to) × Searched l.n l.key l.ws (position_of l.n l.key l.from (part l.n l.ws l.from l.to)) l.lo l.hi

abbrev pub decreases-loop-lo : goal.decreases-loop-lo
decreases-loop-lo l = l.hi - l.lo
