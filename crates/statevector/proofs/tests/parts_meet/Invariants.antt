use Rattle.std.proofs.Common.{◌+◌, length}
use Rattle.merge.specs.Records.{records}
use Rattle.merge.specs.Walks.{records_left}
use Rattle.statevector.specs.Tests.{meets}
use Rattle.statevector.proofs.Meeting.{Walked}
use Rattle.statevector.proofs.tests.parts_meet.Given as goal

abbrev pub invariant-loop-x : goal.invariant-loop-x
invariant-loop-x l = Walked l.n (meets l.n (records_left l.zero) (records_left l.one)) (records l.n l.xs) (records l.n l.ys)

abbrev pub decreases-loop-x : goal.decreases-loop-x
decreases-loop-x l = length (records l.n l.xs) + length (records l.n l.ys)
