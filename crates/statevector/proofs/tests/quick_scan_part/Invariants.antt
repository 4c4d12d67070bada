use Rattle.std.proofs.Common.{length}
use Rattle.merge.specs.Records.{records}
use Rattle.merge.specs.Walks.{records_left}
use Rattle.statevector.proofs.Scanning.{Seeing}
use Rattle.statevector.proofs.tests.quick_scan_part.Given as goal

abbrev pub invariant-loop-r : goal.invariant-loop-r
invariant-loop-r l = Seeing l.part.n l.q l.tag l.bit (records_left l.part) (records l.part.n l.left) l.ones

abbrev pub decreases-loop-r : goal.decreases-loop-r
decreases-loop-r l = length (records l.part.n l.left)
