use Rattle.std.proofs.Common.{◌≡◌, length}
use Rattle.merge.specs.Records.{records}
use Rattle.merge.specs.Walks.{records_left}
use Rattle.statevector.specs.Scans.{scan_of, both_scans}
use Rattle.statevector.proofs.tests.scan_part.Given as goal

abbrev pub invariant-loop-r : goal.invariant-loop-r
invariant-loop-r l = both_scans l.found (scan_of l.part.n l.tag l.bit (records l.part.n l.left)) ≡ scan_of l.part.n l.tag l.bit (records_left l.part)

abbrev pub decreases-loop-r : goal.decreases-loop-r
decreases-loop-r l = length (records l.part.n l.left)
