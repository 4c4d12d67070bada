use Rattle.std.proofs.Common.{◌≡◌, ◌+◌, true, length}
use Rattle.merge.specs.Laws.{WholeRecords}
use Rattle.merge.specs.Sorting.{side}
use Rattle.merge.specs.Walks.{records_left}
use Rattle.merge.proofs.record.Records.count_set.Given as goal

-- the count, and those that are left, are those that there are
abbrev pub invariant-loop-r : goal.invariant-loop-r
invariant-loop-r l =
    let n = l.self.n in
    (l.count + length (side n l.q true (records_left l.r-iterator)) ≡ length (side n l.q true (records_left l.self))) × WholeRecords n (records_left l.r-iterator)
