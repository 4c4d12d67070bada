use Rattle.merge.specs.Walks.{records_left}
use Rattle.state.proofs.Summing.{Summing}
use Rattle.state.proofs.sums.sum_part.Given as goal

abbrev pub invariant-loop-r : goal.invariant-loop-r
invariant-loop-r l = Summing l.part.n l.q (records_left l.part) (records_left l.r-iterator) l.clear l.set
