use Rattle.merge.specs.Walks.{records_left}
use Rattle.measurement.proofs.Matches.{Matched}
use Rattle.measurement.proofs.do_measure_count.Given as goal

abbrev pub invariant-loop-r : goal.invariant-loop-r
invariant-loop-r l = Matched l.part.n l.q l.v l.scale (records_left l.part) (records_left l.r-iterator) l.count l.fine
