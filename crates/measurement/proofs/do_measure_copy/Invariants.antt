use lib.Seq.{sets}
use Rattle.merge.specs.Records.{flat}
use Rattle.merge.specs.Walks.{records_left}
use Rattle.measurement.specs.Passes.{divided_side}
use Rattle.measurement.proofs.Copying.{Copying}
use Rattle.measurement.proofs.do_measure_copy.Given as goal

abbrev pub invariant-loop-r : goal.invariant-loop-r
invariant-loop-r l =
    let n = l.part.n in
    Copying n l.q l.v l.scale (sets l.initial.dst 0 (flat (divided_side n l.scale l.q l.v (records_left l.part)))) (records_left l.r-iterator) l.o l.dst
