use Prim.Native.Nat.{◌+◌}
use lib.Seq.{sets}
use Rattle.merge.specs.Records.{part, flat}
use Rattle.measurement.proofs.Matches.{all-divided}
use Rattle.measurement.proofs.Normalizing.{Settling}
use Rattle.measurement.proofs.normalize.Given as goal

abbrev pub invariant-loop-r : goal.invariant-loop-r
invariant-loop-r l =
    Settling l.n l.from l.m l.scale l.initial.ws (sets l.initial.ws 0 (flat (all-divided l.n l.scale (part l.n l.initial.ws l.from (l.from + l.m))))) l.ws (l.from + l.r) l.r
