use Rattle.keys.proofs.Differences.{Agree}
use Rattle.keys.proofs.compare.Given as goal

abbrev pub invariant-loop-k : goal.invariant-loop-k
invariant-loop-k l = Agree l.left_out l.a l.b l.k
