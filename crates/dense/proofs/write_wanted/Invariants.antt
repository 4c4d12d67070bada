use Prim.Native.Nat.{◌≤◌}
use lib.ListN.{length}
use lib.Seq.{sets}
use Rattle.merge.specs.Records.{flat}
use Rattle.dense.specs.Dense.{dense_from}
use Rattle.dense.proofs.Pairwise.{Writing}
use Rattle.dense.proofs.write_wanted.Given as goal

abbrev pub invariant-loop-i : goal.invariant-loop-i
invariant-loop-i l =
    (l.o ≤ l.i) × Writing l.n l.words (sets l.initial.store 0 (flat (dense_from l.n 0 l.words))) (length l.initial.store) l.i l.o l.store
