use Prim.Native.Nat.{◌≤◌}
use Rattle.dense.proofs.Pairwise.{Counting}
use Rattle.dense.proofs.count_wanted.Given as goal

abbrev pub invariant-loop-re : goal.invariant-loop-re
invariant-loop-re l = (l.count ≤ l.re-index) × Counting l.words l.re-index l.count
