use Prim.Native.Nat.{◌-◌, ◌%◌, ◌≤◌}
use mathlib.Core.Path.{◌≡◌}
use lib.ListN.{length, drop}
use lib.Seq.{sets}
use Rattle.keys.proofs.copy_words.Given as goal

abbrev pub invariant-loop-k : goal.invariant-loop-k
invariant-loop-k l =
    (l.k ≤ l.n) × ((l.n - l.k) % 4 ≡ 0) × (length l.dst ≡ length l.initial.dst) × (sets l.dst l.k (drop l.k l.src) ≡ sets l.initial.dst l.initial.k (drop l.initial.k l.src))

abbrev pub decreases-loop-k : goal.decreases-loop-k
decreases-loop-k l = l.n - l.k
