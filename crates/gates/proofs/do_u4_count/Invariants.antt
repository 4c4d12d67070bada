use mathlib.Core.Path.{◌≡◌}
use mathlib.Core.Bool.{true}
use Prim.Native.Nat.{◌+◌}
use lib.ListN.{length}
use Rattle.keys.specs.Lists.{All}
use Rattle.merge.specs.Records.{finite_record}
use Rattle.merge.specs.Walks.{InPair, pairs_left}
use Rattle.gates.proofs.Counting.{Counting}
use Rattle.gates.proofs.do_u4_count.Given as goal

-- what is left, counted on, gives the whole; its records have the walk's width, and are finite if
-- they were tested
abbrev pub invariant-loop-pair : goal.invariant-loop-pair
invariant-loop-pair l =
    let n = l.pairs.n in
    ((goal.iterator-loop-pair).can_next l.left × (goal.iterator-loop-pair).is_finite l.left) × record {
      counting : Counting n l.pairs.q l.g l.tested (pairs_left l.pairs) (pairs_left l.left) l.alone l.k0 l.k1;
      width : l.left.n ≡ n;
      wide : All (InPair (λ r. length r ≡ n + 2)) (pairs_left l.left);
      finite : l.tested ≡ true → All (InPair (λ r. finite_record n r ≡ true)) (pairs_left l.left);
    }
