use Rattle.std.proofs.Common.{◌≡◌}
use Rattle.keys.specs.Lists.{All}
use Rattle.merge.specs.Walks.{InPair, Whole, pairs_left}
use Rattle.gates.specs.Passes.{pairs_finite}
use Rattle.gates.proofs.do_u4_finite.Given as goal

-- all is finite where what is left is, and its records can be read
abbrev pub invariant-loop-pair : goal.invariant-loop-pair
invariant-loop-pair l =
    (pairs_finite l.pairs.n l.g (pairs_left l.pair-iterator) ≡ pairs_finite l.pairs.n l.g (pairs_left l.pairs))
    × All (InPair (Whole l.pairs.n)) (pairs_left l.pair-iterator)
