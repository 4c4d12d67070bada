use mathlib.Core.Path.{◌≡◌}
use mathlib.Core.Bool.{true}
use lib.ListN.{length}
use lib.Seq.{sets}
use Rattle.keys.specs.Lists.{All}
use Rattle.merge.specs.Walks.{InPair, Whole, pairs_left}
use Rattle.gates.specs.Passes.{pair_part, pair_words}
use Rattle.gates.proofs.Writing.{Writing}
use Rattle.gates.proofs.do_u4_write.Given as goal

-- what is left, written after what was, gives the whole, and its records can be read
abbrev pub invariant-loop-pair : goal.invariant-loop-pair
invariant-loop-pair l =
    let p = l.pairs in
    Writing p.n p.q l.g l.n0 (length (pair_part p.n p.q l.g true (pairs_left p))) (sets l.initial.back 0 (pair_words p.n p.q l.g (pairs_left p))) (pairs_left l.pair-iterator) l.o l.back
    × All (InPair (Whole p.n)) (pairs_left l.pair-iterator)
    × (length l.back ≡ length l.initial.back)
