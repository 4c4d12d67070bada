-- The pairs that a walk along two parts has left: their records are whole. For the proofs of the
-- gate's passes. Assumes nothing.
use Rattle.std.specs.Prelude.{◌≡◌, ℕ, ◌+◌, List, length}
use Rattle.keys.specs.Lists.{All}
use Rattle.merge.specs.declared.pairs.Pairs.{Pairs}
use Rattle.merge.specs.Pairs.{Pair, lhs, rhs, both}
use Rattle.merge.specs.Records.{records}
use Rattle.merge.specs.Walks.{InPair, Whole, pairs_left}
use Rattle.merge.specs.Laws.{records-whole, every-pair, all_both, all_map}
use Rattle.gates.specs.Passes.{FinitePairs}

-- they have the words of the walk's width, whether they were tested or not
pub wide-pairs : (p : Pairs) → All (InPair (λ r. length r ≡ p.n + 2)) (pairs_left p)
wide-pairs p = every-pair (λ r. length r ≡ p.n + 2) p.n p.q (records p.n p.lhs.now) (records p.n p.rhs.now) (records-whole p.n p.lhs.now) (records-whole p.n p.rhs.now)

-- and where they are finite their amplitudes can be read
in-both : (P Q : List ℕ → Type 0) (p : Pair) → InPair P p × InPair Q p → InPair (λ r. P r × Q r) p
in-both P Q (lhs x) h = h
in-both P Q (rhs y) h = h
in-both P Q (both x y) h = ((h.0.0, h.1.0), (h.0.1, h.1.1))

pub whole-pairs : (p : Pairs) → FinitePairs p → All (InPair (Whole p.n)) (pairs_left p)
whole-pairs p f = all_map (pairs_left p) (in-both _ _) (all_both _ _ (pairs_left p) (wide-pairs p) f)
