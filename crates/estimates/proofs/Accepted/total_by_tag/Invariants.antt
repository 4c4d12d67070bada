use Rattle.merge.specs.Walks.{pairs_left}
use Rattle.estimates.proofs.Walking.{WalkingIn}
use Rattle.estimates.proofs.Accepted.total_by_tag.Given as goal

abbrev pub invariant-loop-pair : goal.invariant-loop-pair
invariant-loop-pair l = WalkingIn l.self (pairs_left l.pair-iterator) l.unpaired l.dropped
