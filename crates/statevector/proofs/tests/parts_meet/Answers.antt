-- `statevector::tests::parts_meet` meets its contract. The invariant: what is left of the parts
-- meets where the parts do. Assumes nothing.
use Rattle.std.specs.declared.cmp.Ordering.{Ordering}
use Rattle.std.specs.declared.cmp.Ordering.TheVariants.{Less, Equal, Greater}
use Rattle.std.proofs.Common.{◌≡◌, ℕ, sym, ap, ap₂, ◌∙◌}
use Rattle.keys.specs.Keys.{order}
use Rattle.merge.specs.Records.{key_of}
use Rattle.statevector.proofs.Meeting.{walk-first-end, walk-second-end, walk-less, walk-greater, walk-equal}
use Rattle.statevector.proofs.tests.parts_meet.Goals.{After-compare}
use Rattle.statevector.proofs.tests.parts_meet.Goals as goal

-- what the comparison says of their keys
compared : (c : After-compare) (o : Ordering) → c.compare.result.order ≡ o → let n = c.args.zero.n in order (key_of n c.in-Some.x.words.now) (key_of n c.in-Some-split_first.y.words.now) ≡ o
compared c o e =
    let x = c.in-Some.x.words.now in
    let y = c.in-Some-split_first.y.words.now in
    sym (c.compare.ensures.order_value ∙ ap₂ order (c.key.ensures ∙ ap (λ (m : ℕ). key_of m x) c.in-Some.ensures.some.0) (c.key-in-Some.ensures ∙ ap (λ (m : ℕ). key_of m y) c.in-Some-split_first.ensures.some.0)) ∙ e

pub returns-in_default-split_first : goal.returns-in_default-split_first
returns-in_default-split_first c = walk-second-end _ _ _ _ c.loop-x.invariant c.in_default-split_first.ensures.none

pub loop-x-preserved-in-Less : goal.loop-x-preserved-in-Less
loop-x-preserved-in-Less c =
    walk-less _ _ _ _ c.loop-x.invariant _ _ _ _ c.in-Some.ensures.some.1 c.in-Some-split_first.ensures.some.1 (compared (goal.at.loop-x-preserved-in-Less c).After-compare Less c.in-Less.is)

pub returns-in-Equal : goal.returns-in-Equal
returns-in-Equal c =
    walk-equal _ _ _ _ c.loop-x.invariant _ _ _ _ c.in-Some.ensures.some.1 c.in-Some-split_first.ensures.some.1 (compared (goal.at.returns-in-Equal c).After-compare Equal c.in-Equal.is)

pub loop-x-preserved : goal.loop-x-preserved
loop-x-preserved c =
    walk-greater _ _ _ _ c.loop-x.invariant _ _ _ _ c.in-Some.ensures.some.1 c.in-Some-split_first.ensures.some.1 (compared (goal.at.loop-x-preserved c).After-compare Greater c.in-Greater.is)

pub returns : goal.returns
returns c = walk-first-end _ _ _ _ c.loop-x.invariant c.in_default.ensures.none
