-- `gates::do_u4_finite` meets its contract. Assumes nothing.
use Rattle.std.proofs.Common.{◌≡◌, ◌&&◌, Bool, sym, ap, ◌∙◌, subst}
use Rattle.keys.specs.Lists.{All}
use Rattle.merge.specs.declared.MergeEq.{MergeEq}
use Rattle.merge.specs.Laws.{pair-finite}
use Rattle.merge.specs.Walks.{InPair, Whole, records_of, pairs_left}
use Rattle.gates.specs.Passes.{finite_of, pairs_finite}
use Rattle.gates.proofs.Newly.{first-finite}
use Rattle.gates.proofs.Walking.{whole-pairs}
use Rattle.gates.proofs.do_u4_finite.Goals.{After-amplitudes, In-Some}
use Rattle.gates.proofs.do_u4_finite.Goals as goal

-- what is left can be read: the next pair, and those after it
readable : (c : In-Some) → let n = c.args.pairs.n in InPair (Whole n) (records_of c.in-Some.pair) × All (InPair (Whole n)) (pairs_left c.next.new.self)
readable c = subst (All (InPair (Whole c.args.pairs.n))) c.in-Some.ensures.steps.0 c.loop-pair.invariant.1

-- all is finite if the next pair and those after it are
look : (c : After-amplitudes) → InPair (Whole c.args.pairs.n) (records_of c.in-Some.pair) → let a = c.args in
    pairs_finite a.pairs.n a.g (pairs_left a.pairs) ≡ (finite_of a.g c.amplitudes.result && pairs_finite a.pairs.n a.g (pairs_left c.next.new.self))
look c w =
    let a = c.args in
    let n = a.pairs.n in
    let left = pairs_left c.next.new.self in
    sym c.loop-pair.invariant.0 ∙ ap (pairs_finite n a.g) c.in-Some.ensures.steps.0 ∙ first-finite n a.g (records_of c.in-Some.pair) left
    ∙ ap (λ (m : MergeEq). finite_of a.g m && pairs_finite n a.g left) (sym (c.amplitudes.ensures n w))

pub loop-pair-init : goal.loop-pair-init
loop-pair-init c =
    let a = c.args in
    let e = ap pairs_left c.into_iter-pair-iterator.ensures.into_iter_gives in
    (ap (pairs_finite a.pairs.n a.g) e, subst (All (InPair (Whole a.pairs.n))) (sym e) (whole-pairs a.pairs c.requires))

pub amplitudes-requires : goal.amplitudes-requires
amplitudes-requires c = pair-finite c.args.pairs.n c.in-Some.pair (readable (goal.at.amplitudes-requires c).In-Some).0

pub returns-then-not-is_finite_new : goal.returns-then-not-is_finite_new
returns-then-not-is_finite_new c =
    let left = pairs_finite c.args.pairs.n c.args.g (pairs_left c.next.new.self) in
    sym (look (goal.at.returns-then-not-is_finite_new c).After-amplitudes (readable (goal.at.returns-then-not-is_finite_new c).In-Some).0 ∙ ap (λ (b : Bool). b && left) (sym c.is_finite_new.ensures ∙ c.if-not-is_finite_new.true))

pub loop-pair-preserved : goal.loop-pair-preserved
loop-pair-preserved c =
    let left = pairs_finite c.args.pairs.n c.args.g (pairs_left c.next.new.self) in
    let r = readable (goal.at.loop-pair-preserved c).In-Some in
    (sym (look (goal.at.loop-pair-preserved c).After-amplitudes r.0 ∙ ap (λ (b : Bool). b && left) (sym c.is_finite_new.ensures ∙ c.if-not-is_finite_new.false)), r.1)

pub returns : goal.returns
unfolding pairs_finite
returns c = sym (ap (pairs_finite c.args.pairs.n c.args.g) c.in-None.ensures.steps.0.0) ∙ c.loop-pair.invariant.0
