-- `state::calls::fresh` meets its contract. Assumes nothing.
use mathlib.Core.Path.{◌≡◌, sym, ◌∙◌}
use mathlib.Core.Bool.{true}
use native.Mathlib.Omega.{arith}
use lib.ListN.{length-take}
use Rattle.keys.specs.Keys.{listed}
use Rattle.keys.specs.Laws.{index-front}
use Rattle.merge.specs.Laws.{width-range}
use Rattle.state.proofs.Calling.{fresh-width, fresh-full, fresh-done}
use Rattle.statevector.specs.Laws.{both-clauses}
use Rattle.state.specs.Laws.{fresh-response}
use Rattle.statevector.specs.Answers.{made-response}
use Rattle.state.specs.Fresh.{LeftEnding}
use Rattle.state.proofs.calls.fresh.Goals.{Else-not-is_width}
use Rattle.state.proofs.calls.fresh.Goals as goal

width : (c : Else-not-is_width) → listed c.args.width ≡ true
width c = sym c.is_width.ensures ∙ c.if-not-is_width.false

pub returns-then-not-is_width : goal.returns-then-not-is_width
returns-then-not-is_width c =
    let a = c.args in
    let h = both-clauses (λ (o : LeftEnding). made-response o.answer) (fresh-width a.width a.left.now (sym c.is_width.ensures ∙ c.if-not-is_width.true)) (fresh-response _ _) in
    record { left_after = h.0; result_value = h.1 }

pub overflow_add-im : goal.overflow_add-im
overflow_add-im c =
    omega (arith, (width-range _ (width (goal.at.overflow_add-im c).Else-not-is_width)).1)

pub returns-then-left-im : goal.returns-then-left-im
returns-then-left-im c =
    let a = c.args in
    let h = both-clauses (λ (o : LeftEnding). made-response o.answer) (fresh-full a.width a.left.now (width (goal.at.returns-then-left-im c).Else-not-is_width) c.if-left-im.true) (fresh-response _ _) in
    record { left_after = h.0; result_value = h.1 }

pub put_index-requires : goal.put_index-requires
put_index-requires c =
    simp length-take (omega (arith, (width-range _ (width (goal.at.put_index-requires c).Else-not-is_width)).0, c.if-left-im.false))

pub returns : goal.returns
returns c =
    let a = c.args in
    let h = both-clauses (λ (o : LeftEnding). made-response o.answer) (fresh-done a.width a.left.now (width (goal.at.returns c).Else-not-is_width) c.if-left-im.false _ (index-front a.left.now _ a.width 0 (omega (arith, c.if-left-im.false)) c.put_index.ensures)) (fresh-response _ _) in
    record { left_after = h.0; result_value = h.1 }
