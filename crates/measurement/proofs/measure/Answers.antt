-- `measurement::measure` meets its contract. Assumes nothing.
use Rattle.statevector.specs.declared.Refusal.{Refusal}
use Rattle.statevector.specs.declared.State.{State}
use Rattle.std.specs.Prelude.{Result}
use Rattle.statevector.specs.declared.Side.TheVariants.{Left, Right}
use Rattle.measurement.proofs.Ways.{by-mark}
use Rattle.statevector.specs.Laws.{both-clauses}
use Rattle.measurement.specs.Laws.{measure-response}
use Rattle.statevector.specs.Endings.{Ending}
use Rattle.statevector.specs.Answers.{made-response}
use Rattle.measurement.proofs.measure.Goals as goal

pub returns-in-Left : goal.returns-in-Left
returns-in-Left c =
    let a = c.args in
    let h = both-clauses (λ (o : Ending (Result State Refusal)). made-response o.answer) (by-mark a.s a.q a.v a.scale a.left.now a.right.now Left c.in-Left.is _ _ _ c.measure_by_front.ensures) (measure-response _ _ _ _ _ _) in
    record { right_after = h.0; result_value = h.1 }

pub returns-in-Right : goal.returns-in-Right
returns-in-Right c =
    let a = c.args in
    let h = both-clauses (λ (o : Ending (Result State Refusal)). made-response o.answer) (by-mark a.s a.q a.v a.scale a.left.now a.right.now Right c.in-Right.is _ _ _ c.measure_by_front-in-Right.ensures) (measure-response _ _ _ _ _ _) in
    record { right_after = h.0; result_value = h.1 }
