-- `run::steps::list_step` meets its contract. Written out, so that another call is refused at
-- once. Assumes nothing.
use Rattle.std.proofs.Common.{ap, ◌∙◌}
use Rattle.statevector.specs.Endings.{Ending}
use Rattle.run.specs.declared.Taken.{Taken}
use Rattle.run.specs.Answers.{taken_response}
use Rattle.run.specs.Laws.{list-step-response}
use Rattle.run.proofs.Taking.{list-step-as-read}
use Rattle.run.proofs.steps.list_step.Goals as goal

pub returns-clause-right_after : goal.returns-clause-right_after
returns-clause-right_after c =
    rw (c.take_call.ensures, c.read_list_call.ensures) (list-step-as-read _ _ _ _)

pub returns-clause-result_value : goal.returns-clause-result_value
returns-clause-result_value c =
    ap (λ (o : Ending Taken). taken_response o.answer) (returns-clause-right_after c) ∙ list-step-response _ _ _ _
