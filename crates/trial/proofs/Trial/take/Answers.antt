-- `trial::Trial::take` meets its contract. Assumes nothing.
use Rattle.std.proofs.Common.{sym, ap, subst}
use Rattle.statevector.specs.Endings.{Ending}
use Rattle.run.specs.declared.Taken.{Taken}
use Rattle.run.specs.Laws.{NoNan, step-no-nan}
use Rattle.trial.specs.Laws.{turned}
use Rattle.trial.proofs.Trial.take.Goals as goal

pub step_line-requires : goal.step_line-requires
step_line-requires c =
    subst NoNan (sym (ap (λ (o : Ending Taken). o.answer.answer) c.take_step-t.ensures.right_after)) (step-no-nan _ _ _ _)

pub returns : goal.returns
returns c =
    turned _ _ _ _ _ _ c.decode.ensures c.take_step-t.ensures.right_after c.step_line.ensures
