-- `trial::take_steps` meets its contract. Assumes nothing.
use Rattle.std.proofs.Common.{ap, ◌∙◌}
use Rattle.trial.specs.Session.{Turn, step_in}
use Rattle.trial.specs.Laws.{turn-next, reached-none, reached-more}
use Rattle.trial.proofs.take_steps.Goals as goal

pub loop-i-init : goal.loop-i-init
loop-i-init c =
    reached-none _

pub loop-i-preserved : goal.loop-i-preserved
loop-i-preserved c =
    reached-more (step_in _) c.loop-i.invariant (ap (λ (t : Turn). t.kept) c.take.ensures ∙ turn-next _ _ _)
