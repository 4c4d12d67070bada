use Rattle.trial.specs.Session.{Reached}
use Rattle.trial.specs.Whole.{progress_in}
use Rattle.trial.proofs.take_steps.Given as goal

-- what is kept is what the steps so far leave
abbrev pub invariant-loop-i : goal.invariant-loop-i
invariant-loop-i l = Reached (progress_in l.initial.trial) (progress_in l.trial)
