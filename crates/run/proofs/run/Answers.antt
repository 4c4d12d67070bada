-- `run::run` meets its contract: a turn, the rest by `turns`. Assumes nothing.
use Rattle.std.proofs.Common.{◌∙◌, sym}
use Rattle.run.proofs.Turns.{goes_on, stops}
use Rattle.run.proofs.run.Goals as goal

pub returns-in-Err : goal.returns-in-Err
returns-in-Err c =
    sym (stops c.args.steps.now c.loop-done.done _ _ _ _ _ _ _ c.loop-done-test.true c.list_step-taken.ensures.right_after _ c.in-Err.is) ∙ c.loop-done.invariant

pub loop-done-preserved : goal.loop-done-preserved
loop-done-preserved c =
    sym (goes_on c.args.steps.now c.loop-done.done _ _ _ _ _ _ _ c.loop-done-test.true c.list_step-taken.ensures.right_after _ c.in_default.is) ∙ c.loop-done.invariant
