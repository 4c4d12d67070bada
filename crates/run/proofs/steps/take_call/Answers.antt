-- `run::steps::take_call` meets its contract. Written out, so that another answer is refused at
-- once. Assumes nothing.
use Rattle.run.proofs.steps.take_call.Goals as goal

pub returns-in-Err : goal.returns-in-Err
returns-in-Err c =
    rw (← c.make_call.ensures, c.in-Err.is)
