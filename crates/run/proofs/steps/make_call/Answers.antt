-- `run::steps::make_call` meets its contract. A premeasure is written out, so that another one
-- is refused at once. Assumes nothing.
use Rattle.std.proofs.Common.{rules}
use Rattle.run.proofs.steps.make_call.Goals as goal

pub returns-in_err-sums-in-Premeasure : goal.returns-in_err-sums-in-Premeasure
returns-in_err-sums-in-Premeasure c =
    rw (c.in_ok-g.was, c.in-Premeasure.is, ← c.premeasure.ensures.value, c.in_err-sums-in-Premeasure.was) (search rules)

pub returns-in_ok-sums-in-Premeasure : goal.returns-in_ok-sums-in-Premeasure
returns-in_ok-sums-in-Premeasure c =
    rw (c.in_ok-g.was, c.in-Premeasure.is, ← c.premeasure.ensures.value, c.in_ok-sums-in-Premeasure.was)
