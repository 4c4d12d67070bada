-- `calls::check` meets its contract. Written out, so that another call is refused at once.
-- Assumes nothing.
use Rattle.std.proofs.Common.{rules}
use Rattle.calls.specs.Calls.{check_at}
use Rattle.calls.proofs.check.Goals as goal

pub returns-in_err-check : goal.returns-in_err-check
unfolding check_at
returns-in_err-check c =
    rw (c.in_ok-s.ensures.0, ← c.in_ok-s.ensures.1, ← c.check.ensures.value, c.in_err-check.was) (search rules)

pub returns : goal.returns
unfolding check_at
returns c =
    rw (c.in_ok-s.ensures.0, ← c.in_ok-s.ensures.1, ← c.check.ensures.value, c.in_ok-check.was)
