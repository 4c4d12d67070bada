-- `calls::fresh` meets its contract. Written out, so that another call is refused at once.
-- Assumes nothing.
use Rattle.std.proofs.Common.{rules}
use Rattle.calls.specs.Calls.{fresh_at}
use Rattle.calls.proofs.fresh.Goals as goal

pub returns-in_err-s : goal.returns-in_err-s
unfolding fresh_at
returns-in_err-s c =
    rw (c.in_ok-expect_len.ensures.0, ← c.fresh.ensures.left_after, c.in_err-s.was) (search rules)

pub returns : goal.returns
unfolding fresh_at
returns c =
    rw (c.put.ensures, c.state_words.ensures, c.in_ok-expect_len.ensures.0, ← c.fresh.ensures.left_after, c.in_ok-s.was)
