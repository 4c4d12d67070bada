-- `calls::perform_u4` meets its contract. Written out, so that another call is refused at once.
-- Assumes nothing.
use Rattle.std.proofs.Common.{rules}
use Rattle.calls.specs.Calls.{gate_at}
use Rattle.run.specs.Laws.{gate-as-written}
use Rattle.calls.proofs.perform_u4.Goals as goal

pub returns-in_err-gated : goal.returns-in_err-gated
unfolding gate_at
returns-in_err-gated c =
    rw (c.in_ok-s.ensures.0, c.in_ok-g.ensures.0, c.in_ok-expect_len.ensures.0, ← c.in_ok-s.ensures.1, ← gate-as-written, ← c.in_ok-g.ensures.1, ← c.perform_u4.ensures.right_after, c.in_err-gated.was) (search rules)

pub returns : goal.returns
unfolding gate_at
returns c =
    rw (c.put.ensures, c.state_words.ensures, c.in_ok-s.ensures.0, c.in_ok-g.ensures.0, c.in_ok-expect_len.ensures.0, ← c.in_ok-s.ensures.1, ← gate-as-written, ← c.in_ok-g.ensures.1, ← c.perform_u4.ensures.right_after, c.in_ok-gated.was)
