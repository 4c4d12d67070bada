-- `calls::collapse_delta` meets its contract. Written out, so that another call is refused at
-- once. Assumes nothing.
use Rattle.std.proofs.Common.{rules}
use Rattle.calls.specs.Calls.{collapse_at}
use Rattle.calls.specs.Laws.{collapse-as-written}
use Rattle.calls.proofs.collapse_delta.Goals as goal

pub returns-in_err-change : goal.returns-in_err-change
unfolding collapse_at
returns-in_err-change c =
    rw (c.in_ok-s.ensures.0, c.in_ok-g.ensures.0, c.in_ok-expect_len.ensures.0, ← c.in_ok-s.ensures.1, ← collapse-as-written, ← c.in_ok-g.ensures.1, ← c.collapse_delta.ensures.value, c.in_err-change.was) (search rules)

pub returns : goal.returns
unfolding collapse_at
returns c =
    rw (c.put.ensures, c.change_words.ensures, c.in_ok-s.ensures.0, c.in_ok-g.ensures.0, c.in_ok-expect_len.ensures.0, ← c.in_ok-s.ensures.1, ← collapse-as-written, ← c.in_ok-g.ensures.1, ← c.collapse_delta.ensures.value, c.in_ok-change.was) (search rules)
