-- `calls::lookup` meets its contract. Written out, so that another call is refused at once.
-- Assumes nothing.
use Rattle.std.proofs.Common.{rules}
use Rattle.calls.specs.Calls.{lookup_at}
use Rattle.calls.proofs.lookup.Goals as goal

pub returns-in_err-found : goal.returns-in_err-found
unfolding lookup_at
returns-in_err-found c =
    rw (c.in_ok-s.ensures.0, c.in_ok-expect_len.ensures.0, ← c.in_ok-s.ensures.1, ← c.lookup.ensures.value, c.in_err-found.was) (search rules)

pub returns : goal.returns
unfolding lookup_at
returns c =
    rw (c.put.ensures, c.found_words.ensures, c.in_ok-s.ensures.0, c.in_ok-expect_len.ensures.0, ← c.in_ok-s.ensures.1, ← c.lookup.ensures.value, c.in_ok-found.was)
