-- `calls::compare` meets its contract. Written out, so that another call is refused at once.
-- Assumes nothing.
use Rattle.std.proofs.Common.{rules}
use Rattle.calls.specs.Calls.{compare_at}
use Rattle.calls.proofs.compare.Goals as goal

pub returns-in_err-compared : goal.returns-in_err-compared
unfolding compare_at
returns-in_err-compared c =
    rw (c.in_ok-expect_len.ensures.0, ← c.flagged.ensures, ← c.compare.ensures.value, c.in_err-compared.was) (search rules)

pub returns : goal.returns
unfolding compare_at
returns c =
    rw (c.put.ensures, c.comparison_words.ensures, c.in_ok-expect_len.ensures.0, ← c.flagged.ensures, ← c.compare.ensures.value, c.in_ok-compared.was)
