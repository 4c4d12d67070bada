-- `calls::premeasure` meets its contract. Written out, so that another call is refused at once.
-- Assumes nothing.
use Rattle.std.proofs.Common.{rules}
use Rattle.calls.specs.Calls.{premeasure_at}
use mathlib.Core.Path.{sym, ◌∙◌}
use Rattle.words.specs.Laws.{sums-not-nan}
use Rattle.calls.proofs.premeasure.Goals as goal

pub sum_words-requires : goal.sum_words-requires
sum_words-requires c =
    sums-not-nan _ _ _ _ c.in_ok-sums.sums (sym c.premeasure.ensures.value ∙ c.in_ok-sums.was)

pub returns-in_err-sums : goal.returns-in_err-sums
unfolding premeasure_at
returns-in_err-sums c =
    rw (c.in_ok-s.ensures.0, c.in_ok-expect_len.ensures.0, ← c.in_ok-s.ensures.1, ← c.premeasure.ensures.value, c.in_err-sums.was) (search rules)

pub returns : goal.returns
unfolding premeasure_at
returns c =
    rw (c.put.ensures, c.sum_words.ensures, c.in_ok-s.ensures.0, c.in_ok-expect_len.ensures.0, ← c.in_ok-s.ensures.1, ← c.premeasure.ensures.value, c.in_ok-sums.was)
