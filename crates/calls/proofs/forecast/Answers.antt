-- `calls::forecast` meets its contract. Written out, so that another call is refused at once.
-- Assumes nothing.
use Rattle.std.proofs.Common.{rules}
use Rattle.calls.specs.Calls.{forecast_at}
use Rattle.calls.specs.Laws.{forecast-as-written}
use Rattle.calls.proofs.forecast.Goals as goal

pub returns-in_err-change : goal.returns-in_err-change
unfolding forecast_at
returns-in_err-change c =
    rw (c.in_ok-s.ensures.0, c.in_ok-g.ensures.0, c.in_ok-expect_len.ensures.0, ← c.in_ok-s.ensures.1, ← forecast-as-written, ← c.in_ok-g.ensures.1, ← c.forecast.ensures.value, c.in_err-change.was) (search rules)

pub returns : goal.returns
unfolding forecast_at
returns c =
    rw (c.put.ensures, c.change_words.ensures, c.in_ok-s.ensures.0, c.in_ok-g.ensures.0, c.in_ok-expect_len.ensures.0, ← c.in_ok-s.ensures.1, ← forecast-as-written, ← c.in_ok-g.ensures.1, ← c.forecast.ensures.value, c.in_ok-change.was) (search rules)
