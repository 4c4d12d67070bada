-- The laws that functions of src/ go by: an amplitude that is found is no NaN, and a pattern that is
-- not finite may be read as an infinity. Assumes nothing.
use Rattle.run.specs.Laws.{gate-as-written, scale-as-written}
use Rattle.words.specs.Laws.{found-not-nan}
use Rattle.calls.specs.Laws.{collapse-as-written, forecast-as-written}

pub ruleset lookups = found-not-nan

pub ruleset estimates = (collapse-as-written, forecast-as-written)

pub ruleset making = (gate-as-written, scale-as-written)
