-- `estimates::forecast` meets its contract. Assumes nothing.
use mathlib.Core.Path.{refl, ap, ◌∙◌}
use Rattle.std.proofs.lemmas.Result.{err_from_is_err_and}
use Rattle.estimates.specs.Estimates.{forecast_in, change}
use Rattle.estimates.specs.Laws.{forecast-refused, forecast-by, forecast-response}
use Rattle.estimates.proofs.forecast.Goals as goal

pub returns-in_err-new-clause-value : goal.returns-in_err-new-clause-value
returns-in_err-new-clause-value c =
    let a = c.args in
    let p = err_from_is_err_and c.from_residual.result c.from_residual.ensures.1 in
    rw (p.1, p.2) (forecast-refused a.s a.q a.g _ _ c.in_err-new.ensures.refused)
    ∙ ap (forecast_in a.s a.q a.g) c.store.ensures.words
    ∙ forecast-by a.s a.q a.g a.left.now a.right.now a.s.front refl

pub returns-in_err-new-clause-result_value : goal.returns-in_err-new-clause-result_value
returns-in_err-new-clause-result_value c =
    let a = c.args in ap change (returns-in_err-new-clause-value c) ∙ forecast-response a.s a.q a.g a.left.now a.right.now
