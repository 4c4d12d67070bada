-- `statevector::tests::test_records_with` meets its contract. Assumes nothing.
use mathlib.Core.Path.{sym, ◌∙◌}
use Rattle.statevector.specs.Laws.{first-after, first-before}
use Rattle.std.proofs.lemmas.Result.{err_from_is_err_and}
use Rattle.statevector.proofs.tests.test_records_with.Goals as goal

pub returns-in_err-test_records : goal.returns-in_err-test_records
returns-in_err-test_records c =
    let p = err_from_is_err_and c.from_residual.result c.from_residual.ensures.1 in
    rw (p.1, p.2) (sym (first-before _ _ _ (sym c.in_err-test_records.ensures)))

pub returns : goal.returns
returns c =
    c.test_finite.ensures ∙ sym (first-after _ _ (sym c.in_ok-test_records.ensures))
