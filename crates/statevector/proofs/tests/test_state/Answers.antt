-- `statevector::tests::test_state` meets its contract: the rows that read no record, then those
-- that do, then the call's own. Assumes nothing.
use mathlib.Core.Path.{sym, ap, ◌∙◌}
use mathlib.Core.List.{[], ◌++◌, append-nil}
use Rattle.std.proofs.lemmas.Result.{err_from_is_err_and}
use Rattle.statevector.specs.Laws.{rows_of, rows-of, head-facts, head-fine, head-refused, first-after, first-before}
use Rattle.statevector.specs.Refusals.{first}
use Rattle.statevector.proofs.tests.test_state.Goals as goal

pub test_records-requires : goal.test_records-requires
test_records-requires c =
    let a = c.args in
    let k = head-facts a.s a.front.now (rows_of a.named) (sym (c.in_ok-test_head.ensures (rows_of a.named) (rows-of a.named))) in
    record { width_in_bounds = k.room; width_nonzero = (k.some, k.few) }

pub returns-in_err-test_head : goal.returns-in_err-test_head
returns-in_err-test_head c =
    let a = c.args in
    let p = err_from_is_err_and c.from_residual.result c.from_residual.ensures.1 in
    λ namedRows broughtRows n b. rw (p.1, p.2) (sym (head-refused a.s a.front.now namedRows broughtRows [] _ (sym (c.in_err-test_head.ensures namedRows n))))

-- the rows that read records, where those before them found nothing
pub returns-in_err-test_records : goal.returns-in_err-test_records
returns-in_err-test_records c =
    let a = c.args in
    let p = err_from_is_err_and c.from_residual-in_err-test_records.result c.from_residual-in_err-test_records.ensures.1 in
    λ namedRows broughtRows n b. rw (p.1, p.2) (sym (head-fine a.s a.front.now namedRows broughtRows [] (sym (c.in_ok-test_head.ensures namedRows n))
    ∙ first-before _ (broughtRows ++ []) _ (sym c.in_err-test_records.ensures)))

pub returns : goal.returns
returns c =
    let a = c.args in
    λ namedRows broughtRows n b.
    b
    ∙ ap first (sym (append-nil broughtRows))
    ∙ sym (head-fine a.s a.front.now namedRows broughtRows [] (sym (c.in_ok-test_head.ensures namedRows n))
    ∙ first-after _ (broughtRows ++ []) (sym c.in_ok-test_records.ensures))
