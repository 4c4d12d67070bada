-- `measurement::measure_by_front` meets its contract. Assumes nothing.
use mathlib.Core.Path.{sym}
use lib.Ieee.Scale.{finite}
use Rattle.std.proofs.lemmas.Result.{err_from_is_err_and}
use Rattle.statevector.specs.Laws.{head-refused}
use Rattle.measurement.proofs.Ways.{refused}
use Rattle.statevector.specs.Tests.{qubit_row, finite_row}
use mathlib.Core.List.{[], ◌∷◌}
use Rattle.measurement.proofs.measure_by_front.Goals as goal

pub returns-in_err-test_head_with_qubit : goal.returns-in_err-test_head_with_qubit
returns-in_err-test_head_with_qubit c =
    let a = c.args in
    let p = err_from_is_err_and c.from_residual.result c.from_residual.ensures.1 in
    rw (p.1, p.2) (refused a.s a.p.q a.p.v a.p.scale a.front.now a.back.now _
    (head-refused a.s a.front.now (qubit_row a.s a.p.q ∷ []) (finite_row (finite a.p.scale) ∷ []) [] _ (sym c.in_err-test_head_with_qubit.ensures)))
