-- `gates::gate_by_front` meets its contract. Assumes nothing.
use Rattle.std.proofs.lemmas.Result.{err_from_is_err_and}
use Rattle.gates.proofs.Performing.{head-refusal, by-front-refused}
use Rattle.gates.proofs.gate_by_front.Goals as goal

pub returns-in_err-test_head_with_qubit : goal.returns-in_err-test_head_with_qubit
returns-in_err-test_head_with_qubit c =
    let a = c.args in
    let p = err_from_is_err_and c.from_residual.result c.from_residual.ensures.1 in
    rw (p.1, p.2) (by-front-refused a.s a.q a.g a.front.now a.back.now _ (head-refusal a.s a.q a.g a.front.now a.back.now _ _ c.test_head_with_qubit.ensures c.in_err-test_head_with_qubit.was))
