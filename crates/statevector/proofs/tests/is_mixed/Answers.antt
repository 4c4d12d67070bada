-- `statevector::tests::is_mixed` meets its contract. Assumes nothing.
use Rattle.statevector.specs.Laws.{word_test}
use Rattle.statevector.proofs.tests.is_mixed.Goals as goal

pub returns-in-None : goal.returns-in-None
returns-in-None c =
    rw c.in-None.is c.parts_meet.ensures

pub returns-in-Some : goal.returns-in-Some
returns-in-Some c =
    let a = c.args in
    rw c.in-Some.is (word_test a.zero.n c.in-Some.q)
