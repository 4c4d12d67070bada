-- `statevector::tests::is_below_next` meets its contract. Assumes nothing.
use Rattle.std.specs.Ordering.{is_lt}
use Rattle.std.proofs.Common.{ℕ, List, take, sym, ap, ◌∙◌, arith, lt-ltb}
use Rattle.keys.specs.Keys.{order}
use Rattle.statevector.proofs.Scanning.{below_none, below-some}
use Rattle.statevector.proofs.tests.is_below_next.Goals as goal

pub returns-then-rest-r : goal.returns-then-rest-r
returns-then-rest-r c =
    let a = c.args in
    lt-ltb _ _ c.if-rest-r.true ∙ sym (below_none a.r.n a.r.words.now a.rest.now (let l = a.r.whole in omega (arith, c.if-rest-r.true)))

pub returns-else-rest-r : goal.returns-else-rest-r
returns-else-rest-r c =
    let a = c.args in
    c.is_lt.ensures ∙ ap is_lt (c.compare.ensures.order_value ∙ ap (λ (k : List ℕ). order k (take a.r.n a.rest.now)) c.key.ensures)
    ∙ sym (below-some a.r.n a.r.words.now a.rest.now (let l = a.r.whole in omega (arith, c.if-rest-r.false)))
