-- `statevector::tests::test_head` meets its contract: row by row. Assumes nothing.
use mathlib.Core.Path.{◌≡◌, sym, ◌∙◌}
use mathlib.Core.Bool.{true}
use native.Mathlib.Omega.{arith}
use Rattle.std.proofs.lemmas.Result.{err_from_is_err_and}
use Rattle.keys.specs.Keys.{listed}
use Rattle.merge.specs.Laws.{width-range}
use Rattle.statevector.specs.Tests.{too_many}
use Rattle.statevector.proofs.Scanning.{head-width, head-own, head-count, head-none, count-is}
use Rattle.statevector.proofs.tests.test_head.Goals.{After-exceed, Else-not-is_width}
use Rattle.statevector.proofs.tests.test_head.Goals as goal

-- the width is listed
width : (c : Else-not-is_width) → listed c.args.s.width ≡ true
width c = sym c.is_width.ensures ∙ c.if-not-is_width.false

-- the test of the sizes is the row's
counts : (c : After-exceed) → too_many c.args.s c.args.front.now ≡ c.exceed.result
counts c = let a = c.args in sym (c.exceed.ensures ∙ count-is a.s a.front.now)

pub returns-then-not-is_width : goal.returns-then-not-is_width
returns-then-not-is_width c =
    let a = c.args in
    λ namedRows e. head-width a.s a.front.now namedRows (sym c.is_width.ensures ∙ c.if-not-is_width.true)

pub overflow_add-n : goal.overflow_add-n
overflow_add-n c =
    omega (arith, (width-range _ (width (goal.at.overflow_add-n c).Else-not-is_width)).1)

pub returns-then-exceed : goal.returns-then-exceed
returns-then-exceed c =
    let a = c.args in
    λ namedRows e. head-count a.s a.front.now namedRows (width (goal.at.returns-then-exceed c).Else-not-is_width) (sym e ∙ c.in_ok-named.was) (counts (goal.at.returns-then-exceed c).After-exceed ∙ c.if-exceed.true)

pub returns-in_err-named : goal.returns-in_err-named
returns-in_err-named c =
    let a = c.args in
    let p = err_from_is_err_and c.from_residual.result c.from_residual.ensures.1 in
    λ namedRows e. rw (p.1, p.2) (head-own a.s a.front.now namedRows (width (goal.at.returns-in_err-named c).Else-not-is_width) _ (sym e ∙ c.in_err-named.was))

pub returns : goal.returns
returns c =
    let a = c.args in
    λ namedRows e. head-none a.s a.front.now namedRows (width (goal.at.returns c).Else-not-is_width) (sym e ∙ c.in_ok-named.was) (counts (goal.at.returns c).After-exceed ∙ c.if-exceed.false)
