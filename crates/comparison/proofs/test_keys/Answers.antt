-- `comparison::test_keys` meets its contract. Assumes nothing.
use mathlib.Core.Path.{◌≡◌, sym, ◌∙◌}
use mathlib.Core.Bool.{true, false}
use Rattle.keys.specs.Keys.{listed}
use Rattle.comparison.specs.Comparison.{outside}
use Rattle.comparison.specs.Laws.{compare-width, compare-qubit, compare-length, compare-fine}
use Rattle.comparison.proofs.test_keys.Goals.{Else-is_outside, Else-not-is_width, then-a-width-via-then-a-width, then-a-width-via-else-a-width+then-b-width}
use Rattle.comparison.proofs.test_keys.Goals as goal

width : (c : Else-not-is_width) → listed c.args.width ≡ true
width c = sym c.is_width.ensures ∙ c.if-not-is_width.false

inside : (c : Else-is_outside) → let a = c.args in outside a.width a.out ≡ false
inside c = sym c.is_outside.ensures ∙ c.if-is_outside.false

pub returns-then-not-is_width : goal.returns-then-not-is_width
returns-then-not-is_width c =
    let a = c.args in
    sym (compare-width a.width a.out a.a.now a.b.now (sym c.is_width.ensures ∙ c.if-not-is_width.true))

pub returns-then-is_outside : goal.returns-then-is_outside
returns-then-is_outside c =
    let a = c.args in
    sym (compare-qubit a.width a.out a.a.now a.b.now (width (goal.at.returns-then-is_outside c).Else-not-is_width) (sym c.is_outside.ensures ∙ c.if-is_outside.true))

pub returns-then-a-width : goal.returns-then-a-width
returns-then-a-width c =
    let a = c.args in
    let w = goal.at.returns-then-a-width c in
    sym (compare-length a.width a.out a.a.now a.b.now (width w.Else-not-is_width) (inside w.Else-is_outside)
    (λ d e. elim c.then-a-width.branch [ then-a-width-via-then-a-width x ↦ x.if-a-width.true d | then-a-width-via-else-a-width+then-b-width x ↦ x.if-b-width.true e ]))

pub returns : goal.returns
returns c =
    let a = c.args in
    sym (compare-fine a.width a.out a.a.now a.b.now (record { width = width (goal.at.returns c).Else-not-is_width; inside = inside (goal.at.returns c).Else-is_outside; first-length = c.if-a-width.false; second-length = c.if-b-width.false }))
