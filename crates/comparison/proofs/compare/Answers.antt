-- `comparison::compare` meets its contract. Assumes nothing.
use Rattle.std.specs.declared.cmp.Ordering.{Ordering}
use Rattle.std.specs.Prelude.{Ok, Option}
use mathlib.Core.Path.{◌≡◌, sym, ap, ap₂, ◌∙◌}
use Prim.Native.Nat.{ℕ}
use mathlib.Core.List.{List}
use native.Mathlib.Omega.{arith}
use Rattle.keys.specs.declared.Compared.{Compared}
use Rattle.keys.specs.Keys.{order, pairs_compared, without}
use Rattle.std.proofs.lemmas.Result.{err_from_is_err_and}
use Rattle.statevector.specs.Laws.{both-clauses}
use Rattle.comparison.specs.Comparison.{compared, comparison-response}
use Rattle.comparison.specs.Laws.{TwoKeys, fine-compare, compare-done, compare-refused, compare-response}
use Rattle.comparison.proofs.compare.Goals.{In_ok-test_keys}
use Rattle.comparison.proofs.compare.Goals as goal

two : (c : In_ok-test_keys) → let a = c.args in TwoKeys a.width a.out a.a.now a.b.now
two c = fine-compare _ _ _ _ (sym c.in_ok-test_keys.ensures)

answered : (r : Compared) (out : Option ℕ) (a b : List ℕ) → r.order ≡ order (without out a) (without out b) → r.pairs ≡ pairs_compared (without out a) (without out b) → r ≡ compared out a b
unfolding compared
answered r out a b e f = ap₂ (λ (o : Ordering) (c : ℕ). record { order = o; pairs = c }) e f

pub compare-requires : goal.compare-requires
compare-requires c =
    let k = two (goal.at.compare-requires c).In_ok-test_keys in
    omega (arith, k.first-length, k.second-length)

pub returns-in_err-test_keys : goal.returns-in_err-test_keys
returns-in_err-test_keys c =
    let a = c.args in
    let p = err_from_is_err_and c.from_residual.result c.from_residual.ensures.1 in
    let h = both-clauses comparison-response (sym (compare-refused a.width a.out a.a.now a.b.now _ (sym c.in_err-test_keys.ensures)))
    (compare-response a.width a.out a.a.now a.b.now) in
    rw (p.1, p.2) (record { value = h.0; result_value = h.1 })

pub returns : goal.returns
returns c =
    let a = c.args in
    let k = two (goal.at.returns c).In_ok-test_keys in
    let h = both-clauses comparison-response (ap (λ (r : Compared). Ok r) (answered _ a.out a.a.now a.b.now c.compare.ensures.order_value c.compare.ensures.pairs_value)
    ∙ sym (compare-done a.width a.out a.a.now a.b.now k))
    (compare-response a.width a.out a.a.now a.b.now) in
    record { value = h.0; result_value = h.1 }
