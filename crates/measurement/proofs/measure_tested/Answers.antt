-- `measurement::measure_tested` meets its contract. Assumes nothing.
use mathlib.Core.Path.{◌≡◌, sym, ap, ◌∙◌}
use mathlib.Core.List.{List, [], ◌∷◌, ◌++◌}
use mathlib.Core.Bool.{Bool, true, false, ◌&&◌}
use Prim.Native.Nat.{ℕ}
use native.Mathlib.Omega.{arith}
use lib.Ieee.Scale.{finite}
use Rattle.std.proofs.lemmas.Result.{err_from_is_err_and}
use Rattle.statevector.specs.declared.State.{State}
use Rattle.statevector.specs.Refusals.{first, Tested}
use Rattle.statevector.specs.Tests.{record_rows, qubit_row, finite_row, qubit_tests}
use Rattle.statevector.specs.Laws.{head-fine, QubitReady}
use Rattle.measurement.specs.declared.Projection.{Projection}
use Rattle.measurement.specs.Passes.{HeadPassed, Passed}
use Rattle.measurement.proofs.Ways.{ready, refused, seen-both}
use Rattle.measurement.proofs.Seeing.{head}
use Rattle.measurement.proofs.measure_tested.Goals.{then-m0, else-m0, In_ok-test_records_with}
use Rattle.measurement.proofs.measure_tested.Goals as goal

-- what the tests that read records say
found : (s : State) (p : Projection) (front : List ℕ) (t : Tested) (b : Bool) → HeadPassed s p front → t ≡ first (record_rows s front ++ (finite_row b ∷ [])) → b ≡ finite p.scale
    → first (qubit_tests s front p.q (finite p.scale) []) ≡ t
found s p front t b h e f =
    head-fine s front (qubit_row s p.q ∷ []) (finite_row (finite p.scale) ∷ []) [] h ∙ sym (e ∙ ap (λ (b : Bool). first (record_rows s front ++ (finite_row b ∷ []))) f)

passed : (c : In_ok-test_records_with) → Passed c.args.s c.args.p c.args.front.now
passed c =
    found c.args.s c.args.p c.args.front.now _ _ c.requires c.test_records_with.ensures c.is_finite.ensures ∙ c.in_ok-test_records_with.was

here : (c : In_ok-test_records_with) → QubitReady c.args.s c.args.front.now c.args.p.q
here c = ready c.args.s c.args.p c.args.front.now (passed c)

pub test_records_with-requires-clause-width_in_bounds : goal.test_records_with-requires-clause-width_in_bounds
test_records_with-requires-clause-width_in_bounds c =
    (head c.args.s c.args.p c.args.front.now c.requires).room

pub test_records_with-requires-clause-width_nonzero : goal.test_records_with-requires-clause-width_nonzero
test_records_with-requires-clause-width_nonzero c =
    let h = head c.args.s c.args.p c.args.front.now c.requires in
    (h.some, h.few)

pub returns-in_err-test_records_with : goal.returns-in_err-test_records_with
returns-in_err-test_records_with c =
    let a = c.args in
    let p = err_from_is_err_and c.from_residual.result c.from_residual.ensures.1 in
    rw (p.1, p.2) (refused a.s a.p.q a.p.v a.p.scale a.front.now a.back.now _ (found a.s a.p a.front.now _ _ c.requires c.test_records_with.ensures c.is_finite.ensures ∙ c.in_err-test_records_with.was))

pub of-part0-requires-clause-n_in_bounds : goal.of-part0-requires-clause-n_in_bounds
of-part0-requires-clause-n_in_bounds c =
    (omega arith, (here (goal.at.of-part0-requires-clause-n_in_bounds c).In_ok-test_records_with).room0)

pub of-part0-requires-clause-n_bound : goal.of-part0-requires-clause-n_bound
of-part0-requires-clause-n_bound c =
    omega (arith, (here (goal.at.of-part0-requires-clause-n_bound c).In_ok-test_records_with).sound.few)

pub overflow_add-s : goal.overflow_add-s
overflow_add-s c =
    omega (arith, (here (goal.at.overflow_add-s c).In_ok-test_records_with).few, c.well_formed)

pub of-part1-requires-clause-n_in_bounds : goal.of-part1-requires-clause-n_in_bounds
of-part1-requires-clause-n_in_bounds c =
    (omega arith, (here (goal.at.of-part1-requires-clause-n_in_bounds c).In_ok-test_records_with).sound.room)

pub do_measure_count-m0-requires-clause-q_bound : goal.do_measure_count-m0-requires-clause-q_bound
do_measure_count-m0-requires-clause-q_bound c =
    rw c.of-part0.ensures.n_value (here (goal.at.do_measure_count-m0-requires-clause-q_bound c).In_ok-test_records_with).inside

pub do_measure_count-m0-requires-clause-all : goal.do_measure_count-m0-requires-clause-all
do_measure_count-m0-requires-clause-all c =
    let p = c.of-part0.ensures in
    rw (p.part_value, p.n_value) ((here (goal.at.do_measure_count-m0-requires-clause-all c).In_ok-test_records_with).sound.finites false)

pub do_measure_count-m1-requires-clause-q_bound : goal.do_measure_count-m1-requires-clause-q_bound
do_measure_count-m1-requires-clause-q_bound c =
    rw c.of-part1.ensures.n_value (here (goal.at.do_measure_count-m1-requires-clause-q_bound c).In_ok-test_records_with).inside

pub do_measure_count-m1-requires-clause-all : goal.do_measure_count-m1-requires-clause-all
do_measure_count-m1-requires-clause-all c =
    let p = c.of-part1.ensures in
    rw (p.part_value, p.n_value) ((here (goal.at.do_measure_count-m1-requires-clause-all c).In_ok-test_records_with).sound.finites true)

pub measure_fine-requires-clause-passed : goal.measure_fine-requires-clause-passed
measure_fine-requires-clause-passed c =
    passed (goal.at.measure_fine-requires-clause-passed c).In_ok-test_records_with

pub measure_fine-requires-clause-seen_value : goal.measure_fine-requires-clause-seen_value
measure_fine-requires-clause-seen_value c =
    let a = c.args in
    let p = c.of-part0.ensures in
    let r = c.of-part1.ensures in
    let m0 = c.do_measure_count-m0 in
    let m1 = c.do_measure_count-m1 in
    let e : c.if-m0.seen ≡ (m0.result.fine && m1.result.fine) = elim c.if-m0.branch [ then-m0 w ↦ rw w.if-m0.true w.seen-is | else-m0 w ↦ rw w.if-m0.false (w.seen-is ∙ w.if-m0.false) ] in
    rw e
    (seen-both a.s a.p a.front.now _ _ _ _ (rw (p.part_value, p.n_value) at m0.ensures.count_value) (rw (r.part_value, r.n_value) at m1.ensures.count_value) (rw (p.part_value, p.n_value) at m0.ensures.fine_value) (rw (r.part_value, r.n_value) at m1.ensures.fine_value))
