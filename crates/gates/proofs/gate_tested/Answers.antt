-- `gates::gate_tested` meets its contract. Assumes nothing.
use Rattle.std.specs.Prelude.{Ok}
use Prim.Native.Nat.{ℕ, ◌*◌, ◌<◌}
use mathlib.Core.Bool.{true, false≢true}
use mathlib.Core.List.{List}
use mathlib.Core.Path.{◌≡◌, refl, sym, ap₂, ◌∙◌}
use lib.ListN.{length}
use native.Mathlib.Omega.{arith}
use Rattle.std.proofs.lemmas.Result.{err_from_is_err_and}
use Rattle.amplitudes.specs.Amplitudes.{finite_gate}
use Rattle.merge.specs.Sorting.{side}
use Rattle.statevector.specs.Laws.{tag-eq, Sound, head-facts}
use Rattle.statevector.specs.Refusals.{first}
use Rattle.statevector.specs.Tests.{qubit_tests, qubit_row}
use Rattle.gates.proofs.Performing.{told, accepted, few-records, by-front-refused, by-front-straight, by-front-parted}
use Rattle.gates.proofs.Parting.{by-tag}
use mathlib.Core.List.{[], ◌∷◌}
use Rattle.gates.proofs.gate_tested.Goals.{In_ok-test_records_with}
use Rattle.gates.proofs.gate_tested.Goals as goal

-- what the rows said is what the call's table says
fine : (c : In_ok-test_records_with) → let a = c.args in Ok tt ≡ first (qubit_tests a.s a.front.now a.q (finite_gate a.g) [])
fine c =
    let a = c.args in
    told a.s a.q a.g a.front.now a.back.now c.requires (Ok tt) _ _ c.is_finite.ensures c.test_records_with.ensures c.in_ok-test_records_with.was

sound : (c : In_ok-test_records_with) → let a = c.args in Sound a.s a.front.now × (a.q < 64 * a.s.width)
sound c = let a = c.args in accepted a.s a.q a.g a.front.now a.back.now (fine c)

pub test_records_with-requires : goal.test_records_with-requires
test_records_with-requires c =
    let h = head-facts c.args.s c.args.front.now (qubit_row c.args.s c.args.q ∷ []) c.requires in
    record { width_in_bounds = h.room; width_nonzero = (h.some, h.few) }

pub returns-in_err-test_records_with : goal.returns-in_err-test_records_with
returns-in_err-test_records_with c =
    let a = c.args in
    let p = err_from_is_err_and c.from_residual.result c.from_residual.ensures.1 in
    rw (p.1, p.2) (by-front-refused a.s a.q a.g a.front.now a.back.now _ (told a.s a.q a.g a.front.now a.back.now c.requires _ _ _ c.is_finite.ensures c.test_records_with.ensures c.in_err-test_records_with.was))

pub overflow_add-all : goal.overflow_add-all
overflow_add-all c =
    let a = c.args in
    omega (arith, few-records a.s a.q a.g a.front.now a.back.now (fine (goal.at.overflow_add-all c).In_ok-test_records_with), c.well_formed)

pub new-pairs-requires : goal.new-pairs-requires
new-pairs-requires c =
    let h = sound (goal.at.new-pairs-requires c).In_ok-test_records_with in
    record { n_in_bounds = (omega arith, h.0.room); n_bound = omega (arith, h.0.few) }

pub test_and_write-requires : goal.test_and_write-requires
test_and_write-requires c =
    let a = c.args in
    let e = c.new-pairs.ensures in
    let h = sound (goal.at.test_and_write-requires c).In_ok-test_records_with in
    rw (e.of.0, e.of.1, e.lhs_value, e.rhs_value)
    (record { parted = by-tag a.s a.front.now a.q h.0 (sym (tag-eq a.s.tag a.q) ∙ sym c.if-eq.ensures); n_value = refl; finite = λ t. absurd (false≢true t) })

pub of-requires : goal.of-requires
of-requires c =
    let h = sound (goal.at.of-requires c).In_ok-test_records_with in
    record { n_in_bounds = (omega arith, h.0.room); n_bound = let f = h.0.few in omega arith }

pub count_set-ones-requires : goal.count_set-ones-requires
count_set-ones-requires c =
    let h = sound (goal.at.count_set-ones-requires c).In_ok-test_records_with in
    rw c.of.ensures.n_value (omega (arith, h.1))

pub repartition_first-requires-clause-ones_value : goal.repartition_first-requires-clause-ones_value
repartition_first-requires-clause-ones_value c =
    c.count_set-ones.ensures ∙ ap₂ (λ (n : ℕ) (rs : List (List ℕ)). length (side n c.args.q true rs)) c.of.ensures.n_value c.of.ensures.part_value

pub repartition_first-requires-clause-sound : goal.repartition_first-requires-clause-sound
repartition_first-requires-clause-sound c =
    sound (goal.at.repartition_first-requires-clause-sound c).In_ok-test_records_with

pub returns-then-eq : goal.returns-then-eq
returns-then-eq c =
    let a = c.args in
    by-front-straight a.s a.q a.g a.front.now a.back.now (fine (goal.at.returns-then-eq c).In_ok-test_records_with) (sym (tag-eq a.s.tag a.q) ∙ sym c.if-eq.ensures) _ c.other.ensures _ _
    (let e = c.new-pairs.ensures in rw (e.of.0, e.of.1, e.lhs_value, e.rhs_value) at c.test_and_write.ensures)

pub returns-else-eq : goal.returns-else-eq
returns-else-eq c =
    let a = c.args in
    c.repartition_first.ensures ∙ by-front-parted a.s a.q a.g a.front.now a.back.now (fine (goal.at.returns-else-eq c).In_ok-test_records_with) (sym (tag-eq a.s.tag a.q) ∙ sym c.if-eq.ensures)
