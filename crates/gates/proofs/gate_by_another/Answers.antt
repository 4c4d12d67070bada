-- `gates::gate_by_another` meets its contract: what the look counted is what the repartition has to
-- know. Assumes nothing.
use Rattle.std.specs.Prelude.{Ok}
use Prim.Native.Nat.{◌*◌, ◌<◌}
use mathlib.Core.Path.{◌≡◌, ◌∙◌}
use native.Mathlib.Omega.{arith}
use Rattle.amplitudes.specs.Amplitudes.{finite_gate}
use Rattle.statevector.specs.Laws.{Sound, head-facts, qubit-within}
use Rattle.statevector.specs.Refusals.{first}
use Rattle.statevector.specs.Scans.{QuickFine}
use Rattle.statevector.specs.Tests.{qubit_tests, qubit_row}
use Rattle.gates.proofs.Performing.{seen, accepted, few-records, by-front-parted}
use Rattle.gates.proofs.Parting.{both-ones, ones-of-both}
use mathlib.Core.List.{[], ◌∷◌}
use Rattle.gates.proofs.gate_by_another.Goals.{In-Some}
use Rattle.gates.proofs.gate_by_another.Goals as goal

-- what was seen
looked : (c : In-Some) → let a = c.args in QuickFine a.s a.front.now a.q c.in-Some.ones.zero c.in-Some.ones.one
looked c = c.in-Some.ensures

fine : (c : In-Some) → let a = c.args in (Ok tt) ≡ first (qubit_tests a.s a.front.now a.q (finite_gate a.g) [])
fine c =
    let a = c.args in
    seen a.s a.q a.g a.front.now a.back.now c.requires.q_value _ _ c.requires.q_value_2.1 (looked c)

sound : (c : In-Some) → let a = c.args in Sound a.s a.front.now × (a.q < 64 * a.s.width)
sound c = let a = c.args in accepted a.s a.q a.g a.front.now a.back.now (fine c)

pub quick_scan-requires-clause-width_in_bounds : goal.quick_scan-requires-clause-width_in_bounds
quick_scan-requires-clause-width_in_bounds c =
    let h = head-facts c.args.s c.args.front.now (qubit_row c.args.s c.args.q ∷ []) c.requires.q_value in
    h.room

pub quick_scan-requires-clause-q_bound : goal.quick_scan-requires-clause-q_bound
quick_scan-requires-clause-q_bound c =
    let h = head-facts c.args.s c.args.front.now (qubit_row c.args.s c.args.q ∷ []) c.requires.q_value in
    (omega (arith, qubit-within c.args.s c.args.q h.names), h.few)

pub overflow_add-ones : goal.overflow_add-ones
overflow_add-ones c =
    let a = c.args in
    omega (arith, ones-of-both a.s a.front.now a.q _ _ (looked (goal.at.overflow_add-ones c).In-Some), few-records a.s a.q a.g a.front.now a.back.now (fine (goal.at.overflow_add-ones c).In-Some), c.well_formed)

pub repartition_first-requires-clause-sound : goal.repartition_first-requires-clause-sound
repartition_first-requires-clause-sound c =
    sound (goal.at.repartition_first-requires-clause-sound c).In-Some

pub repartition_first-requires-clause-ones_value : goal.repartition_first-requires-clause-ones_value
repartition_first-requires-clause-ones_value c =
    let a = c.args in
    both-ones a.s a.front.now a.q _ _ (looked (goal.at.repartition_first-requires-clause-ones_value c).In-Some)

pub repartition_first-requires-clause-all_moderate : goal.repartition_first-requires-clause-all_moderate
repartition_first-requires-clause-all_moderate c =
    λ e. record { gate = c.requires.q_value_2.1; records = (looked (goal.at.repartition_first-requires-clause-all_moderate c).In-Some).moderate }

pub returns-in-Some : goal.returns-in-Some
returns-in-Some c =
    let a = c.args in
    c.repartition_first.ensures ∙ by-front-parted a.s a.q a.g a.front.now a.back.now (fine (goal.at.returns-in-Some c).In-Some) c.requires.q_value_2.0
