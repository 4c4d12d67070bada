-- `state::calls::lookup_front` meets its contract: part 0, then part 1. Assumes nothing.
use Rattle.std.specs.Prelude.{Ok}
use Prim.Native.Nat.{◌+◌}
use mathlib.Core.Path.{◌≡◌, sym, ap, ◌∙◌}
use mathlib.Core.Bool.{true, false}
use mathlib.Core.List.{[]}
use native.Mathlib.Omega.{arith}
use Rattle.std.proofs.lemmas.Result.{err_from_is_err_and}
use Rattle.merge.specs.Laws.{fewer-records}
use Rattle.statevector.specs.Refusals.{first}
use Rattle.statevector.specs.Tests.{state_tests}
use Rattle.statevector.specs.Laws.{Sound, fine-sound, room-first, first-none}
use Rattle.state.proofs.Calling.{lookup-refused, lookup-length, lookup-fine, found_first, found-second}
use Rattle.state.proofs.calls.lookup_front.Goals.{In_ok-test_state}
use Rattle.state.proofs.calls.lookup_front.Goals as goal

fine : (c : In_ok-test_state) → first (state_tests c.args.s c.args.front.now [] [] []) ≡ Ok tt
fine c = sym (c.in_ok-test_state.ensures [] [] (sym first-none) (sym first-none))

sound : (c : In_ok-test_state) → Sound c.args.s c.args.front.now
sound c = fine-sound c.args.s c.args.front.now [] [] [] (fine c)

pub returns-in_err-test_state : goal.returns-in_err-test_state
returns-in_err-test_state c =
    let a = c.args in
    let p = err_from_is_err_and c.from_residual.result c.from_residual.ensures.1 in
    rw (p.1, p.2) (lookup-refused a.s a.front.now a.key.now _ (sym (c.in_err-test_state.ensures [] [] (sym first-none) (sym first-none))))

pub overflow_add-all : goal.overflow_add-all
overflow_add-all c =
    omega (arith, (sound (goal.at.overflow_add-all c).In_ok-test_state).room, fewer-records c.args.s.width (c.args.s.n0 + c.args.s.n1))

pub returns-then-key-n : goal.returns-then-key-n
returns-then-key-n c =
    lookup-length c.args.s c.args.front.now c.args.key.now (fine (goal.at.returns-then-key-n c).In_ok-test_state) c.if-key-n.true

pub found_in-requires-clause-from_le_to : goal.found_in-requires-clause-from_le_to
found_in-requires-clause-from_le_to c =
    (omega arith, room-first c.args.s c.args.front.now (sound (goal.at.found_in-requires-clause-from_le_to c).In_ok-test_state))

pub found_in-requires-clause-rising : goal.found_in-requires-clause-rising
found_in-requires-clause-rising c =
    let h = sound (goal.at.found_in-requires-clause-rising c).In_ok-test_state in
    (h.rise false, h.finites false)

pub found_in-requires-in-None-clause-from_le_to : goal.found_in-requires-in-None-clause-from_le_to
found_in-requires-in-None-clause-from_le_to c =
    (omega arith, (sound (goal.at.found_in-requires-in-None-clause-from_le_to c).In_ok-test_state).room)

pub found_in-requires-in-None-clause-rising : goal.found_in-requires-in-None-clause-rising
found_in-requires-in-None-clause-rising c =
    let h = sound (goal.at.found_in-requires-in-None-clause-rising c).In_ok-test_state in
    (h.rise true, h.finites true)

pub returns-in-Some : goal.returns-in-Some
returns-in-Some c =
    let a = c.args in
    ap Ok (found_first a.s a.front.now a.key.now _ c.in-Some.ensures) ∙ lookup-fine a.s a.front.now a.key.now (fine (goal.at.returns-in-Some c).In_ok-test_state) c.if-key-n.false

pub returns-in-None : goal.returns-in-None
returns-in-None c =
    let a = c.args in
    ap Ok (c.found_in-in-None.ensures ∙ found-second a.s a.front.now a.key.now c.in-None.ensures) ∙ lookup-fine a.s a.front.now a.key.now (fine (goal.at.returns-in-None c).In_ok-test_state) c.if-key-n.false
