-- `state::calls::export_front` meets its contract. Assumes nothing.
use mathlib.Core.Path.{◌≡◌, sym}
use mathlib.Core.List.{[]}
use Prim.Native.Nat.{◌+◌}
use native.Mathlib.Omega.{arith}
use lib.Seq.{length-take-le}
use Rattle.std.specs.Prelude.{Ok}
use Rattle.merge.specs.Laws.{fewer-records}
use Rattle.statevector.specs.Laws.{Sound, fine-sound, first-none}
use Rattle.state.proofs.Calling.{Tests, export-refused, export-fine, tests-fine}
use Rattle.state.proofs.calls.export_front.Goals.{Else-is_err}
use Rattle.state.proofs.calls.export_front.Goals as goal

fine : (c : Else-is_err) → Tests c.args.s c.args.front.now ≡ Ok tt
fine c = tests-fine c.args.s c.args.front.now c.test_state.result (c.test_state.ensures [] [] (sym first-none) (sym first-none)) c.if-is_err.ensures.value

sound : (c : Else-is_err) → Sound c.args.s c.args.front.now
sound c = fine-sound c.args.s c.args.front.now [] [] [] (fine c)

pub returns-then-is_err-clause-result_value : goal.returns-then-is_err-clause-result_value
returns-then-is_err-clause-result_value c =
    export-refused c.args.s c.args.front.now c.test_state.result (c.test_state.ensures [] [] (sym first-none) (sym first-none)) c.if-is_err.ensures.value

pub overflow_add-all : goal.overflow_add-all
overflow_add-all c =
    omega (arith, (sound (goal.at.overflow_add-all c).Else-is_err).room, fewer-records c.args.s.width (c.args.s.n0 + c.args.s.n1))

pub overflow_add-size : goal.overflow_add-size
overflow_add-size c =
    omega (arith, (sound (goal.at.overflow_add-size c).Else-is_err).few)

pub overflow_mul-e : goal.overflow_mul-e
overflow_mul-e c =
    omega (arith, (sound (goal.at.overflow_mul-e c).Else-is_err).room)

pub slice_bounds-result-end-2 : goal.slice_bounds-result-end-2
slice_bounds-result-end-2 c =
    sym (length-take-le _ _ (omega (arith, (sound (goal.at.slice_bounds-result-end-2 c).Else-is_err).room)))

pub returns-clause-result_value : goal.returns-clause-result_value
returns-clause-result_value c =
    export-fine c.args.s c.args.front.now (fine (goal.at.returns-clause-result_value c).Else-is_err)
