-- `state::sums::premeasure_front` meets its contract. Assumes nothing.
use Prim.Native.Nat.{ℕ, ◌/◌, ◌<◌}
use mathlib.Core.Path.{◌≡◌, sym, ap, ap₂, ◌∙◌, subst}
use mathlib.Core.Bool.{Bool, true, false}
use mathlib.Core.List.{List, [], ◌∷◌}
use native.Mathlib.Omega.{arith}
use lib.Ieee.{Float, binary64, add}
use Rattle.std.specs.Prelude.{Err, Ok, Result}
use Rattle.std.proofs.lemmas.Result.{err_from_is_err_and}
use Rattle.state.specs.declared.Squares.{Squares}
use Rattle.keys.specs.Lists.{All}
use Rattle.merge.specs.Records.{finite_record}
use Rattle.merge.specs.Sorting.{side}
use Rattle.merge.specs.Walks.{records_left}
use Rattle.state.specs.Sums.{sum_from, plus_zero, sum_for, premeasure_in}
use Rattle.statevector.specs.States.{part_of}
use Rattle.statevector.specs.Laws.{QubitReady, qubit-ready, first-none}
use Rattle.statevector.specs.declared.Refusal.{Refusal}
use Rattle.statevector.specs.Refusals.{if_fine, Tested}
use Rattle.statevector.specs.Tests.{qubit_row}
use Rattle.state.proofs.sums.premeasure_front.Goals.{In_ok-test_state}
use Rattle.state.proofs.sums.premeasure_front.Goals as goal

-- the tests found nothing
checked : (c : In_ok-test_state) → let a = c.args in QubitReady a.s a.front.now a.q
checked c = let a = c.args in qubit-ready a.s a.front.now a.q [] [] (sym (c.in_ok-test_state.ensures (qubit_row a.s a.q ∷ []) [] c.test_qubit.ensures (sym first-none)))

pub returns-in_err-test_state : goal.returns-in_err-test_state
unfolding premeasure_in
returns-in_err-test_state c =
    let a = c.args in
    let p = err_from_is_err_and c.from_residual.result c.from_residual.ensures.1 in
    rw (p.1, p.2) (ap (λ (r : Tested). if_fine {A = Result Squares Refusal} r (Ok (record { clear = sum_for a.q false a.s a.front.now; set = sum_for a.q true a.s a.front.now })) (λ r. Err r)) (c.in_err-test_state.ensures (qubit_row a.s a.q ∷ []) [] c.test_qubit.ensures (sym first-none)))

-- a part of the state as a value
part : (n m : ℕ) (rs ss : List (List ℕ)) → m ≡ n → rs ≡ ss → All (λ r. finite_record n r ≡ true) ss → All (λ r. finite_record m r ≡ true) rs
part n m rs ss e f h = subst (λ (m : ℕ). All (λ r. finite_record m r ≡ true) rs) (sym e) (subst (All (λ r. finite_record n r ≡ true)) (sym f) h)

pub of-requires : goal.of-requires
of-requires c =
    let h = checked (goal.at.of-requires c).In_ok-test_state in
    let few = h.sound.few in
    record { n_in_bounds = (omega arith, h.room0); n_bound = omega arith }

pub sum_part-a-requires : goal.sum_part-a-requires
sum_part-a-requires c =
    let h = checked (goal.at.sum_part-a-requires c).In_ok-test_state in
    let e = c.of.ensures in
    record { q_bound = subst (λ (m : ℕ). c.args.q / 64 < m) (sym e.n_value) h.inside; all = part _ _ _ _ e.n_value e.part_value (h.sound.finites false) }

pub overflow_add-s : goal.overflow_add-s
overflow_add-s c = omega (arith, (checked (goal.at.overflow_add-s c).In_ok-test_state).few, c.well_formed)

pub of-requires-2 : goal.of-requires-2
of-requires-2 c =
    let h = checked (goal.at.of-requires-2 c).In_ok-test_state in
    let few = h.sound.few in
    record { n_in_bounds = (omega arith, h.sound.room); n_bound = omega arith }

pub sum_part-b-requires : goal.sum_part-b-requires
sum_part-b-requires c =
    let h = checked (goal.at.sum_part-b-requires c).In_ok-test_state in
    let e = c.of-2.ensures in
    record { q_bound = subst (λ (m : ℕ). c.args.q / 64 < m) (sym e.n_value) h.inside; all = part _ _ _ _ e.n_value e.part_value (h.sound.finites true) }

pub returns : goal.returns
unfolding premeasure_in sum_for
returns c =
    let a = c.args in
    let front = a.front.now in
    let sum : Bool → ℕ → List (List ℕ) → Float = λ b m rs. sum_from m plus_zero (side m a.q b rs) in
    let zero : (b : Bool) → sum b c.of.result.n (records_left c.of.result) ≡ sum b a.s.width (part_of false a.s front) = λ b. ap₂ (sum b) c.of.ensures.n_value c.of.ensures.part_value in
    let one : (b : Bool) → sum b c.of-2.result.n (records_left c.of-2.result) ≡ sum b a.s.width (part_of true a.s front) = λ b. ap₂ (sum b) c.of-2.ensures.n_value c.of-2.ensures.part_value in
    ap₂ {C = Result Squares Refusal} (λ (u v : Float). Ok (record { clear = u; set = v }))
    (ap₂ (add binary64) (c.sum_part-a.ensures.clear_value ∙ zero false) (c.sum_part-b.ensures.clear_value ∙ one false))
    (ap₂ (add binary64) (c.sum_part-a.ensures.set_value ∙ zero true) (c.sum_part-b.ensures.set_value ∙ one true))
    ∙ ap (λ (r : Tested). if_fine {A = Result Squares Refusal} r (Ok (record { clear = sum_for a.q false a.s front; set = sum_for a.q true a.s front })) (λ r. Err r)) (c.in_ok-test_state.ensures (qubit_row a.s a.q ∷ []) [] c.test_qubit.ensures (sym first-none))
