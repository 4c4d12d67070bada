-- Every call keeps the lengths of both stores. Assumes nothing.
use Rattle.statevector.specs.Refusals.{Tested}
use Rattle.std.specs.Prelude.{◌≡◌, refl, ℕ, List, [], ◌∷◌, Bool, true, false, cond, ◌&&◌, eqb, ltb, leb, length, get_or, drop, Err, Ok}
use Rattle.std.proofs.Common.{◌∙◌}
use Rattle.std.specs.Float.Ieee.{binary64, of_bits}
use Rattle.statevector.specs.declared.State.{State}
use Rattle.statevector.specs.Answers.{made-response}
use Rattle.gates.specs.Gate.{performed-response, gate_call}
use Rattle.dense.specs.Dense.{dense_call}
use Rattle.state.specs.Fresh.{fresh_call}
use Rattle.measurement.specs.Measurement.{measure_call}
use Rattle.statevector.specs.Endings.{Ending}
use Rattle.statevector.specs.States.{SameLengths}
use Rattle.run.specs.declared.Ran.{Ran}
use Rattle.run.specs.declared.Step.{Step}
use Rattle.run.specs.declared.Taken.{Taken}
use Rattle.run.specs.Run.{tested_as, onward, run_from, run_of}
use Rattle.amplitudes.specs.Readings.{written_gate}
use Rattle.run.specs.Steps.{zeros, measure_by, call_by, call_of, step_of, list_step_of}
use Rattle.words.specs.Words.{state_size, gate_size, gate_results, side_of, state_of, AfterMaking, after_making, AfterReading, AfterBoth, with_results, wrong_length, no_call, has_words}
use Rattle.numbered.specs.declared.Numbers.{Numbers}
use Rattle.step_lists.specs.Lists.{steps_of, ran_as, run_at}
use Rattle.calls.specs.Calls.{unchanged, only_answered, state_made, check_at, lookup_at, export_at, premeasure_at, collapse_at, forecast_at, compare_at, fresh_at, gate_at, measure_at, dense_at}
use Rattle.numbered.specs.Numbered.{AfterCall, making, reading, doing, call_at}
use Rattle.state.specs.Laws.{gate-lengths, measure-lengths, fresh-length, dense-lengths}

-- what holds of both holds of the chosen one
chosen : {A : Type 0} (P : A → Type 0) (t : Bool) (x y : A) → P x → P y → P (cond t x y)
chosen P true x y h k = h
chosen P false x y h k = k

-- ---- a run

step_keeps : (s : State) (x : Step) (left right : List ℕ) → let o = list_step_of s x left right in SameLengths left right o.left o.right
unfolding list_step_of step_of call_of call_by measure_by
step_keeps s x left right = go (eqb x.kind 3) refl (eqb x.kind 1) refl (eqb x.kind 2) refl (leb (get_or x.words 0 0) 1 && zeros (drop 2 x.words)) refl
  where
    go : (t : Bool) → eqb x.kind 3 ≡ t → (u : Bool) → eqb x.kind 1 ≡ u → (v : Bool) → eqb x.kind 2 ≡ v
        → (w : Bool) → leb (get_or x.words 0 0) 1 && zeros (drop 2 x.words) ≡ w
        → let o = list_step_of s x left right in SameLengths left right o.left o.right
    go true e u f v g w h = rw e (refl, refl)
    go false e true f v g w h = rw (e, f) (gate-lengths s x.qubit (written_gate x.words) left right)
    go false e false f true g true h = rw (e, f, g, h) (measure-lengths s x.qubit (eqb (get_or x.words 0 0) 1) (of_bits binary64 (get_or x.words 1 0)) left right)
    go false e false f true g false h = rw (e, f, g, h) (refl, refl)
    go false e false f false g w h = rw (e, f, g) (refl, refl)

steps-keep : (xs : List Step) (s : State) (left right : List ℕ) → let o = run_from xs s left right in SameLengths left right o.left o.right
unfolding run_from
steps-keep [] s left right = (refl, refl)
steps-keep (x ∷ xs) s left right =
    let o = list_step_of s x left right in
    go (tested_as o.answer.answer) o (run_from xs o.answer.state o.left o.right) (step_keeps s x left right)
    (steps-keep xs o.answer.state o.left o.right)
  where
    go : (t : Tested) (o : Ending Taken) (rest : Ending Ran) → SameLengths left right o.left o.right → SameLengths o.left o.right rest.left rest.right
        → let r = onward t o rest in SameLengths left right r.left r.right
    go (Ok _) o rest h k = (k.0 ∙ h.0, k.1 ∙ h.1)
    go (Err r) o rest h k = h

run-keeps : (xs : List Step) (s : State) (left right : List ℕ) → let o = run_of xs s left right in SameLengths left right o.left o.right
unfolding run_of
run-keeps [] s left right = (refl, refl)
run-keeps (x ∷ xs) s left right = steps-keep (x ∷ xs) s left right

-- ---- any call by its number

module _ (left right : List ℕ) where
  record Keeps (o : AfterCall) : Type 0 where
    left-kept : length o.left ≡ length left
    right_kept : length o.right ≡ length right

  either : (t : Bool) {x y : AfterCall} → Keeps x → Keeps y → Keeps (cond t x y)
  either true h k = h
  either false h k = k

  abbrev Leaves : AfterMaking → Type 0
  Leaves o = SameLengths left right o.left o.right

  abbrev BothLeave : AfterBoth → Type 0
  BothLeave o = SameLengths left right o.left o.right

  gate-leaves : (state : List ℕ) (q : ℕ) (gate out : List ℕ) → BothLeave (gate_at state q gate left right out)
  unfolding gate_at
  gate-leaves state q gate out =
      let o = gate_call (state_of state) q (written_gate gate) left right in
      chosen BothLeave (has_words state_size state && (has_words gate_size gate && has_words gate_results out))
      (with_results (after_making (performed-response o.answer) state o.left o.right) out)
      (with_results (unchanged wrong_length state left right) out)
      (gate-lengths (state_of state) q (written_gate gate) left right)
      (refl, refl)

  measure-leaves : (state : List ℕ) (q b c : ℕ) → Leaves (measure_at state q b c left right)
  unfolding measure_at
  measure-leaves state q b c =
      let o = state_made (measure_call (state_of state) q (eqb b 1) (of_bits binary64 c) left right) state in
      let no = unchanged 10 state left right in
      chosen Leaves (has_words state_size state) (cond (ltb b 2) o no) (unchanged wrong_length state left right)
      (chosen Leaves (ltb b 2) o no (measure-lengths (state_of state) q (eqb b 1) (of_bits binary64 c) left right) (refl, refl))
      (refl, refl)

  fresh-leaves : (n : ℕ) (state : List ℕ) → Leaves (fresh_at n state left right)
  unfolding fresh_at
  fresh-leaves n state =
      let o = fresh_call n left in
      chosen Leaves (has_words state_size state) (after_making (made-response o.answer) state o.left right) (unchanged wrong_length state left right) (fresh-length n left, refl) (refl, refl)

  dense-leaves : (n : ℕ) (ws : List ℕ) (b : ℕ) (state : List ℕ) → Leaves (dense_at n ws b state left right)
  unfolding dense_at
  dense-leaves n ws b state =
      chosen Leaves (has_words state_size state) (state_made (dense_call n ws (side_of b) left right) state) (unchanged wrong_length state left right) (dense-lengths n ws (side_of b) left right) (refl, refl)

  run-leaves : (state steps out : List ℕ) → BothLeave (run_at state steps left right out)
  unfolding run_at
  run-leaves state steps out =
      chosen BothLeave (has_words state_size state && has_words 1 out) (ran_as (run_of (steps_of steps) (state_of state) left right) state out)
      (record { answer = wrong_length; state = state; left = left; right = right; out = out })
      (run-keeps (steps_of steps) (state_of state) left right)
      (refl, refl)

  module _ (third : List ℕ) where
    reads : (g : AfterReading) (state : List ℕ) → Keeps (reading g state left right third)
    reads g state = record { left-kept = refl; right_kept = refl }

    makes : (o : AfterMaking) (out : List ℕ) → Leaves o → Keeps (making o third out)
    makes o out h = record { left-kept = h.0; right_kept = h.1 }

    does : (o : AfterBoth) → BothLeave o → Keeps (doing o third)
    does o h = record { left-kept = h.0; right_kept = h.1 }

    any-keeps : (number : ℕ) (state : List ℕ) (ns : Numbers) (arg arg2 out : List ℕ) → Keeps (call_at number state ns arg arg2 left right third out)
    unfolding call_at
    any-keeps number state ns arg arg2 out =
        either (eqb number 1) (does (gate_at state ns.a arg left right out) (gate-leaves state ns.a arg out))
        (either (eqb number 2) (makes (measure_at state ns.a ns.b ns.c left right) out (measure-leaves state ns.a ns.b ns.c))
        (either (eqb number 3) (reads (premeasure_at state ns.a left right out) state)
        (either (eqb number 4) (makes (fresh_at ns.a state left right) out (fresh-leaves ns.a state))
        (either (eqb number 5) (makes (dense_at ns.a arg ns.b state left right) out (dense-leaves ns.a arg ns.b state))
        (either (eqb number 6) (reads (only_answered (check_at state left right) out) state)
        (either (eqb number 7) (reads (lookup_at state arg left right out) state)
        (either (eqb number 8) (reads (export_at state left right out) state)
        (either (eqb number 9) (reads (collapse_at state ns.a arg ns.b left right out) state)
        (either (eqb number 10) (reads (forecast_at state ns.a arg left right out) state)
        (either (eqb number 11) (does (run_at state arg left right out) (run-leaves state arg out))
        (either (eqb number 12) (reads (compare_at ns.a ns.b ns.c arg arg2 out) state) (reads (only_answered no_call out) state))))))))))))

    pub call-keeps : (number : ℕ) (state : List ℕ) (ns : Numbers) (arg arg2 out : List ℕ)
        → let o = call_at number state ns arg arg2 left right third out in (length o.left ≡ length left) × (length o.right ≡ length right)
    call-keeps number state ns arg arg2 out = let k = any-keeps number state ns arg arg2 out in (k.left-kept, k.right_kept)
