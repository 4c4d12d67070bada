-- Every answer of a step and of a run is by the tables of its calls. Assumes nothing.
use Rattle.gates.specs.declared.Gated.{Gated}
use Rattle.std.specs.Prelude.{◌≡◌, refl, ℕ, List, [], ◌∷◌, Bool, true, false, cond, eqb, Float, Err, None, Ok, Option, Result, Some}
use Rattle.std.proofs.Common.{ap, ◌∙◌, arith}
use Rattle.state.specs.declared.Squares.{Squares}
use Rattle.statevector.specs.declared.Refusal.{Refusal}
use Rattle.statevector.specs.declared.Refusal.TheVariants as no
use Rattle.statevector.specs.declared.State.{State}
use Rattle.statevector.specs.Answers.{Response, refuses, made-response}
use Rattle.gates.specs.Gate.{performed-response, gate_call}
use Rattle.state.specs.Sums.{sums, premeasure_call}
use Rattle.measurement.specs.Measurement.{measure_call}
use Rattle.statevector.specs.Endings.{Ending}
use Rattle.state.specs.Laws.{check-response, gate-response, measure-response, premeasure-response}
use Rattle.run.specs.declared.Ran.{Ran}
use Rattle.run.specs.declared.Step.{Step}
use Rattle.run.specs.declared.Taken.{Taken}
use Rattle.run.specs.declared.steps.StepCall.{StepCall}
use Rattle.run.specs.declared.steps.StepCall.TheVariants as call
use Rattle.run.specs.Answers.{with, valued, taken_response, response_by, step_response, list_step_response, RunResponse, ran_response, on_response, steps_response, run_response}
use Rattle.run.specs.Run.{tested_as, onward, run_from, run_of}
use Rattle.run.specs.Steps.{Answer, answer_response, taken, gate_taken, measure_taken, sums_taken, refused_step, ending, by_call, call_of, step_of, list_step_of}

-- ---- a step

gate-read : (s : State) (p : Result Gated Refusal) → taken_response (gate_taken s p) ≡ with (λ after. (after, [])) (performed-response p)
gate-read s (Ok g) = refl
gate-read s (Err r) = refl

measure-read : (s : State) (m : Result State Refusal) → taken_response (measure_taken s m) ≡ with (λ after. (after, [])) (made-response m)
measure-read s (Ok t) = refl
measure-read s (Err r) = refl

sums-read : (s : State) (p : Result Squares Refusal) → taken_response (sums_taken s p) ≡ with (λ v. (s, v.0 ∷ v.1 ∷ [])) (sums p)
sums-read s (Ok x) = refl
sums-read s (Err r) = refl

call-response : (s : State) (q : ℕ) (c : Result StepCall Refusal) (left right : List ℕ) → taken_response (by_call s q c left right).answer ≡ response_by s q c left right
call-response s q (Ok (call.Gate g)) left right = gate-read s (gate_call s q g left right).answer ∙ ap (with (λ after. (after, []))) (gate-response s q g left right)
call-response s q (Ok (call.Measure v x)) left right = measure-read s (measure_call s q v x left right).answer ∙ ap (with (λ after. (after, []))) (measure-response s q v x left right)
call-response s q (Ok call.Premeasure) left right = sums-read s (premeasure_call s q left right) ∙ ap (with (λ v. (s, v.0 ∷ v.1 ∷ []))) (premeasure-response s q left right)
call-response s q (Err r) left right = refl

pub step-response : (s : State) (x : Step) (left right : List ℕ) → taken_response (step_of s x left right).answer ≡ step_response s x left right
unfolding step_of step_response
step-response s x left right = call-response s x.qubit (call_of x) left right

pub list-step-response : (s : State) (x : Step) (left right : List ℕ) → taken_response (list_step_of s x left right).answer ≡ list_step_response s x left right
unfolding list_step_of list_step_response
list-step-response s x left right = go (eqb x.kind 3)
  where
    go : (b : Bool) → taken_response (cond b (ending (refused_step s) left right) (step_of s x left right)).answer ≡ cond b (refuses no.Step) (step_response s x left right)
    go true = refl
    go false = step-response s x left right

-- ---- a refused step leaves the state

taken-left : {A : Type 0} (gives : A → State × Option Squares) (s : State) (p : Result A Refusal) (n : Refusal) → (taken gives s p).answer ≡ Err n → (taken gives s p).state ≡ s
taken-left gives s (Ok a) n e = let z : ◌≡◌ {A = ℕ} 0 1 = cc in absurd (omega arith)
taken-left gives s (Err r) n e = refl

-- sums leave it, whatever is answered
sums_kept : (s : State) (p : Result Squares Refusal) → (sums_taken s p).state ≡ s
sums_kept s (Ok x) = refl
sums_kept s (Err r) = refl

call-left : (s : State) (q : ℕ) (c : Result StepCall Refusal) (left right : List ℕ) (n : Refusal) → (by_call s q c left right).answer.answer ≡ Err n → (by_call s q c left right).answer.state ≡ s
call-left s q (Ok (call.Gate g)) left right n e = taken-left _ s (gate_call s q g left right).answer n e
call-left s q (Ok (call.Measure v x)) left right n e = taken-left _ s (measure_call s q v x left right).answer n e
call-left s q (Ok call.Premeasure) left right n e = sums_kept s (premeasure_call s q left right)
call-left s q (Err r) left right n e = refl

pub step_left : (s : State) (x : Step) (left right : List ℕ) (n : Refusal) → (list_step_of s x left right).answer.answer ≡ Err n → (list_step_of s x left right).answer.state ≡ s
unfolding list_step_of step_of
step_left s x left right n = go (eqb x.kind 3)
  where
    go : (b : Bool) → let t = (cond b (ending (refused_step s) left right) (by_call s x.qubit (call_of x) left right)).answer in t.answer ≡ Err n → t.state ≡ s
    go true e = refl
    go false e = call-left s x.qubit (call_of x) left right n e

-- ---- a run

steps-response : (xs : List Step) (s : State) (left right : List ℕ) → ran_response (run_from xs s left right).answer ≡ steps_response xs s left right
unfolding run_from steps_response
steps-response [] s left right = refl
steps-response (x ∷ xs) s left right =
    let o = list_step_of s x left right in
    go o (step_left s x left right) (run_from xs o.answer.state o.left o.right) (λ after. steps_response xs after o.left o.right) (steps-response xs o.answer.state o.left o.right) o.answer.answer refl
    ∙ ap (λ (t : Response (State × List Float)). on_response t.values t.number s (λ after. steps_response xs after o.left o.right)) (list-step-response s x left right)
  where
    more : RunResponse → RunResponse
    more r = on_response (Some (s, [])) 0 s (λ after. r)

    go : (o : Ending Taken) → ((n : Refusal) → o.answer.answer ≡ Err n → o.answer.state ≡ s) → (rest : Ending Ran) (told : State → RunResponse) → ran_response rest.answer ≡ told o.answer.state → (a : Answer) → o.answer.answer ≡ a
        → ran_response (onward (tested_as a) o rest).answer ≡ on_response (valued (λ v. (o.answer.state, v)) (answer_response a).values) (answer_response a).number s told
    go o left rest told h (Ok None) e = ap more h
    go o left rest told h (Ok (Some x)) e = ap more h
    go o left rest told h (Err n) e = ap (λ (u : State). record { number = (refuses {A = Unit} n).number; done = 0; state = u }) (left n e)

pub run-response : (xs : List Step) (s : State) (left right : List ℕ) → ran_response (run_of xs s left right).answer ≡ run_response xs s left right
unfolding run_of run_response
run-response [] s left right = ap (λ (t : Response Unit). record { number = t.number; done = 0; state = s }) (check-response s left right)
run-response (x ∷ xs) s left right = steps-response (x ∷ xs) s left right
