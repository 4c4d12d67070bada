-- What a step and a run answer in numbers (SPECIFICATION 10.1) and values, by the tables of their
-- calls. What the second clauses of `take_step` and `list_step` cite, and the law of `run`. Assumes
-- nothing.
use Rattle.std.specs.Prelude.{ℕ, ◌+◌, List, [], ◌∷◌, cond, eqb, Float, Err, None, Ok, Option, Result, Some}
use Rattle.statevector.specs.declared.Refusal.{Refusal}
use Rattle.statevector.specs.declared.Refusal.TheVariants as no
use Rattle.statevector.specs.declared.State.{State}
use Rattle.statevector.specs.Answers.{Response, refuses, tested, check_response}
use Rattle.gates.specs.Gate.{gate_response}
use Rattle.measurement.specs.Measurement.{measure_response}
use Rattle.state.specs.Sums.{premeasure_response}
use Rattle.run.specs.declared.Ran.{Ran}
use Rattle.run.specs.declared.Step.{Step}
use Rattle.run.specs.declared.Taken.{Taken}
use Rattle.run.specs.declared.steps.StepCall.{StepCall}
use Rattle.run.specs.declared.steps.StepCall.TheVariants.{Gate, Measure, Premeasure}
use Rattle.run.specs.Steps.{answer_response, call_of, list_step_of}

-- ---- a step

-- the same number, with other values
abbrev pub valued : {A B : Type 0} → (A → B) → Option A → Option B
valued f None = None
valued f (Some a) = Some (f a)

abbrev pub with : {A B : Type 0} → (A → B) → Response A → Response B
with f t = record { number = t.number; values = valued f t.values }

-- a step's number, and where it was done the state after it and the sums
abbrev pub taken_response : Taken → Response (State × List Float)
taken_response t = with (λ sums. (t.state, sums)) (answer_response t.answer)

-- by the table of its call
abbrev pub response_by : State → ℕ → Result StepCall Refusal → List ℕ → List ℕ → Response (State × List Float)
response_by s q (Ok (Gate g)) left right = with (λ after. (after, [])) (gate_response s q g left right)
response_by s q (Ok (Measure v scale)) left right = with (λ after. (after, [])) (measure_response s q v scale left right)
response_by s q (Ok Premeasure) left right = with (λ sums. (s, sums.0 ∷ sums.1 ∷ [])) (premeasure_response s q left right)
response_by s q (Err r) left right = refuses r

unfoldable pub step_response : State → Step → List ℕ → List ℕ → Response (State × List Float)
step_response s x left right = response_by s x.qubit (call_of x) left right

-- in a list kind 3 gets 10
unfoldable pub list_step_response : State → Step → List ℕ → List ℕ → Response (State × List Float)
list_step_response s x left right = cond (eqb x.kind 3) (refuses no.Step) (step_response s x left right)

-- ---- a run

-- the number of what stopped it, 0 where nothing did; how many steps were done; and the state after
-- them
pub record RunResponse : Type 0 where
  pub number : ℕ
  pub done : ℕ
  pub state : State

abbrev pub ran_response : Ran → RunResponse
ran_response r = record { number = (tested r.stopped).number; done = r.done; state = r.state }

-- a step that gives values goes on from the state among them; one that gives none ends the run with
-- its number and the state before it
abbrev pub on_response : Option (State × List Float) → ℕ → State → (State → RunResponse) → RunResponse
on_response (Some v) n s rest = let r = rest v.0 in record { number = r.number; done = 1 + r.done; state = r.state }
on_response None n s rest = record { number = n; done = 0; state = s }

-- the stores between two steps are those of the definition: a table does not give them
unfoldable pub steps_response : List Step → State → List ℕ → List ℕ → RunResponse
steps_response [] s left right = record { number = 0; done = 0; state = s }
steps_response (x ∷ xs) s left right =
    let t = list_step_response s x left right in
    let o = list_step_of s x left right in
    on_response t.values t.number s (λ after. steps_response xs after o.left o.right)

unfoldable pub run_response : List Step → State → List ℕ → List ℕ → RunResponse
run_response [] s left right = record { number = (check_response s left right).number; done = 0; state = s }
run_response (x ∷ xs) s left right = steps_response (x ∷ xs) s left right
