-- What holds of every step's answer, for the crates above. Assumes nothing.
use Rattle.statevector.specs.declared.Refusal.{Refusal}
use Rattle.std.specs.Prelude.{◌≡◌, refl, ℕ, List, not, T, Err, None, Ok, Option, Result, Some}
use Rattle.std.specs.Float.Ieee.{is_nan}
use Rattle.state.specs.declared.Squares.{Squares}
use Rattle.statevector.specs.declared.State.{State}
use Rattle.gates.specs.Gate.{gate_call}
use Rattle.measurement.specs.Measurement.{measure_call}
use Rattle.state.specs.Sums.{premeasure_call}
use Rattle.state.specs.Laws.{sums-no-nan}
use Rattle.run.specs.declared.Step.{Step}
use Rattle.run.specs.declared.steps.StepCall.{StepCall}
use Rattle.run.specs.declared.steps.StepCall.TheVariants as call
use Rattle.run.specs.Steps.{Answer, taken, by_call, call_of, step_of}

-- sums that are numbers, or infinite, so that they have a bit pattern
abbrev pub NoNan : Answer → Type 0
NoNan (Ok None) = Unit {0}
NoNan (Ok (Some x)) = T (not (is_nan x.clear)) × T (not (is_nan x.set))
NoNan (Err r) = Unit {0}

taken-no-nan : {A : Type 0} (gives : A → State × Option Squares) (s : State) (p : Result A Refusal) → ((a : A) → p ≡ Ok a → NoNan (Ok (gives a).1)) → NoNan (taken gives s p).answer
taken-no-nan gives s (Ok a) h = h a refl
taken-no-nan gives s (Err r) h = tt

call-no-nan : (s : State) (q : ℕ) (c : Result StepCall Refusal) (left right : List ℕ) → NoNan (by_call s q c left right).answer.answer
call-no-nan s q (Ok (call.Gate g)) left right = taken-no-nan _ s (gate_call s q g left right).answer (λ _ _. tt)
call-no-nan s q (Ok (call.Measure v x)) left right = taken-no-nan _ s (measure_call s q v x left right).answer (λ _ _. tt)
call-no-nan s q (Ok call.Premeasure) left right = taken-no-nan _ s (premeasure_call s q left right) (λ sums e. sums-no-nan s q left right sums e)
call-no-nan s q (Err r) left right = tt

pub step-no-nan : (s : State) (x : Step) (left right : List ℕ) → NoNan (step_of s x left right).answer.answer
unfolding step_of
step-no-nan s x left right = call-no-nan s x.qubit (call_of x) left right
