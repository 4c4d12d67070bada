-- A step: the call that its ten words stand for, and what it answers and leaves (SPECIFICATION 8.1,
-- 8.2). What the clauses of `take_step` and `list_step` cite. Assumes nothing.
use Rattle.gates.specs.declared.Gated.{Gated}
use Rattle.std.specs.Prelude.{ℕ, ◌+◌, List, [], ◌∷◌, Bool, cond, ◌&&◌, eqb, leb, get_or, drop, Float, Err, None, Ok, Option, Result, Some}
use Rattle.std.specs.Float.{binary64}
use Rattle.std.specs.Float.Ieee.{of_bits}
use Rattle.amplitudes.specs.Readings.{gate_by}
pub use Rattle.amplitudes.specs.Readings.{written_gate}
use Rattle.state.specs.declared.Squares.{Squares}
use Rattle.statevector.specs.declared.Refusal.{Refusal}
use Rattle.statevector.specs.declared.Refusal.TheVariants as no
use Rattle.statevector.specs.declared.State.{State}
use Rattle.statevector.specs.Answers.{Response, accepts, refuses}
use Rattle.gates.specs.Gate.{gate_call}
use Rattle.measurement.specs.Measurement.{measure_call}
use Rattle.statevector.specs.Endings.{Ending}
use Rattle.state.specs.Sums.{premeasure_call}
use Rattle.statevector.specs.Tests.{all}
use Rattle.run.specs.declared.Step.{Step}
use Rattle.run.specs.declared.Taken.{Taken}
use Rattle.run.specs.declared.steps.StepCall.{StepCall}
use Rattle.run.specs.declared.steps.StepCall.TheVariants.{Gate, Measure, Premeasure}

-- what a step answers: that it is done, with sums where it is a premeasure, or the refusal
abbrev pub Answer : Type 0
Answer = Result (Option Squares) Refusal

-- the number of an answer (SPECIFICATION 10.1), 0 where nothing is refused; and its values, the
-- sums for outcomes 0 and 1 of a premeasure
abbrev pub answer_response : Answer → Response (List Float)
answer_response (Ok None) = accepts []
answer_response (Ok (Some x)) = accepts (x.clear ∷ x.set ∷ [])
answer_response (Err r) = refuses r

abbrev pub step_number : Answer → ℕ
step_number a = (answer_response a).number

abbrev pub or_none : Option (List Float) → List Float
or_none None = []
or_none (Some xs) = xs

abbrev pub step_sums : Answer → List Float
step_sums a = or_none (answer_response a).values

-- ---- the step that ten words stand for, from word i on: kind, qubit, eight more
unfoldable pub step_from : List ℕ → ℕ → Step
step_from ws i = record { kind = get_or ws i 0; qubit = word 1; words = word 2 ∷ word 3 ∷ word 4 ∷ word 5 ∷ word 6 ∷ word 7 ∷ word 8 ∷ word 9 ∷ [] }
  where
    word : ℕ → ℕ
    word k = get_or ws (i + k) 0

-- ---- the call that a step stands for, by what reads a pattern as a float; 10 where there is none

unfoldable pub zeros : List ℕ → Bool
zeros ws = all (λ (w : ℕ). eqb w 0) ws

-- outcome 0 or 1, scale pattern, six zeros
unfoldable pub measure_by : (ℕ → Float) → List ℕ → Result StepCall Refusal
unfolding zeros
measure_by read ws = cond (leb (get_or ws 0 0) 1 && zeros (drop 2 ws)) (Ok (Measure (eqb (get_or ws 0 0) 1) (read (get_or ws 1 0)))) (Err no.Step)

unfoldable pub call_by : (ℕ → Float) → Step → Result StepCall Refusal
unfolding measure_by zeros
call_by read x =
    cond (eqb x.kind 1) (Ok (Gate (gate_by read x.words)))
    (cond (eqb x.kind 2) (measure_by read x.words)
    (cond (eqb x.kind 3) (cond (zeros x.words) (Ok Premeasure) (Err no.Step))
    (Err no.Step)))

-- each pattern is the float that IEEE 754 reads there
unfoldable pub call_of : Step → Result StepCall Refusal
unfolding call_by
call_of x = call_by (of_bits binary64) x

-- ---- what it answers and leaves

abbrev pub refused_with : State → Refusal → Taken
refused_with s r = record { state = s; answer = Err r }

-- 10
abbrev pub refused_step : State → Taken
refused_step s = refused_with s no.Step

-- of a call's result, of which `gives` reads the state after it and the sums, if it has any; after a
-- refusal the state is the one before
abbrev pub taken : {A : Type 0} → (A → State × Option Squares) → State → Result A Refusal → Taken
taken gives s (Ok a) = record { state = (gives a).0; answer = Ok (gives a).1 }
taken gives s (Err r) = refused_with s r

-- of a gate, of a measurement, and of the sums
abbrev pub gate_taken : State → Result Gated Refusal → Taken
gate_taken s p = taken (λ g. (g.state, None)) s p

abbrev pub measure_taken : State → Result State Refusal → Taken
measure_taken s m = taken (λ after. (after, None)) s m

abbrev pub sums_taken : State → Result Squares Refusal → Taken
sums_taken s p = taken (λ sums. (s, Some sums)) s p

-- an answer with the two stores; the answer of a call, read, with the stores as the call left them
abbrev pub ending : {A : Type 0} → A → List ℕ → List ℕ → Ending A
ending a left right = record { answer = a; left = left; right = right }

abbrev pub answered : {A B : Type 0} → (A → B) → Ending A → Ending B
answered f o = ending (f o.answer) o.left o.right

abbrev pub by_call : State → ℕ → Result StepCall Refusal → List ℕ → List ℕ → Ending Taken
by_call s q (Ok (Gate g)) left right = answered (gate_taken s) (gate_call s q g left right)
by_call s q (Ok (Measure v scale)) left right = answered (measure_taken s) (measure_call s q v scale left right)
by_call s q (Ok Premeasure) left right = ending (sums_taken s (premeasure_call s q left right)) left right
by_call s q (Err r) left right = ending (refused_with s r) left right

-- one step
unfoldable pub step_of : State → Step → List ℕ → List ℕ → Ending Taken
unfolding call_of
step_of s x left right = by_call s x.qubit (call_of x) left right

-- one step of a list: kind 3 gets 10 there
unfoldable pub list_step_of : State → Step → List ℕ → List ℕ → Ending Taken
unfolding step_of
list_step_of s x left right = cond (eqb x.kind 3) (ending (refused_step s) left right) (step_of s x left right)
