-- The calls of the state at the C boundary, on words (SPECIFICATION 14.1): one definition a call,
-- for every input. What the clauses of src/, and those of the C functions, cite. Assumes nothing.
use Rattle.statevector.specs.declared.Refusal.{Refusal}
use Rattle.statevector.specs.declared.State.{State}
use Rattle.std.specs.Prelude.{ℕ, List, [], ◌∷◌, cond, ◌&&◌, eqb, ltb, length, Result}
use Rattle.std.specs.Float.{binary64}
use Rattle.std.specs.Float.Ieee.{of_bits}
use Rattle.std.proofs.lemmas.List.Edits.{sets}
use Rattle.statevector.specs.Answers.{tested, made-response}
use Rattle.gates.specs.Gate.{performed-response, gate_call}
use Rattle.state.specs.Lookup.{found-response, lookup_call, export_call}
use Rattle.state.specs.Sums.{sums, premeasure_call}
use Rattle.estimates.specs.Estimates.{change, collapse_call, forecast_call}
use Rattle.comparison.specs.Comparison.{comparison-response, compare_call}
use Rattle.dense.specs.Dense.{dense_call}
use Rattle.state.specs.Fresh.{fresh_call}
use Rattle.measurement.specs.Measurement.{measure_call}
use Rattle.statevector.specs.Endings.{Ending}
use Rattle.statevector.specs.Tests.{check_call}
use Rattle.amplitudes.specs.Readings.{written_gate}
use Rattle.words.specs.Words.{state_size, gate_size, gate_results, side_of, side_word, state_of, amplitude_words, sum_words, change_words, left_out_of, comparison_words, AfterMaking, after_making, AfterReading, after_reading, AfterBoth, with_results, wrong_length, has_words}

-- nothing but an answer
abbrev pub unchanged : ℕ → List ℕ → List ℕ → List ℕ → AfterMaking
unchanged n state left right = record { answer = n; state = state; left = left; right = right }

abbrev pub only_answered : ℕ → List ℕ → AfterReading
only_answered n out = record { answer = n; out = out }

-- how a call ends that makes a state
abbrev pub state_made : Ending (Result State Refusal) → List ℕ → AfterMaking
state_made o state = after_making (made-response o.answer) state o.left o.right

-- ---- calls that read

unfoldable pub check_at : List ℕ → List ℕ → List ℕ → ℕ
check_at state left right = cond (has_words state_size state) (tested (check_call (state_of state) left right)).number wrong_length

unfoldable pub lookup_at : List ℕ → List ℕ → List ℕ → List ℕ → List ℕ → AfterReading
lookup_at state key left right out =
    cond (has_words state_size state && has_words 3 out) (after_reading amplitude_words (found-response (lookup_call (state_of state) key left right)) out) (only_answered wrong_length out)

-- the exported part is the first words of a store: which store, and how many words
unfoldable pub export_at : List ℕ → List ℕ → List ℕ → List ℕ → AfterReading
export_at state left right out =
    cond (has_words state_size state && has_words 2 out)
    (record { answer = 0; out = sets out 0 (side_word (state_of state).front ∷ length (export_call (state_of state) left right) ∷ []) })
    (only_answered wrong_length out)

unfoldable pub premeasure_at : List ℕ → ℕ → List ℕ → List ℕ → List ℕ → AfterReading
premeasure_at state q left right out = cond (has_words state_size state && has_words 2 out) (after_reading sum_words (sums (premeasure_call (state_of state) q left right)) out) (only_answered wrong_length out)

unfoldable pub collapse_at : List ℕ → ℕ → List ℕ → ℕ → List ℕ → List ℕ → List ℕ → AfterReading
collapse_at state q gate i left right out =
    cond (has_words state_size state && (has_words gate_size gate && has_words 1 out))
    (after_reading change_words (change (collapse_call (state_of state) q (written_gate gate) i left right)) out)
    (only_answered wrong_length out)

unfoldable pub forecast_at : List ℕ → ℕ → List ℕ → List ℕ → List ℕ → List ℕ → AfterReading
forecast_at state q gate left right out =
    cond (has_words state_size state && (has_words gate_size gate && has_words 1 out))
    (after_reading change_words (change (forecast_call (state_of state) q (written_gate gate) left right)) out)
    (only_answered wrong_length out)

-- a comparison takes no state
unfoldable pub compare_at : ℕ → ℕ → ℕ → List ℕ → List ℕ → List ℕ → AfterReading
compare_at width flag q a b out =
    cond (has_words 2 out) (after_reading comparison_words (comparison-response (compare_call width (left_out_of flag q) a b)) out) (only_answered wrong_length out)

-- ---- calls that make a state

unfoldable pub fresh_at : ℕ → List ℕ → List ℕ → List ℕ → AfterMaking
fresh_at width state left right =
    cond (has_words state_size state)
    (let o = fresh_call width left in after_making (made-response o.answer) state o.left right)
    (unchanged wrong_length state left right)

-- a gate that is done gives its results too, of which there are none as yet
unfoldable pub gate_at : List ℕ → ℕ → List ℕ → List ℕ → List ℕ → List ℕ → AfterBoth
gate_at state q gate left right out =
    cond (has_words state_size state && (has_words gate_size gate && has_words gate_results out))
    (let o = gate_call (state_of state) q (written_gate gate) left right in
    with_results (after_making (performed-response o.answer) state o.left o.right) out)
    (with_results (unchanged wrong_length state left right) out)

-- an outcome other than 0 or 1 gives 10, which stands before every other number
unfoldable pub measure_at : List ℕ → ℕ → ℕ → ℕ → List ℕ → List ℕ → AfterMaking
measure_at state q outcome scale left right =
    cond (has_words state_size state)
    (cond (ltb outcome 2)
    (state_made (measure_call (state_of state) q (eqb outcome 1) (of_bits binary64 scale) left right) state)
    (unchanged 10 state left right))
    (unchanged wrong_length state left right)

unfoldable pub dense_at : ℕ → List ℕ → ℕ → List ℕ → List ℕ → List ℕ → AfterMaking
dense_at width words front state left right =
    cond (has_words state_size state) (state_made (dense_call width words (side_of front) left right) state) (unchanged wrong_length state left right)
