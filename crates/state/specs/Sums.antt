-- The sums of squares before a measurement (SPECIFICATION 4.1). What the clause of `premeasure`
-- cites. Assumes nothing.
use Rattle.std.specs.Prelude.{ℕ, List, [], ◌∷◌, Bool, true, false, Float, pos, Err, Ok, Result}
use Rattle.std.specs.Float.{binary64, fin}
use Rattle.std.specs.Float.Ieee.{add}
use Rattle.amplitudes.specs.Amplitudes.{norm2}
use Rattle.merge.specs.Records.{amplitude_of}
use Rattle.merge.specs.Sorting.{side}
use Rattle.state.specs.declared.Squares.{Squares}
use Rattle.statevector.specs.declared.Refusal.{Refusal}
use Rattle.statevector.specs.declared.State.{State}
use Rattle.statevector.specs.Refusals.{first, if_fine}
use Rattle.statevector.specs.States.{front_of, part_of}
use Rattle.statevector.specs.Tests.{state_tests, qubit_row}
use Rattle.statevector.specs.Answers.{Response, accepts, refuses, by_table}

-- the squares of records added in their order, on top of a sum
unfoldable pub sum_from : ℕ → Float → List (List ℕ) → Float
unfolding add norm2 amplitude_of
sum_from n acc [] = acc
sum_from n acc (r ∷ rs) = sum_from n (add binary64 acc (norm2 (amplitude_of n r))) rs

abbrev pub plus_zero : Float
plus_zero = fin false 0 (pos 0)

-- over part 0 from +0, likewise over part 1, then the two added
unfoldable pub sum_for : ℕ → Bool → State → List ℕ → Float
unfolding add sum_from side
sum_for q b s front =
    add binary64 (sum_from s.width plus_zero (side s.width q b (part_of false s front))) (sum_from s.width plus_zero (side s.width q b (part_of true s front)))

-- over the front store, and by the front mark
unfoldable pub premeasure_in : State → ℕ → List ℕ → Result Squares Refusal
unfolding state_tests first sum_for
premeasure_in s q front =
    if_fine (first (state_tests s front (qubit_row s q ∷ []) [] []))
    (Ok (record { clear = sum_for q false s front; set = sum_for q true s front }))
    (λ r. Err r)

unfoldable pub premeasure_call : State → ℕ → List ℕ → List ℕ → Result Squares Refusal
unfolding premeasure_in
premeasure_call s q left right = premeasure_in s q (front_of s.front left right)

-- ---- its number and values, by its table

-- the sums for outcomes 0 and 1
abbrev pub sums : Result Squares Refusal → Response (Float × Float)
sums (Ok x) = accepts (x.clear, x.set)
sums (Err r) = refuses r

abbrev pub premeasure_response : State → ℕ → List ℕ → List ℕ → Response (Float × Float)
premeasure_response s q left right = let front = front_of s.front left right in by_table (state_tests s front (qubit_row s q ∷ []) [] []) (sum_for q false s front, sum_for q true s front)
