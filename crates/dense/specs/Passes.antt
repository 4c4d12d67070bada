-- The two passes of a dense import: counting with the tests of the list, and laying the records
-- over the store that becomes front. What the clauses of inner functions cite. Assumes nothing.
use Rattle.statevector.specs.declared.Refusal.{Refusal}
use Rattle.statevector.specs.declared.State.{State}
use Rattle.std.specs.Prelude.{ℕ, ◌+◌, List, [], ◌∷◌, cond, ltb, length, Err, Ok, Result}
use Rattle.std.specs.Float.Ieee.{of_bits}
use Rattle.merge.specs.Records.{capacity, flat}
use Rattle.statevector.specs.declared.Refusal.TheVariants as no
use Rattle.statevector.specs.declared.Side.{Side}
use Rattle.dense.specs.Dense.{dense_amplitude, wanted, dense_from, list_rows, dense_state}
use Rattle.statevector.specs.Endings.{FrontEnding}
use Rattle.statevector.specs.Refusals.{first, if_fine, Tested}
use Rattle.std.proofs.lemmas.List.Edits.{sets}

-- how many pairs are wanted
unfoldable pub wanted_in : List ℕ → ℕ
unfolding of_bits wanted
wanted_in [] = 0
wanted_in (re ∷ []) = 0
wanted_in (re ∷ im ∷ ws) = cond (wanted (dense_amplitude re im)) 1 0 + wanted_in ws

unfoldable pub counted_of : List ℕ → Result ℕ Refusal
unfolding of_bits wanted_in first
counted_of words = if_fine (first (list_rows words)) (Ok (wanted_in words)) (λ r. Err r)

-- the records over the store's start, by what the tests found
abbrev pub dense_by : Tested → ℕ → Side → List (List ℕ) → List ℕ → List ℕ → FrontEnding (Result State Refusal)
dense_by t n mark rs front back =
    if_fine t
    (record { answer = Ok (dense_state n mark (length rs)); front = sets front 0 (flat rs); back = back })
    (λ r. record { answer = Err r; front = front; back = back })

-- 9, and then the records
unfoldable pub dense_over : ℕ → List ℕ → Side → List ℕ → List ℕ → FrontEnding (Result State Refusal)
unfolding dense_from capacity first flat
dense_over n words mark front back =
    dense_by (first ((ltb (capacity n front) (length (dense_from n 0 words)), no.Full) ∷ [])) n mark (dense_from n 0 words) front back
