-- A measurement: the projection onto bit q = v, and the division by the scale (SPECIFICATION 4.2,
-- 4.3). What the clause of `measure` cites. Assumes nothing.
use Rattle.statevector.specs.declared.Refusal.{Refusal}
use Rattle.std.specs.Prelude.{ℕ, ◌+◌, List, [], ◌∷◌, ◌++◌, map, Bool, true, false, not, cond, ◌&&◌, ◌||◌, eqb, ltb, length, Float, Err, Ok, Result}
use Rattle.std.proofs.lemmas.List.Edits.{sets}
use Rattle.std.specs.Float.Ieee.Scale.{finite}
use Rattle.amplitudes.specs.Amplitudes.{over, near_one}
use Rattle.merge.specs.Records.{capacity, key_of, amplitude_of, encode, flat}
use Rattle.merge.specs.Sorting.{side}
use Rattle.statevector.specs.declared.Refusal.TheVariants as no
use Rattle.statevector.specs.declared.State.{State}
use Rattle.statevector.specs.Endings.{FrontEnding, Ending, by_front}
use Rattle.statevector.specs.Refusals.{Test, first, if_fine}
use Rattle.statevector.specs.States.{front_of, back_of, other_side, part_of, tag_is, with_parts}
use Rattle.statevector.specs.Tests.{state_tests, all_finite, qubit_tests}
use Rattle.statevector.specs.Answers.{Response, by_table}

-- what stays of a part: the records whose bit q is v
abbrev pub kept_of : ℕ → Bool → Bool → State → List ℕ → List (List ℕ)
kept_of q v b s front = side s.width q v (part_of b s front)

abbrev pub kept_records : ℕ → Bool → State → List ℕ → List (List ℕ)
kept_records q v s front = kept_of q v false s front ++ kept_of q v true s front

-- a record with both parts of its amplitude divided by the scale
unfoldable pub divided : ℕ → Float → List ℕ → List ℕ
unfolding encode over amplitude_of
divided n scale r = encode (record { key = key_of n r; amp = over (amplitude_of n r) scale })

-- by the tag, and where all entries match, the front store keeps them; elsewhere they are copied
unfoldable pub in_place : ℕ → Bool → State → List ℕ → Bool
unfolding side
in_place q v s front = tag_is s.tag q || eqb (length (kept_records q v s front)) (s.n0 + s.n1)

-- in place a scale near 1 divides nothing; a copy is always divided
unfoldable pub divides : ℕ → Bool → Float → State → List ℕ → Bool
unfolding in_place near_one
divides q v scale s front = not (in_place q v s front && near_one scale)

unfoldable pub measured : ℕ → Bool → Float → State → List ℕ → List (List ℕ)
unfolding divides divided side
measured q v scale s front = cond (divides q v scale s front) (map (divided s.width scale) (kept_records q v s front)) (kept_records q v s front)

-- its own rows: 8 where a divided part isn't finite, then 9 where the copies exceed the back store
unfoldable pub measure_rows : ℕ → Bool → Float → State → List ℕ → List ℕ → List Test
unfolding all_finite measured in_place capacity
measure_rows q v scale s front back =
    (not (all_finite s.width (measured q v scale s front)), no.Overflow)
    ∷ (not (in_place q v s front) && ltb (capacity s.width back) (length (measured q v scale s front)), no.Full)
    ∷ []

unfoldable pub measure_tests : ℕ → Bool → Float → State → List ℕ → List ℕ → List Test
unfolding state_tests measure_rows
measure_tests q v scale s front back = qubit_tests s front q (finite scale) (measure_rows q v scale s front back)

unfoldable pub measured_state : ℕ → Bool → State → List ℕ → State
unfolding in_place side
measured_state q v s front =
    with_parts s (cond (in_place q v s front) s.front (other_side s.front)) (length (kept_of q v false s front)) (length (kept_of q v true s front)) s.tag

abbrev pub written_to : Bool → List ℕ → List ℕ → List ℕ → Result State Refusal → FrontEnding (Result State Refusal)
written_to true ws front back m = record { answer = m; front = sets front 0 ws; back = back }
written_to false ws front back m = record { answer = m; front = front; back = sets back 0 ws }

-- by front and back store, and by left and right
unfoldable pub measure_by_front : State → ℕ → Bool → Float → List ℕ → List ℕ → FrontEnding (Result State Refusal)
unfolding measure_tests first in_place flat measured measured_state
measure_by_front s q v scale front back =
    if_fine (first (measure_tests q v scale s front back))
    (written_to (in_place q v s front) (flat (measured q v scale s front)) front back (Ok (measured_state q v s front)))
    (λ r. record { answer = Err r; front = front; back = back })

unfoldable pub measure_call : State → ℕ → Bool → Float → List ℕ → List ℕ → Ending (Result State Refusal)
unfolding measure_by_front
measure_call s q v scale left right = by_front s.front (measure_by_front s q v scale (front_of s.front left right) (back_of s.front left right))

-- ---- its number and values, by its table

abbrev pub measure_response : State → ℕ → Bool → Float → List ℕ → List ℕ → Response State
measure_response s q v scale left right =
    let front = front_of s.front left right in by_table (measure_tests q v scale s front (back_of s.front left right)) (measured_state q v s front)
