-- What is seen of a state before it is measured, and what the passes make of records. What the
-- clauses of inner functions cite. Assumes nothing.
use Rattle.std.specs.Prelude.{◌≡◌, ℕ, List, [], ◌∷◌, map, Bool, true, false, cond, Float, length, Ok}
use Rattle.std.specs.Float.Ieee.Scale.{finite}
use Rattle.amplitudes.specs.Amplitudes.{near_one}
use Rattle.merge.specs.Sorting.{side}
use Rattle.statevector.specs.declared.State.{State}
use Rattle.statevector.specs.Refusals.{first}
use Rattle.statevector.specs.Tests.{all_finite, head_rows, qubit_row, qubit_tests}
use Rattle.measurement.specs.declared.Projection.{Projection}
use Rattle.measurement.specs.declared.Seen.{Seen}
use Rattle.measurement.specs.Measurement.{kept_of, kept_records, divided}

-- what becomes of records that stay in place: near 1 nothing is divided
unfoldable pub normalized : ℕ → Float → List (List ℕ) → List (List ℕ)
unfolding divided near_one
normalized n scale rs = cond (near_one scale) rs (map (divided n scale) rs)

-- those of some records whose bit q is v, divided by the scale
abbrev pub divided_side : ℕ → Float → ℕ → Bool → List (List ℕ) → List (List ℕ)
divided_side n scale q v rs = map (divided n scale) (side n q v rs)

-- the records of both parts whose bit q is v, divided by the scale
abbrev pub divided_records : State → Projection → List ℕ → List (List ℕ)
divided_records s p front = map (divided s.width p.scale) (kept_records p.q p.v s front)

-- what there is to see of a state's records
abbrev pub seen_of : State → Projection → List ℕ → Seen
seen_of s p front = record {
  k0 = length (kept_of p.q p.v false s front);
  k1 = length (kept_of p.q p.v true s front);
  fine = all_finite s.width (divided_records s p front);
}

-- the tests found nothing: those that read no record, and all of them
abbrev pub HeadPassed : State → Projection → List ℕ → Type 0
HeadPassed s p front = first (head_rows s front (qubit_row s p.q ∷ [])) ≡ Ok tt

abbrev pub Passed : State → Projection → List ℕ → Type 0
Passed s p front = first (qubit_tests s front p.q (finite p.scale) []) ≡ Ok tt
