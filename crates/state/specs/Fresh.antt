-- A fresh state: key 0 with amplitude 1 in the left store. What the clause of `fresh` cites.
-- Assumes nothing.
use Rattle.statevector.specs.declared.Refusal.{Refusal}
use Rattle.std.specs.Prelude.{ℕ, List, [], ◌∷◌, not, false, eqb, pos, Err, Ok, Result, Some}
use Rattle.std.proofs.lemmas.List.Edits.{sets}
use Rattle.std.specs.Float.{fin}
use Rattle.amplitudes.specs.declared.Complex.{Complex}
use Rattle.keys.specs.Keys.{listed, index_key}
use Rattle.merge.specs.Records.{encode, capacity}
use Rattle.statevector.specs.declared.Refusal.TheVariants as no
use Rattle.statevector.specs.declared.Side.TheVariants.{Left}
use Rattle.statevector.specs.declared.State.{State}
use Rattle.statevector.specs.Refusals.{Test, first, if_fine}
use Rattle.statevector.specs.Answers.{Response, by_table}

-- amplitude 1
abbrev pub one : Complex
one = record { re = fin false 1 (pos 0); im = fin false 0 (pos 0) }

unfoldable pub fresh_state : ℕ → State
fresh_state n = record { width = n; front = Left; n0 = 1; n1 = 0; tag = Some 0 }

unfoldable pub fresh_record : ℕ → List ℕ
unfolding encode index_key
fresh_record n = encode (record { key = index_key n 0; amp = one })

-- 1, and 9 where not one record fits
unfoldable pub fresh_tests : ℕ → List ℕ → List Test
unfolding listed capacity
fresh_tests n left = (not (listed n), no.Width) ∷ (eqb (capacity n left) 0, no.Full) ∷ []

-- the answer, and the one store that a fresh state is lent
pub record LeftEnding : Type 0 where
  pub answer : Result State Refusal
  pub left : List ℕ

unfoldable pub fresh_call : ℕ → List ℕ → LeftEnding
unfolding fresh_tests first fresh_state fresh_record
fresh_call n left =
    if_fine (first (fresh_tests n left))
    (record { answer = Ok (fresh_state n); left = sets left 0 (fresh_record n) })
    (λ r. record { answer = Err r; left = left })

-- ---- its number and values, by its table

abbrev pub fresh_response : ℕ → List ℕ → Response State
fresh_response n left = by_table (fresh_tests n left) (fresh_state n)
