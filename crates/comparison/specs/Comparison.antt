-- A comparison of two keys: their order and how many pairs of words were compared. What the clauses
-- of src/ cite. Assumes nothing.
use Rattle.statevector.specs.declared.Refusal.{Refusal}
use Rattle.std.specs.Prelude.{ℕ, ◌*◌, List, [], ◌∷◌, Bool, false, not, eqb, leb, length, Err, None, Ok, Option, Result, Some}
use Rattle.keys.specs.declared.Compared.{Compared}
use Rattle.keys.specs.Keys.{listed, order, pairs_compared, without}
use Rattle.statevector.specs.declared.Refusal.TheVariants as no
use Rattle.statevector.specs.Refusals.{Test, first, if_fine}
use Rattle.statevector.specs.Answers.{Response, accepts, refuses, by_table}

-- the left-out qubit, if there is one, is outside a key of n words
abbrev pub outside : ℕ → Option ℕ → Bool
outside n None = false
outside n (Some q) = leb (64 * n) q

-- 1: the width; 2: the left-out qubit; 7: a key that is not N words
unfoldable pub compare_tests : ℕ → Option ℕ → List ℕ → List ℕ → List Test
unfolding listed
compare_tests n out a b =
    (not (listed n), no.Width) ∷ (outside n out, no.Qubit) ∷ (not (eqb (length a) n), no.Length) ∷ (not (eqb (length b) n), no.Length) ∷ []

-- the order of the keys without the left-out bit, and how many pairs of words it takes to tell
unfoldable pub compared : Option ℕ → List ℕ → List ℕ → Compared
unfolding order pairs_compared
compared out a b = record { order = order (without out a) (without out b); pairs = pairs_compared (without out a) (without out b) }

unfoldable pub compare_call : ℕ → Option ℕ → List ℕ → List ℕ → Result Compared Refusal
unfolding compare_tests first compared
compare_call n out a b = if_fine (first (compare_tests n out a b)) (Ok (compared out a b)) (λ r. Err r)

-- ---- its number and values, by its table

abbrev pub comparison-response : Result Compared Refusal → Response Compared
comparison-response (Ok c) = accepts c
comparison-response (Err r) = refuses r

abbrev pub compare_response : ℕ → Option ℕ → List ℕ → List ℕ → Response Compared
compare_response n out a b = by_table (compare_tests n out a b) (compared out a b)
