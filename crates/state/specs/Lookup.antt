-- A lookup: the amplitude at a key, or absent; and an export: the front records. What the clauses
-- of `lookup` and `export` cite. Assumes nothing.
use Rattle.std.specs.Prelude.{ℕ, ◌+◌, ◌*◌, List, [], ◌∷◌, not, eqb, length, take, Err, Ok, Option, Result}
use Rattle.amplitudes.specs.declared.Complex.{Complex}
use Rattle.merge.specs.Records.{at}
use Rattle.statevector.specs.declared.Refusal.{Refusal}
use Rattle.statevector.specs.declared.Refusal.TheVariants as no
use Rattle.statevector.specs.declared.State.{State}
use Rattle.statevector.specs.Refusals.{Test, first, if_fine}
use Rattle.statevector.specs.States.{front_of, entries_of}
use Rattle.statevector.specs.Tests.{state_tests}
use Rattle.statevector.specs.Answers.{Response, accepts, refuses, by_table}

-- the state's tests, then 7: the key is not N words
unfoldable pub lookup_tests : State → List ℕ → List ℕ → List Test
unfolding state_tests
lookup_tests s front key = state_tests s front [] [] ((not (eqb (length key) s.width), no.Length) ∷ [])

-- over the front store, and by the front mark
unfoldable pub lookup_in : State → List ℕ → List ℕ → Result (Option Complex) Refusal
unfolding lookup_tests first at
lookup_in s key front = if_fine (first (lookup_tests s front key)) (Ok (at key (entries_of s front))) (λ r. Err r)

unfoldable pub lookup_call : State → List ℕ → List ℕ → List ℕ → Result (Option Complex) Refusal
unfolding lookup_in
lookup_call s key left right = lookup_in s key (front_of s.front left right)

-- an export is the front records themselves, and an empty part of a state that the table refuses
unfoldable pub export_in : State → List ℕ → List ℕ
unfolding state_tests first
export_in s front = if_fine (first (state_tests s front [] [] [])) (take ((s.n0 + s.n1) * (s.width + 2)) front) (λ r. [])

unfoldable pub export_call : State → List ℕ → List ℕ → List ℕ
unfolding export_in
export_call s left right = export_in s (front_of s.front left right)

-- ---- its number and values, by its table

-- a lookup gives an amplitude, or that there is none
abbrev pub found-response : Result (Option Complex) Refusal → Response (Option Complex)
found-response (Ok m) = accepts m
found-response (Err r) = refuses r

abbrev pub lookup_response : State → List ℕ → List ℕ → List ℕ → Response (Option Complex)
lookup_response s k left right = let front = front_of s.front left right in by_table (lookup_tests s front k) (at k (entries_of s front))
