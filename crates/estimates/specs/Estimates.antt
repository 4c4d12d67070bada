-- Estimates: by how much a gate changes the length (SPECIFICATION 5.2, 5.3). What the clauses of
-- `collapse_delta` and `forecast` cite. Assumes nothing.
use Rattle.statevector.specs.declared.Refusal.{Refusal}
use Rattle.std.specs.Prelude.{ℕ, zero, suc, ◌+◌, ◌/◌, ◌%◌, List, [], ◌∷◌, Bool, true, not, ◌&&◌, ℤ, pos, negsuc, neg_ℤ, ◌+ℤ◌, length, Err, None, Ok, Option, Result, Some}
use Rattle.amplitudes.specs.declared.Complex.{Complex}
use Rattle.amplitudes.specs.declared.Combined.{Combined}
use Rattle.amplitudes.specs.declared.U4.{U4}
use Rattle.amplitudes.specs.declared.Verdict.{Verdict}
use Rattle.amplitudes.specs.declared.Verdict.TheVariants.{Kept, Dropped}
use Rattle.amplitudes.specs.Amplitudes.{finite_c, finite_gate}
use Rattle.amplitudes.specs.Pairs.{combined}
use Rattle.keys.specs.Keys.{bit_at, toggle}
use Rattle.merge.specs.Records.{Entry, at}
use Rattle.statevector.specs.declared.Refusal.TheVariants as no
use Rattle.statevector.specs.declared.State.{State}
use Rattle.statevector.specs.Refusals.{Test, first, if_fine, Tested}
use Rattle.statevector.specs.States.{front_of, entries_of}
use Rattle.statevector.specs.Tests.{state_tests, all, qubit_tests}
use Rattle.statevector.specs.Answers.{Response, accepts, refuses, by_table}

abbrev pub dropped : Verdict → ℕ
dropped Kept = 0
dropped Dropped = 1

-- an entry's pair, where its partner has an entry: the entry's products are the first operands
unfoldable pub pair_at : ℕ → U4 → List Entry → Entry → Option Combined
unfolding combined at bit_at toggle
pair_at q g es e = paired (at (toggle q e.key) es)
  where
    paired : Option Complex → Option Combined
    paired None = None
    paired (Some b) = Some (combined g (bit_at q e.key) e.amp b)

-- without a partner 2, else minus the number of dropped sums
abbrev pub delta_of : Option Combined → ℤ
delta_of None = pos 2
delta_of (Some p) = neg_ℤ (pos (dropped p.stay.verdict + dropped p.flip.verdict))

-- both sums that an estimate computes are finite; without a partner it computes none
abbrev pub finite_sums : Option Combined → Bool
finite_sums None = true
finite_sums (Some p) = finite_c p.stay.sum && finite_c p.flip.sum

-- the entry at an index
abbrev pub entry_at : ℕ → List Entry → Option Entry
entry_at i [] = None
entry_at zero (e ∷ es) = Some e
entry_at (suc i) (e ∷ es) = entry_at i es

abbrev pub pair_of_entry : ℕ → U4 → List Entry → Option Entry → Option Combined
pair_of_entry q g es None = None
pair_of_entry q g es (Some e) = pair_at q g es e

-- of an empty state 0
abbrev pub delta_for : Option Entry → Option Combined → ℤ
delta_for None p = pos 0
delta_for (Some e) p = delta_of p

-- the tests of both, 8 for the sums that they compute
unfoldable pub estimate_tests : State → List ℕ → ℕ → U4 → Bool → List Test
unfolding state_tests
estimate_tests s front q g areFinite = qubit_tests s front q (finite_gate g) ((not areFinite, no.Overflow) ∷ [])

abbrev pub by_tests : Tested → ℤ → Result ℤ Refusal
by_tests t d = if_fine t (Ok d) (λ r. Err r)

-- the entry that index i stands for: i mod n, part 0 before part 1
abbrev pub chosen : ℕ → List Entry → Option Entry
chosen i [] = None
chosen i (e ∷ es) = entry_at (i % length (e ∷ es)) (e ∷ es)

-- over the front store, and by the front mark
unfoldable pub collapse_in : State → ℕ → U4 → ℕ → List ℕ → Result ℤ Refusal
unfolding estimate_tests first pair_at
collapse_in s q g i front =
    let es = entries_of s front in
    let e = chosen i es in
    let p = pair_of_entry q g es e in by_tests (first (estimate_tests s front q g (finite_sums p))) (delta_for e p)

unfoldable pub collapse_call : State → ℕ → U4 → ℕ → List ℕ → List ℕ → Result ℤ Refusal
unfolding collapse_in
collapse_call s q g i left right = collapse_in s q g i (front_of s.front left right)

-- ---- the forecast: over all entries, halved toward zero

abbrev pub halved : ℤ → ℤ
halved (pos n) = pos (n / 2)
halved (negsuc n) = neg_ℤ (pos ((n + 1) / 2))

unfoldable pub deltas : ℕ → U4 → List Entry → List Entry → ℤ
unfolding pair_at
deltas q g es [] = pos 0
deltas q g es (e ∷ rest) = delta_of (pair_at q g es e) +ℤ deltas q g es rest

unfoldable pub forecast_in : State → ℕ → U4 → List ℕ → Result ℤ Refusal
unfolding estimate_tests first pair_at deltas
forecast_in s q g front =
    let es = entries_of s front in
    by_tests (first (estimate_tests s front q g (all (λ (e : Entry). finite_sums (pair_at q g es e)) es))) (halved (deltas q g es es))

unfoldable pub forecast_call : State → ℕ → U4 → List ℕ → List ℕ → Result ℤ Refusal
unfolding forecast_in
forecast_call s q g left right = forecast_in s q g (front_of s.front left right)

-- ---- its number and values, by its table

-- a change of length
abbrev pub change : Result ℤ Refusal → Response ℤ
change (Ok d) = accepts d
change (Err r) = refuses r

abbrev pub collapse_response : State → ℕ → U4 → ℕ → List ℕ → List ℕ → Response ℤ
collapse_response s q g i left right =
    let front = front_of s.front left right in
    let es = entries_of s front in
    let p = pair_of_entry q g es (chosen i es) in by_table (estimate_tests s front q g (finite_sums p)) (delta_for (chosen i es) p)

abbrev pub forecast_response : State → ℕ → U4 → List ℕ → List ℕ → Response ℤ
forecast_response s q g left right =
    let front = front_of s.front left right in
    let es = entries_of s front in by_table (estimate_tests s front q g (all (λ (e : Entry). finite_sums (pair_at q g es e)) es)) (halved (deltas q g es es))
