-- The textbook action of a 2-by-2 gate on qubit q, each operation rounded once, with the pruning
-- rule, and the whole gate call (SPECIFICATION 3). What the clause of `perform_u4` cites. Assumes
-- nothing.
use Rattle.statevector.specs.declared.Refusal.{Refusal}
use Rattle.std.specs.Prelude.{ℕ, ◌+◌, List, [], ◌∷◌, ◌++◌, map, Bool, true, false, not, cond, ◌&&◌, ltb, length, Err, None, Ok, Option, Result, Some}
use Rattle.std.proofs.lemmas.List.Edits.{sets}
use Rattle.amplitudes.specs.declared.Accumulated.{Accumulated}
use Rattle.amplitudes.specs.declared.Complex.{Complex}
use Rattle.amplitudes.specs.declared.U4.{U4}
use Rattle.amplitudes.specs.Amplitudes.{times, finite_c, finite_gate}
use Rattle.amplitudes.specs.Pairs.{accumulated, is_kept}
use Rattle.keys.specs.Keys.{toggle}
use Rattle.merge.specs.Addresses.{addresses}
use Rattle.merge.specs.Records.{Entry, capacity, at, encode, flat}
use Rattle.merge.specs.Sorting.{parted_words}
use Rattle.gates.specs.declared.Gated.{Gated}
use Rattle.statevector.specs.declared.Refusal.TheVariants as no
use Rattle.statevector.specs.declared.Side.{Side}
use Rattle.statevector.specs.declared.State.{State}
use Rattle.statevector.specs.Endings.{FrontEnding, Ending, by_front}
use Rattle.statevector.specs.Refusals.{Test, first, if_fine}
use Rattle.statevector.specs.States.{front_of, back_of, other_side, entries_of, records_of, tag_is, with_parts}
use Rattle.statevector.specs.Tests.{state_tests, all, qubit_tests}
use Rattle.statevector.specs.Answers.{Response, accepts, refuses, by_table}

-- ---- the new amplitudes at two keys that differ only in bit q

-- a new amplitude: nothing, a product that always stands, or a sum with its verdict
pub data New : Type 0 where
  nothing : New
  product : Complex → New
  sum : Accumulated → New

-- x at the key with the bit clear and y at its partner give s0·x + f1·y at the clear key (b false)
-- and f0·x + s1·y at the set one (b true), the x product being the first operand of the sum and of
-- its verdict. An absent x or y leaves the one product
abbrev pub new_at : U4 → Bool → Option Complex → Option Complex → New
new_at g b None None = nothing
new_at g false (Some x) None = product (times g.s0 x)
new_at g true (Some x) None = product (times g.f0 x)
new_at g false None (Some y) = product (times g.f1 y)
new_at g true None (Some y) = product (times g.s1 y)
new_at g false (Some x) (Some y) = sum (accumulated (times g.s0 x) (times g.f1 y))
new_at g true (Some x) (Some y) = sum (accumulated (times g.f0 x) (times g.s1 y))

-- what is left of it in the result: a sum only where its verdict keeps it
abbrev pub pruned : New → Option Complex
pruned nothing = None
pruned (product a) = Some a
pruned (sum a) = cond (is_kept a.verdict) (Some a.sum) None

-- every part that was computed is finite, dropped sums included
abbrev pub finite_new : New → Bool
finite_new nothing = true
finite_new (product a) = finite_c a
finite_new (sum a) = finite_c a.sum

-- ---- the new parts

-- at address k, before the gate
unfoldable pub new_for : ℕ → U4 → Bool → List Entry → List ℕ → New
unfolding at toggle accumulated times
new_for q g b es k = new_at g b (at k es) (at (toggle q k) es)

abbrev pub key_for : ℕ → Bool → List ℕ → List ℕ
key_for q false k = k
key_for q true k = toggle q k

abbrev pub entered : List ℕ → Option Complex → List Entry → List Entry
entered k None r = r
entered k (Some a) r = record { key = k; amp = a } ∷ r

-- the entries of the new part b, address by address
unfoldable pub new_part : ℕ → U4 → Bool → List Entry → List (List ℕ) → List Entry
unfolding new_for toggle
new_part q g b es [] = []
new_part q g b es (k ∷ ks) = entered (key_for q b k) (pruned (new_for q g b es k)) (new_part q g b es ks)

-- the addresses: the rising keys with bit q clear of which it or its partner has an entry
abbrev pub addresses_in : ℕ → List Entry → List (List ℕ)
addresses_in q es = addresses q (map (λ (e : Entry). e.key) es)

unfoldable pub gate_part : ℕ → U4 → Bool → List Entry → List Entry
unfolding new_part addresses
gate_part q g b es = new_part q g b es (addresses_in q es)

unfoldable pub gate_finite : ℕ → U4 → List Entry → Bool
unfolding new_for addresses
gate_finite q g es = all (λ (k : List ℕ). finite_new (new_for q g false es k) && finite_new (new_for q g true es k)) (addresses_in q es)

-- ---- the call

-- the words of the results, part 0 and then part 1
unfoldable pub gate_words : ℕ → U4 → List Entry → List ℕ
unfolding gate_part flat encode
gate_words q g es = flat (map encode (gate_part q g false es)) ++ flat (map encode (gate_part q g true es))

-- 8, then 9 for the store that the results go to
unfoldable pub result_tests : ℕ → ℕ → U4 → List Entry → List ℕ → List Test
unfolding gate_finite gate_part capacity
result_tests n q g es target =
    (not (gate_finite q g es), no.Overflow) ∷ (ltb (capacity n target) (length (gate_part q g false es) + length (gate_part q g true es)), no.Full) ∷ []

-- the whole table: with tag q these are for the back store; else 9 for the repartition stands
-- before them, and they are for the front store
abbrev pub late_tests : State → ℕ → U4 → List ℕ → List ℕ → List Test
late_tests s q g front back =
    cond (tag_is s.tag q) (result_tests s.width q g (entries_of s front) back)
    ((ltb (capacity s.width back) (s.n0 + s.n1), no.Full) ∷ result_tests s.width q g (entries_of s front) front)

abbrev pub gate_tests : State → ℕ → U4 → List ℕ → List ℕ → List Test
gate_tests s q g front back = qubit_tests s front q (finite_gate g) (late_tests s q g front back)

unfoldable pub gated : State → Side → ℕ → U4 → List Entry → Gated
unfolding gate_part
gated s mark q g es = record { state = with_parts s mark (length (gate_part q g false es)) (length (gate_part q g true es)) (Some q) }

-- a gate repartitions first if its state passes the tests, has another tag or none, and its records
-- fit the back store
unfoldable pub repartitions : State → ℕ → U4 → List ℕ → List ℕ → Bool
unfolding state_tests first capacity
repartitions s q g front back =
    if_fine (first (qubit_tests s front q (finite_gate g) [])) true (λ r. false)
    && (not (tag_is s.tag q) && not (ltb (capacity s.width back) (s.n0 + s.n1)))

-- the back store after that: the repartitioned records stand at its start
abbrev pub repartitioned_back : State → ℕ → U4 → List ℕ → List ℕ → List ℕ
repartitioned_back s q g front back =
    cond (repartitions s q g front back) (sets back 0 (parted_words s.width q (records_of s front))) back

-- by front and back store. With tag q the results go to the back store, which becomes front; else
-- over the old front store, which is front again. A refused gate leaves the words as they were, but
-- for the repartitioned records
unfoldable pub gate_by_front : State → ℕ → U4 → List ℕ → List ℕ → FrontEnding (Result Gated Refusal)
unfolding state_tests first result_tests repartitions gated gate_words parted_words capacity
gate_by_front s q g front back =
    let es = entries_of s front in
    let results = gate_words q g es in
    let back' = repartitioned_back s q g front back in
    if_fine (first (gate_tests s q g front back))
    (cond (tag_is s.tag q)
    (record { answer = Ok (gated s (other_side s.front) q g es); front = front; back = sets back 0 results })
    (record { answer = Ok (gated s s.front q g es); front = sets front 0 results; back = back' }))
    (λ r. record { answer = Err r; front = front; back = back' })

unfoldable pub gate_call : State → ℕ → U4 → List ℕ → List ℕ → Ending (Result Gated Refusal)
unfolding gate_by_front
gate_call s q g left right = by_front s.front (gate_by_front s q g (front_of s.front left right) (back_of s.front left right))

-- ---- its number and values, by its table

abbrev pub performed-response : Result Gated Refusal → Response State
performed-response (Ok d) = accepts d.state
performed-response (Err r) = refuses r

abbrev pub gate_response : State → ℕ → U4 → List ℕ → List ℕ → Response State
gate_response s q g left right =
    let front = front_of s.front left right in
    let mark = cond (tag_is s.tag q) (other_side s.front) s.front in
    by_table (gate_tests s q g front (back_of s.front left right)) (gated s mark q g (entries_of s front)).state
