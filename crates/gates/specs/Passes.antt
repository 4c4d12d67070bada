-- What the gate's passes make of pairs of records: the textbook's new amplitudes, the records that
-- their keys come from, and the two new parts pair by pair. `Laws` has that these are the
-- textbook's parts. What the clauses of inner functions cite. Assumes nothing.
use Rattle.statevector.specs.declared.Refusal.{Refusal}
use Rattle.gates.specs.declared.Gated.{Gated}
use Rattle.std.specs.Prelude.{is_some, IfSome, ◌≡◌, ℕ, ◌+◌, ◌*◌, ◌/◌, ◌≤◌, ◌<◌, List, [], ◌∷◌, ◌++◌, map, Bool, true, false, not, cond, ◌&&◌, ◌||◌, length, ltb, Err, None, Ok, Option, Result, Some}
use Rattle.std.proofs.lemmas.List.Edits.{sets}
use Rattle.amplitudes.specs.declared.Accumulated.{Accumulated}
use Rattle.amplitudes.specs.declared.Combined.{Combined}
use Rattle.amplitudes.specs.declared.Complex.{Complex}
use Rattle.amplitudes.specs.declared.U4.{U4}
use Rattle.amplitudes.specs.Amplitudes.{times, finite_c, finite_gate}
use Rattle.amplitudes.specs.Moderate.{moderate_gate}
use Rattle.amplitudes.specs.Pairs.{accumulated, is_kept}
use Rattle.keys.specs.Lists.{All}
use Rattle.merge.specs.declared.MergeEq.{MergeEq}
use Rattle.merge.specs.declared.MergeEq.TheVariants.{Lhs, Rhs, Both, End}
use Rattle.merge.specs.declared.pairs.Pairs.{Pairs}
use Rattle.merge.specs.Pairs.{Pair, lhs, rhs, both, pairs, unpaired_count}
use Rattle.merge.specs.Laws.{in_pair, amplitude_in}
use Rattle.merge.specs.Records.{Entry, record_bit, new_key, amplitude_of, finite_record, moderate_record, encode, entries, flat, capacity, at, records}
use Rattle.merge.specs.Sorting.{Rising, sort_key, parted_words}
use Rattle.merge.specs.Walks.{InPair, pairs_left}
use Rattle.gates.specs.declared.KeptCounts.{KeptCounts}
use Rattle.gates.specs.declared.Offsets.{Offsets}
use Rattle.gates.specs.declared.Sizes.{Sizes}
use Rattle.statevector.specs.declared.Side.{Side}
use Rattle.statevector.specs.declared.State.{State}
use Rattle.statevector.specs.Scans.{sound_part}
use Rattle.statevector.specs.States.{part_of, other_side, entries_of, records_of, tag_is}
use Rattle.gates.specs.Gate.{New, new_at, pruned, finite_new, entered, gated, gate_words, result_tests}
use Rattle.statevector.specs.declared.Refusal.TheVariants as no
use Rattle.statevector.specs.Endings.{FrontEnding}
use Rattle.statevector.specs.Refusals.{first, if_fine, Tested}
use Rattle.statevector.specs.Tests.{state_tests, qubit_tests}

-- ---- one pair

-- the amplitude that the pair merge tells of on one side, if any
abbrev pub in_eq : Bool → MergeEq → Option Complex
in_eq false (Lhs x) = Some x
in_eq false (Rhs y) = None
in_eq false (Both x y) = Some x
in_eq false End = None
in_eq true (Lhs x) = None
in_eq true (Rhs y) = Some y
in_eq true (Both x y) = Some y
in_eq true End = None

-- every new part of it is finite
unfoldable pub finite_of : U4 → MergeEq → Bool
unfolding accumulated times
finite_of g m = finite_new (new_at g false (in_eq false m) (in_eq true m)) && finite_new (new_at g true (in_eq false m) (in_eq true m))

-- the product on side b of an entry without a partner, that both are finite, and its record. `set`:
-- whether the bit is set in the entry's own key
abbrev pub unpaired_at : U4 → Bool → Bool → Complex → Complex
unpaired_at g false false a = times g.s0 a
unpaired_at g false true a = times g.f0 a
unpaired_at g true false a = times g.f1 a
unpaired_at g true true a = times g.s1 a

abbrev pub FiniteUnpaired : U4 → Bool → Complex → Type 0
FiniteUnpaired g set a = (finite_c (unpaired_at g set false a) ≡ true) × (finite_c (unpaired_at g set true a) ≡ true)

abbrev pub flipped_if : Bool → Bool → Bool
flipped_if set b = cond b (not set) set

abbrev pub unpaired_record : ℕ → ℕ → U4 → Bool → Bool → List ℕ → List ℕ
unpaired_record n q g set b r = encode (record { key = new_key n q (flipped_if set b) r; amp = unpaired_at g set b (amplitude_of n r) })

-- the record of a sum under the key of one of its entries, put into a store where it is kept; and
-- the word that comes next
abbrev pub sum_record : ℕ → ℕ → List ℕ → Accumulated → List ℕ
sum_record n q r a = encode (record { key = new_key n q false r; amp = a.sum })

abbrev pub put_sum : Bool → List ℕ → ℕ → List ℕ → List ℕ
put_sum kept ws at r = cond kept (sets ws at r) ws

abbrev pub next_offset : ℕ → Bool → ℕ → ℕ
next_offset n kept o = cond kept (o + (n + 2)) o

-- a turn of the writing pass: the products of an entry without a partner, or the kept sums of the
-- records x and y, put at the offsets of the two parts; and the offsets of what comes next, by
-- which of the two was put
abbrev pub put_products : ℕ → ℕ → U4 → Bool → Offsets → List ℕ → List ℕ → List ℕ
put_products n q g set o r ws = sets (sets ws o.o0 (unpaired_record n q g set false r)) (o.at + o.o1) (unpaired_record n q g set true r)

abbrev pub put_sums : ℕ → ℕ → Combined → Offsets → List ℕ → List ℕ → List ℕ → List ℕ
put_sums n q p o x y ws = put_sum (is_kept p.flip.verdict) (put_sum (is_kept p.stay.verdict) ws o.o0 (sum_record n q x p.stay)) (o.at + o.o1) (sum_record n q y p.flip)

abbrev pub next_offsets : ℕ → Bool → Bool → Offsets → Offsets
next_offsets n put0 put1 o = record { at = o.at; o0 = next_offset n put0 o.o0; o1 = next_offset n put1 o.o1 }

-- how many of a pair's two sums are kept
abbrev pub kept_counts : Combined → KeptCounts
kept_counts p = record { n0 = cond (is_kept p.stay.verdict) 1 0; n1 = cond (is_kept p.flip.verdict) 1 0 }

-- ---- all pairs

-- two parts are sound
abbrev pub sound_parts : ℕ → ℕ → List (List ℕ) → List (List ℕ) → Bool
sound_parts n q xs ys = sound_part n (Some q) false xs && sound_part n (Some q) true ys

-- the textbook's new amplitude of a pair of records on side b, and its key
unfoldable pub new_in : ℕ → U4 → Bool → Pair → New
unfolding amplitude_of accumulated times
new_in n g b p = new_at g b (amplitude_in n (in_pair false p)) (amplitude_in n (in_pair true p))

abbrev pub new_key_in : ℕ → ℕ → Bool → Pair → List ℕ
new_key_in n q false (lhs x) = new_key n q false x
new_key_in n q false (rhs y) = new_key n q true y
new_key_in n q false (both x y) = new_key n q false x
new_key_in n q true (lhs x) = new_key n q true x
new_key_in n q true (rhs y) = new_key n q false y
new_key_in n q true (both x y) = new_key n q false y

-- the entries of the new part b, pair by pair; and whether every part that was computed is finite
unfoldable pub pair_part : ℕ → ℕ → U4 → Bool → List Pair → List Entry
unfolding new_in
pair_part n q g b [] = []
pair_part n q g b (p ∷ ps) = entered (new_key_in n q b p) (pruned (new_in n g b p)) (pair_part n q g b ps)

unfoldable pub pairs_finite : ℕ → U4 → List Pair → Bool
unfolding new_in
pairs_finite n g [] = true
pairs_finite n g (p ∷ ps) = (finite_new (new_in n g false p) && finite_new (new_in n g true p)) && pairs_finite n g ps

-- the records that are left of part b, and that all that are left are finite
abbrev pub part_left : Bool → Pairs → List (List ℕ)
part_left b p = cond b (records p.n p.rhs.now) (records p.n p.lhs.now)

abbrev pub FinitePairs : Pairs → Type 0
FinitePairs p = All (InPair (λ r. finite_record p.n r ≡ true)) (pairs_left p)

-- what the counting pass finds: the sizes of the new parts, and whether every record has a partner
pub record SizesCounted (n q : ℕ) (g : U4) (ps : List Pair) (c : Sizes) : Type 0 where
  pub clear : c.n0 ≡ length (pair_part n q g false ps)
  pub set : c.n1 ≡ length (pair_part n q g true ps)
  pub partners : c.paired ≡ true → unpaired_count ps ≡ 0

-- what it answers of two parts: that they are fine where they were tested or are sound, and then
-- their sizes
pub record CountedAs (n q : ℕ) (g : U4) (tested : Bool) (xs ys : List (List ℕ)) (c : Option Sizes) : Type 0 where
  pub sound : is_some c ≡ (tested || sound_parts n q xs ys)
  pub sizes : IfSome c (SizesCounted n q g (pairs n q xs ys))

-- the parts of a state and a gate are of moderate size
pub record AllModerate (s : State) (front : List ℕ) (g : U4) : Type 0 where
  pub gate : moderate_gate g ≡ true
  pub records : (b : Bool) → All (λ r. moderate_record s.width r ≡ true) (part_of b s front)

-- the records of the new part b, and the words of both
unfoldable pub part_records : ℕ → ℕ → U4 → Bool → List Pair → List (List ℕ)
unfolding pair_part encode
part_records n q g b ps = map encode (pair_part n q g b ps)

unfoldable pub pair_words : ℕ → ℕ → U4 → List Pair → List ℕ
unfolding part_records flat
pair_words n q g ps = flat (part_records n q g false ps) ++ flat (part_records n q g true ps)

-- what the writing pass goes by: all is finite, part 1 begins at record n0, and there is room
pub record Fitting (n q : ℕ) (g : U4) (ps : List Pair) (n0 : ℕ) (back : List ℕ) : Type 0 where
  pub finite : pairs_finite n g ps ≡ true
  pub clear : n0 ≡ length (pair_part n q g false ps)
  pub room : (n0 + length (pair_part n q g true ps)) * (n + 2) ≤ length back

-- ---- the results in the store that they go to

-- two parts by a qubit of the keys: each rises, is on its side and is finite
pub record Parted (n q : ℕ) (xs ys : List (List ℕ)) : Type 0 where
  pub inside : q / 64 < n
  pub rise : (b : Bool) → Rising (sort_key n None) (cond b ys xs)
  pub sides : (b : Bool) → All (λ r. record_bit n q r ≡ b) (cond b ys xs)
  pub finites : (b : Bool) → All (λ r. finite_record n r ≡ true) (cond b ys xs)

-- the answer, and the store after it
pub record Into : Type 0 where
  pub answer : Result Gated Refusal
  pub store : List ℕ

abbrev pub written_into : Tested → State → Side → ℕ → U4 → List Entry → List ℕ → Into
written_into t s mark q g es dst =
    if_fine t
    (record { answer = Ok (gated s mark q g es); store = sets dst 0 (gate_words q g es) })
    (λ r. record { answer = Err r; store = dst })

-- of the pairs of two parts
abbrev pub result_into : State → Side → U4 → Pairs → List ℕ → Into
result_into s mark g p dst =
    let es = entries p.n (part_left false p ++ part_left true p) in
    written_into (first (result_tests p.n p.q g es dst)) s mark p.q g es dst

-- ---- the call, step by step

-- with tag q the results go to the back store, which becomes front
abbrev pub over_back : Tested → State → ℕ → U4 → List Entry → List ℕ → List ℕ → FrontEnding (Result Gated Refusal)
over_back t s q g es front back =
    if_fine t
    (record { answer = Ok (gated s (other_side s.front) q g es); front = front; back = sets back 0 (gate_words q g es) })
    (λ r. record { answer = Err r; front = front; back = back })

-- else the repartitioned records go to the back store first, and the results over the old front,
-- which is front again
abbrev pub over_front : Tested → State → ℕ → U4 → List Entry → List ℕ → List ℕ → FrontEnding (Result Gated Refusal)
over_front t s q g es front moved =
    if_fine t
    (record { answer = Ok (gated s s.front q g es); front = sets front 0 (gate_words q g es); back = moved })
    (λ r. record { answer = Err r; front = front; back = moved })

abbrev pub after_repartition : Bool → State → ℕ → U4 → List Entry → List ℕ → List ℕ → List ℕ → FrontEnding (Result Gated Refusal)
after_repartition true s q g es front back moved = record { answer = Err no.Full; front = front; back = back }
after_repartition false s q g es front back moved = over_front (first (result_tests s.width q g es front)) s q g es front moved

abbrev pub by_tag : Bool → State → ℕ → U4 → List Entry → List ℕ → List ℕ → List ℕ → FrontEnding (Result Gated Refusal)
by_tag true s q g es front back moved = over_back (first (result_tests s.width q g es back)) s q g es front back
by_tag false s q g es front back moved = after_repartition (ltb (capacity s.width back) (s.n0 + s.n1)) s q g es front back moved

unfoldable pub staged_gate : State → ℕ → U4 → List ℕ → List ℕ → FrontEnding (Result Gated Refusal)
unfolding state_tests first result_tests gated gate_words parted_words capacity
staged_gate s q g front back =
    if_fine (first (qubit_tests s front q (finite_gate g) []))
    (by_tag (tag_is s.tag q) s q g (entries_of s front) front back (sets back 0 (parted_words s.width q (records_of s front))))
    (λ r. record { answer = Err r; front = front; back = back })
