-- The walks along two parts, by pairs and by key: what an item says, and what is left. What the clauses of
-- src/ cite. Assumes nothing.
use Rattle.std.specs.Iterator.{YieldsFirstBy}
use Rattle.std.specs.Prelude.{◌≡◌, ℕ, ◌+◌, List, true, length, Option}
use Rattle.merge.specs.declared.pairs.Pair as declared
use Rattle.merge.specs.declared.pairs.Pair.TheVariants as item
use Rattle.merge.specs.declared.pairs.Pairs as walk
use Rattle.merge.specs.declared.merged.Merged.{Merged}
use Rattle.merge.specs.declared.record.Record.{Record}
use Rattle.merge.specs.declared.record.Records.{Records}
use Rattle.merge.specs.Merging.{merged}
use Rattle.merge.specs.Records.{records, finite_record}
use Rattle.merge.specs.Sorting.{before, sort_key}
use Rattle.merge.specs.Pairs.{Pair, lhs, rhs, both, pairs}

-- the records of an item
abbrev pub records_of : declared.Pair → Pair
records_of (item.Lhs x) = lhs x.words.now
records_of (item.Rhs y) = rhs y.words.now
records_of (item.Both x y) = both x.words.now y.words.now

-- their amplitudes are finite
abbrev pub Finite : declared.Pair → Type 0
Finite (item.Lhs x) = finite_record x.n x.words.now ≡ true
Finite (item.Rhs y) = finite_record y.n y.words.now ≡ true
Finite (item.Both x y) = (finite_record x.n x.words.now ≡ true) × (finite_record y.n y.words.now ≡ true)

-- the pairs that are left
abbrev pub pairs_left : walk.Pairs → List Pair
pairs_left p = pairs p.n p.q (records p.n p.lhs.now) (records p.n p.rhs.now)

-- `next` gives the first of the pairs that are left; the records keep their width, and the walk its
-- qubit
abbrev pub GivesPair : walk.Pairs → Option declared.Pair → walk.Pairs → Type 0
GivesPair s r t = YieldsFirstBy records_of pairs_left s r t × (t.n ≡ s.n) × (t.q ≡ s.q)

-- the words of a record; and the records that are left of a part, and of two in the order of their
-- keys
abbrev pub words_of : Record → List ℕ
words_of r = r.words.now

abbrev pub records_left : Records → List (List ℕ)
records_left p = records p.n p.words.now

abbrev pub merged_left : Merged → List (List ℕ)
merged_left m = merged (before (sort_key m.n m.left_out)) (records m.n m.lhs.now) (records m.n m.rhs.now)

-- P holds of the records of a pair
abbrev pub InPair : (List ℕ → Type 0) → Pair → Type 0
InPair P (lhs x) = P x
InPair P (rhs y) = P y
InPair P (both x y) = P x × P y

-- a record of n + 2 words, whose amplitude is finite
abbrev pub Whole : ℕ → List ℕ → Type 0
Whole n r = (length r ≡ n + 2) × (finite_record n r ≡ true)
