-- A state over two lent stores: which of them is front, and its two parts there (SPECIFICATION 1.4,
-- 1.5). What the clauses of src/, and of the crates above, cite. Assumes nothing.
use Rattle.std.specs.Prelude.{ℕ, ◌+◌, List, ◌++◌, Bool, true, false, eqb, length, ◌≡◌, None, Option, Some}
use Rattle.merge.specs.Records.{Entry, part, entries}
use Rattle.statevector.specs.declared.Side.{Side}
use Rattle.statevector.specs.declared.Side.TheVariants.{Left, Right}
use Rattle.statevector.specs.declared.State.{State}

-- the front store and the back store, of the left and the right one
abbrev pub front_of : {A : Type 0} → Side → A → A → A
front_of Left l r = l
front_of Right l r = r

abbrev pub back_of : {A : Type 0} → Side → A → A → A
back_of Left l r = r
back_of Right l r = l

abbrev pub other_side : Side → Side
other_side Left = Right
other_side Right = Left

-- part 0 is the first n0 front records, part 1 the next n1
abbrev pub part_of : Bool → State → List ℕ → List (List ℕ)
part_of false s front = part s.width front 0 s.n0
part_of true s front = part s.width front s.n0 (s.n0 + s.n1)

abbrev pub records_of : State → List ℕ → List (List ℕ)
records_of s front = part_of false s front ++ part_of true s front

-- the entries, part 0 before part 1
abbrev pub entries_of : State → List ℕ → List Entry
entries_of s front = entries s.width (records_of s front)

-- the tag is q
abbrev pub tag_is : Option ℕ → ℕ → Bool
tag_is None q = false
tag_is (Some p) q = eqb p q

-- the state with another front mark, sizes and tag
abbrev pub with_parts : State → Side → ℕ → ℕ → Option ℕ → State
with_parts s front n0 n1 tag = record { width = s.width; front = front; n0 = n0; n1 = n1; tag = tag }

-- two stores have the lengths that they had
abbrev pub SameLengths : List ℕ → List ℕ → List ℕ → List ℕ → Type 0
SameLengths left right left' right' = (length left' ≡ length left) × (length right' ≡ length right)
