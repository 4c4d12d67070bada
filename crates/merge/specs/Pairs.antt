-- Entries that differ only in bit q: one side of such a pair or both. What the clauses of src/
-- cite. Assumes nothing.
use Rattle.std.specs.declared.cmp.Ordering.{Ordering}
use Rattle.std.specs.declared.cmp.Ordering.TheVariants.{Less, Equal, Greater}
use Rattle.std.specs.Prelude.{◌≡◌, ℕ, suc, ◌+◌, ◌≤◌, List, [], ◌∷◌, map, true, cond, length, None, Option, Some}
use Rattle.keys.specs.Keys.{order, same}
use Rattle.merge.specs.declared.MergeEq.{MergeEq}
use Rattle.merge.specs.declared.MergeEq.TheVariants.{Lhs, Rhs, Both, End}
use Rattle.merge.specs.declared.places.NextEq.{NextEq}
use Rattle.merge.specs.declared.places.NextEq.TheVariants as next
use Rattle.merge.specs.Records.{record_from, amplitude_of, finite_record, key_of}
use Rattle.merge.specs.Sorting.{sort_key}

-- what is next of two parts: a record of the first, one of the second, or one of each
pub data Pair : Type 0 where
  lhs : List ℕ → Pair
  rhs : List ℕ → Pair
  both : List ℕ → List ℕ → Pair

abbrev pub by_order : Ordering → List Pair → List Pair → List Pair → List Pair
by_order Less a b c = a
by_order Equal a b c = b
by_order Greater a b c = c

-- the records of two parts in the order of their keys with bit q left out: x, and after it what is
-- left, among the second part
unfoldable pub pairs_with : ℕ → ℕ → List ℕ → (List (List ℕ) → List Pair) → List (List ℕ) → List Pair
unfolding order
pairs_with n q x rest [] = lhs x ∷ rest []
pairs_with n q x rest (y ∷ ys) =
    by_order (order (sort_key n (Some q) x) (sort_key n (Some q) y)) (lhs x ∷ rest (y ∷ ys)) (both x y ∷ rest ys) (rhs y ∷ pairs_with n q x rest ys)

unfoldable pub pairs : ℕ → ℕ → List (List ℕ) → List (List ℕ) → List Pair
unfolding pairs_with
pairs n q [] ys = map rhs ys
pairs n q (x ∷ xs) ys = pairs_with n q x (pairs n q xs) ys

-- how many records have no partner
abbrev pub unpaired_count : List Pair → ℕ
unpaired_count [] = 0
unpaired_count (lhs x ∷ ps) = unpaired_count ps + 1
unpaired_count (rhs y ∷ ps) = unpaired_count ps + 1
unpaired_count (both x y ∷ ps) = unpaired_count ps

-- which of the two parts the next pair comes from
abbrev pub next_eq_of : List Pair → NextEq
next_eq_of [] = next.End
next_eq_of (lhs x ∷ ps) = next.Lhs
next_eq_of (rhs y ∷ ps) = next.Rhs
next_eq_of (both x y ∷ ps) = next.Both

-- what the pair merge answers: the amplitudes of one side or of both, or that nothing is left
unfoldable pub answer_of : ℕ → List Pair → MergeEq
unfolding amplitude_of
answer_of n [] = End
answer_of n (lhs x ∷ ps) = Lhs (amplitude_of n x)
answer_of n (rhs y ∷ ps) = Rhs (amplitude_of n y)
answer_of n (both x y ∷ ps) = Both (amplitude_of n x) (amplitude_of n y)

-- the records that are next, of those at words x and y, are in the store, and their amplitudes
-- finite
abbrev pub ReadableAt : ℕ → List ℕ → ℕ → Type 0
ReadableAt n ws at = (at + (n + 2) ≤ length ws) × (finite_record n (record_from n ws at) ≡ true)

abbrev pub Readable : ℕ → List ℕ → ℕ → ℕ → NextEq → Type 0
Readable n ws x y next.Lhs = ReadableAt n ws x
Readable n ws x y next.Rhs = ReadableAt n ws y
Readable n ws x y next.Both = ReadableAt n ws x × ReadableAt n ws y
Readable n ws x y next.End = Unit

-- where a key is among records that are counted from i on: at the first that has it, or nowhere
unfoldable pub position_of : ℕ → List ℕ → ℕ → List (List ℕ) → Option ℕ
unfolding same
position_of n k i [] = None
position_of n k i (r ∷ rs) = cond (same k (key_of n r)) (Some i) (position_of n k (suc i) rs)
