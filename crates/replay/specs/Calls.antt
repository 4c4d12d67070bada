-- Whether what an item's call leaves is what the item says. What the clauses of src/ cite. Assumes
-- nothing.
use Rattle.std.specs.Prelude.{◌≡◌, ℕ, ◌+◌, List, Bool, ◌&&◌, eqb, length, get_or}
use Rattle.keys.specs.Keys.{key_at, same}
use Rattle.numbered.specs.Numbered.{AfterCall, call_at}

-- the words of part stand in ws from word `at` on
abbrev pub stands_at : List ℕ → ℕ → List ℕ → Bool
stands_at ws at part = same (key_at (length part) ws at) part

-- what a call leaves is this answer and these words: the state's, the left, the right and the third
-- store's and the results', one after the other
abbrev pub leaves : AfterCall → List ℕ → ℕ → Bool
leaves o ws answer =
    ((stands_at ws 0 o.state && stands_at ws (length o.state) o.left)
    && (stands_at ws (length o.state + length o.left) o.right
    && stands_at ws (length o.state + length o.left + length o.right) o.third))
    && (stands_at ws (length o.state + length o.left + length o.right + length o.third) o.out && eqb o.answer answer)

-- the header names the call by its words 0 to 3, and its word 11 is the answer
unfoldable pub item_holds : List ℕ → List ℕ → List ℕ → List ℕ → List ℕ → List ℕ → List ℕ → List ℕ → List ℕ → Bool
item_holds h state arg arg2 left right third out after =
    leaves (call_at (get_or h 0 0) state (record { a = get_or h 1 0; b = get_or h 2 0; c = get_or h 3 0 }) arg arg2 left right third out) after (get_or h 11 0)

-- words 4 to 10 of a header are these lengths
abbrev pub Lengths : List ℕ → ℕ → ℕ → ℕ → ℕ → ℕ → ℕ → ℕ → Type 0
Lengths h s a b l r t o = (s ≡ get_or h 4 0) × (a ≡ get_or h 5 0) × (b ≡ get_or h 6 0) × (l ≡ get_or h 7 0) × (r ≡ get_or h 8 0) × (t ≡ get_or h 9 0) × (o ≡ get_or h 10 0)
