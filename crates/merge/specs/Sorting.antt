-- Lists in the order of their elements' keys: what rising means, sorting, and a list split by a
-- test. `key` says what an element is ordered by: a record by its key, or by its key with a bit
-- left out. What the clauses of src/ cite. Assumes nothing.
use Rattle.std.specs.declared.cmp.Ordering.{Ordering}
use Rattle.std.specs.declared.cmp.Ordering.TheVariants.{Less, Equal, Greater}
use Rattle.std.specs.Prelude.{◌≡◌, ℕ, Bool, true, false, None, Option}
use mathlib.Core.List.{List, [], ◌∷◌, ◌++◌}
use Rattle.std.specs.Bool.{beq}
use Rattle.keys.specs.Keys.{order, without}
use Rattle.keys.specs.Lists.{All}
use Rattle.merge.specs.Records.{key_of, record_bit, flat}

abbrev pub not_greater : Ordering → Bool
not_greater Less = true
not_greater Equal = true
not_greater Greater = false

module _ {A : Type 0} where
  -- every element is below every later one
  abbrev pub Rising : (A → List ℕ) → List A → Type 0
  Rising key [] = Unit
  Rising key (x ∷ xs) = All (λ y. order (key x) (key y) ≡ Less) xs × Rising key xs

  -- no key of the first list is in the second
  abbrev pub Apart : (A → List ℕ) → List A → List A → Type 0
  Apart key xs ys = All (λ y. All (λ x. key x ≡ key y → ⊥) xs) ys

  -- x goes before y: its key is not above y's
  abbrev pub before : (A → List ℕ) → A → A → Bool
  before key x y = not_greater (order (key x) (key y))

  abbrev pub choose : Bool → List A → List A → List A
  choose true a b = a
  choose false a b = b

  -- x put into a list by its key, and a list sorted so
  unfoldable pub insert : (A → List ℕ) → A → List A → List A
  unfolding order
  insert key x [] = x ∷ []
  insert key x (y ∷ ys) = choose (before key x y) (x ∷ y ∷ ys) (y ∷ insert key x ys)

  unfoldable pub sorted : (A → List ℕ) → List A → List A
  unfolding insert
  sorted key [] = []
  sorted key (x ∷ xs) = insert key x (sorted key xs)

  -- those that pass a test, in their order
  unfoldable pub only : (A → Bool) → List A → List A
  only t [] = []
  only t (x ∷ xs) = choose (t x) (x ∷ only t xs) (only t xs)

-- what records are ordered by: their keys, without the left-out bit
abbrev pub sort_key : ℕ → Option ℕ → List ℕ → List ℕ
sort_key n o r = without o (key_of n r)

-- the records whose bit q is b
unfoldable pub side : ℕ → ℕ → Bool → List (List ℕ) → List (List ℕ)
unfolding only
side n q b rs = only (λ (r : List ℕ). beq (record_bit n q r) b) rs

-- a repartition by qubit q: the records in the order of their keys, bit clear to part 0, bit set to
-- part 1; and its words
unfoldable pub repartitioned : ℕ → ℕ → Bool → List (List ℕ) → List (List ℕ)
unfolding side sorted
repartitioned n q b rs = side n q b (sorted (sort_key n None) rs)

unfoldable pub parted_words : ℕ → ℕ → List (List ℕ) → List ℕ
unfolding repartitioned flat
parted_words n q rs = flat (repartitioned n q false rs) ++ flat (repartitioned n q true rs)
