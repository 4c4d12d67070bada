-- Two lists merged into one, as a walk along both makes it: `first x y` says that x goes before y,
-- and no order is assumed of the lists. Of rising lists it is the sorted list (`Laws`). Assumes
-- nothing.
use mathlib.Core.List.{List, [], ◌∷◌}
use Rattle.std.specs.Prelude.{Bool}
use Rattle.merge.specs.Sorting.{choose}

module _ {A : Type 0} where
  -- x, and after it what is left, among the second list
  unfoldable pub into : (A → A → Bool) → A → (List A → List A) → List A → List A
  into first x rest [] = x ∷ rest []
  into first x rest (y ∷ ys) = choose (first x y) (x ∷ rest (y ∷ ys)) (y ∷ into first x rest ys)

  unfoldable pub merged : (A → A → Bool) → List A → List A → List A
  unfolding into
  merged first [] ys = ys
  merged first (x ∷ xs) ys = into first x (merged first xs) ys
