-- The textbook's view of a gate on qubit q: the rising list of the keys with bit q clear of which
-- it or its partner has an entry. What the clauses of the crate above cite. Assumes nothing.
use Rattle.std.specs.declared.cmp.Ordering.{Ordering}
use Rattle.std.specs.declared.cmp.Ordering.TheVariants.{Less, Equal, Greater}
use Rattle.std.specs.Prelude.{ℕ, List, [], ◌∷◌}
use Rattle.keys.specs.Keys.{order, clear}

abbrev pub placed : Ordering → List ℕ → List ℕ → List (List ℕ) → List (List ℕ) → List (List ℕ)
placed Less k a l r = k ∷ a ∷ l
placed Equal k a l r = a ∷ l
placed Greater k a l r = a ∷ r

-- a key entered into a rising list, where it is not there yet
unfoldable pub enter : List ℕ → List (List ℕ) → List (List ℕ)
unfolding order
enter k [] = k ∷ []
enter k (a ∷ l) = placed (order k a) k a l (enter k l)

-- the keys, each with bit q clear, rising and each once
unfoldable pub addresses : ℕ → List (List ℕ) → List (List ℕ)
unfolding enter clear
addresses q [] = []
addresses q (k ∷ ks) = enter (clear q k) (addresses q ks)
