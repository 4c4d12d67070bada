-- Two rising parts walked side by side, to see whether a key is in both. For the proof of
-- `parts_meet`. Assumes nothing.
use Rattle.std.specs.declared.cmp.Ordering.TheVariants.{Less, Equal, Greater}
use Rattle.std.specs.Prelude.{None}
use mathlib.Core.Path.{◌≡◌, refl, sym, ap, ap₂, ◌∙◌, subst}
use Prim.Native.Nat.{ℕ}
use mathlib.Core.List.{List, [], ◌∷◌}
use mathlib.Core.Bool.{Bool, true, false, not, ◌&&◌}
use Rattle.keys.specs.Keys.{order, same}
use Rattle.keys.specs.Lists.{All}
use Rattle.merge.specs.Records.{key_of}
use Rattle.merge.specs.Laws.{order_trans, order-equal, greater-less, less-not-equal, below-not-same, not_same, same-is, all_map}
use Rattle.merge.specs.Sorting.{Rising, sort_key}
use Rattle.statevector.specs.Tests.{all, meets}
use Rattle.statevector.specs.Laws.{true-all, apart-meets}

module _ (n : ℕ) (x : List ℕ) (xs : List (List ℕ)) (y : List ℕ) (ys : List (List ℕ)) where
  abbrev differ : List ℕ → List ℕ → Bool
  differ a b = not (same (key_of n a) (key_of n b))

  -- x is below all of the second part
  meets-less : order (key_of n x) (key_of n y) ≡ Less → Rising (sort_key n None) (y ∷ ys) → meets n (x ∷ xs) (y ∷ ys) ≡ meets n xs (y ∷ ys)
  unfolding meets
  meets-less e h =
      ap (λ (t : Bool). not (t && all (λ (a : List ℕ). all (differ a) (y ∷ ys)) xs))
      (true-all (differ x) (y ∷ ys)
      (ap not (below-not-same (key_of n x) (key_of n y) e), all_map ys (λ z l. ap not (below-not-same (key_of n x) (key_of n z) (order_trans (key_of n x) (key_of n y) (key_of n z) e l))) h.0))

  without-y : (zs : List (List ℕ)) → All (λ z. differ z y ≡ true) zs → all (λ (a : List ℕ). all (differ a) (y ∷ ys)) zs ≡ all (λ (a : List ℕ). all (differ a) ys) zs
  without-y [] h = refl
  without-y (z ∷ zs) h = ap₂ ◌&&◌ (ap (λ (t : Bool). t && all (differ z) ys) h.0) (without-y zs h.1)

  above-y : (z : List ℕ) → order (key_of n y) (key_of n z) ≡ Less → differ z y ≡ true
  above-y z l = ap not (not_same (key_of n z) (key_of n y) (λ i. less-not-equal (key_of n y) (key_of n z) l (sym i)))

  -- y is below all of the first part
  meets-greater : order (key_of n x) (key_of n y) ≡ Greater → Rising (sort_key n None) (x ∷ xs) → meets n (x ∷ xs) (y ∷ ys) ≡ meets n (x ∷ xs) ys
  unfolding meets
  meets-greater e h =
      let l = greater-less (key_of n x) (key_of n y) e in
      ap not (without-y (x ∷ xs) (above-y x l, all_map xs (λ z m. above-y z (order_trans (key_of n y) (key_of n x) (key_of n z) l m)) h.0))

  -- x and y are one key
  meets-equal : order (key_of n x) (key_of n y) ≡ Equal → meets n (x ∷ xs) (y ∷ ys) ≡ true
  unfolding meets
  meets-equal e = rw (same-is (key_of n x) (key_of n y) (order-equal (key_of n x) (key_of n y) e))

-- what is left of two rising parts meets as much as is to be answered
pub record Walked (n : ℕ) (answer : Bool) (xs ys : List (List ℕ)) : Type 0 where
  pub first-rises : Rising (sort_key n None) xs
  pub second-rises : Rising (sort_key n None) ys
  pub left : meets n xs ys ≡ answer

module _ (n : ℕ) (answer : Bool) (zero one : List (List ℕ)) (w : Walked n answer zero one) where
  pub walk-first-end : zero ≡ [] → false ≡ answer
  unfolding meets
  walk-first-end e = sym (ap (λ (rs : List (List ℕ)). meets n rs one) e) ∙ w.left

  pub walk-second-end : one ≡ [] → false ≡ answer
  walk-second-end e = sym (apart-meets n zero [] tt) ∙ ap (meets n zero) (sym e) ∙ w.left

  module _ (x y : List ℕ) (xs ys : List (List ℕ)) (e : zero ≡ x ∷ xs) (f : one ≡ y ∷ ys) where
    first_some : Rising (sort_key n None) (x ∷ xs)
    first_some = subst (Rising (sort_key n None)) e w.first-rises

    second-some : Rising (sort_key n None) (y ∷ ys)
    second-some = subst (Rising (sort_key n None)) f w.second-rises

    both_some : meets n (x ∷ xs) (y ∷ ys) ≡ answer
    both_some = ap₂ (meets n) (sym e) (sym f) ∙ w.left

    pub walk-less : order (key_of n x) (key_of n y) ≡ Less → Walked n answer xs one
    walk-less l = record { first-rises = first_some.1; second-rises = w.second-rises; left = ap (meets n xs) f ∙ sym (meets-less n x xs y ys l second-some) ∙ both_some }

    pub walk-greater : order (key_of n x) (key_of n y) ≡ Greater → Walked n answer zero ys
    walk-greater l =
        record { first-rises = w.first-rises; second-rises = second-some.1; left = ap (λ (rs : List (List ℕ)). meets n rs ys) e ∙ sym (meets-greater n x xs y ys l first_some) ∙ both_some }

    pub walk-equal : order (key_of n x) (key_of n y) ≡ Equal → true ≡ answer
    walk-equal l = sym (meets-equal n x xs y ys l) ∙ both_some
