-- How many pairs of words a comparison takes, for keys of any number of words: it is the place,
-- from 1, of the first pair that differs without the left-out bit, and that pair decides the order.
-- For every crate above. Assumes nothing.
use Rattle.std.specs.declared.cmp.Ordering.{Ordering}
use Rattle.std.specs.declared.cmp.Ordering.TheVariants.{Equal}
use Rattle.std.specs.Prelude.{◌≡◌, refl, ℕ, zero, suc, ◌<◌, ◌≤◌, List, [], ◌∷◌, Bool, true, false, cond, eqb, ltb, length, get_or, drop, Option}
use Rattle.std.proofs.Common.{sym, ap, ap₂, ◌∙◌, subst, le_antisymm, arith, eq-eqb, ne_eqb, le-ltb, eqb-true, ltb-true, ltb-false, drop_of_length-le, ext_get_or}
use Rattle.std.proofs.lemmas.Bool.{eqb-false}
use Rattle.keys.specs.Keys.{by_word, order, first_difference, pairs_compared, without, word_without}
use Rattle.keys.specs.Laws.Bits.{length_without, word-of-without}

-- ---- the first pair of words that differs

difference-before : (a b : List ℕ) (k : ℕ) → k < first_difference a b → get_or a k 0 ≡ get_or b k 0
unfolding first_difference
difference-before [] b k h = absurd (omega arith)
difference-before (x ∷ a) [] k h = absurd (omega arith)
difference-before (x ∷ a) (y ∷ b) k h = go (eqb x y) refl k h (difference-before a b)
  where
    go : (t : Bool) → eqb x y ≡ t → (k : ℕ) → k < cond t (suc (first_difference a b)) 0 → ((k : ℕ) → k < first_difference a b → get_or a k 0 ≡ get_or b k 0)
        → get_or (x ∷ a) k 0 ≡ get_or (y ∷ b) k 0
    go true e zero h r = eqb-true x y e
    go true e (suc k) h r = r k (omega arith)
    go false e k h r = absurd (omega arith)

-- only one place is the first
pub difference-unique : (a b : List ℕ) (p : ℕ) → length a ≡ length b → p ≤ length a → ((k : ℕ) → k < p → get_or a k 0 ≡ get_or b k 0) → (p < length a → get_or a p 0 ≡ get_or b p 0 → ⊥)
    → first_difference a b ≡ p
unfolding first_difference
difference-unique [] [] p l h f g = omega arith
difference-unique [] (y ∷ b) p l h f g = absurd (omega arith)
difference-unique (x ∷ a) [] p l h f g = absurd (omega arith)
difference-unique (x ∷ a) (y ∷ b) zero l h f g = rw (ne_eqb x y (g (omega arith)))
difference-unique (x ∷ a) (y ∷ b) (suc p) l h f g =
    rw (eq-eqb x y (f 0 (omega arith))) (ap suc (difference-unique a b p (omega arith) (omega arith) (λ k m. f (suc k) (omega arith)) (λ m. g (omega arith))))

pub difference-refl : (a : List ℕ) → first_difference a a ≡ length a
difference-refl a = difference-unique a a (length a) refl (omega arith) (λ k h. refl) (λ h. absurd (omega arith))

-- keys of one width without a difference are the same
pub difference-none : (a b : List ℕ) → length a ≡ length b → length a ≤ first_difference a b → a ≡ b
difference-none a b l h = ext_get_or 0 a b l (λ k m. difference-before a b k (omega arith))

difference_inside : (a b : List ℕ) → first_difference a b ≤ length a
unfolding first_difference
difference_inside [] b = omega arith
difference_inside (x ∷ a) [] = omega arith
difference_inside (x ∷ a) (y ∷ b) = go (eqb x y) (difference_inside a b)
  where
    go : (t : Bool) → first_difference a b ≤ length a → cond t (suc (first_difference a b)) 0 ≤ suc (length a)
    go true h = omega arith
    go false h = omega arith

-- the words at it differ, where it is a place
difference-at : (a b : List ℕ) → length a ≡ length b → first_difference a b < length a → get_or a (first_difference a b) 0 ≡ get_or b (first_difference a b) 0 → ⊥
unfolding first_difference
difference-at [] b l h e = absurd (omega arith)
difference-at (x ∷ a) [] l h e = absurd (omega arith)
difference-at (x ∷ a) (y ∷ b) l h e = go (eqb x y) refl h e (λ m. difference-at a b (omega arith) m)
  where
    go : (t : Bool) → eqb x y ≡ t → cond t (suc (first_difference a b)) 0 < suc (length a)
        → get_or (x ∷ a) (cond t (suc (first_difference a b)) 0) 0 ≡ get_or (y ∷ b) (cond t (suc (first_difference a b)) 0) 0
        → (first_difference a b < length a → get_or a (first_difference a b) 0 ≡ get_or b (first_difference a b) 0 → ⊥) → ⊥
    go true d h e r = r (omega arith) e
    go false d h e r = eqb-false x y d e

difference-comm : (a b : List ℕ) → length a ≡ length b → first_difference a b ≡ first_difference b a
difference-comm a b l = difference-unique a b (first_difference b a) l (omega (arith, difference_inside b a)) (λ k h. sym (difference-before b a k h)) (λ h e. difference-at b a (sym l) (omega arith) (sym e))

-- ---- how many pairs are compared

-- by whether there is a first difference
by_difference : (P : ℕ → Type 0) (a b : List ℕ) → (first_difference a b < length a → P (suc (first_difference a b))) → (length a ≤ first_difference a b → P (length a)) → P (pairs_compared a b)
unfolding pairs_compared
by_difference P a b f g = go (ltb (first_difference a b) (length a)) refl
  where
    go : (t : Bool) → ltb (first_difference a b) (length a) ≡ t → P (cond t (suc (first_difference a b)) (length a))
    go true e = f (ltb-true (first_difference a b) (length a) e)
    go false e = g (ltb-false (first_difference a b) (length a) e)

-- keys with words before p that agree and others at p
pub pairs_first : (a b : List ℕ) (p : ℕ) → length a ≡ length b → p < length a → ((k : ℕ) → k < p → get_or a k 0 ≡ get_or b k 0) → (get_or a p 0 ≡ get_or b p 0 → ⊥) → pairs_compared a b ≡ suc p
pairs_first a b p l h f g =
    let d = difference-unique a b p l (omega arith) f (λ u. g) in
    by_difference (λ c. c ≡ suc p) a b (λ u. ap suc d) (λ u. absurd (omega arith))

-- equal keys
pub pairs-same : (a : List ℕ) → pairs_compared a a ≡ length a
pairs-same a = let d = difference-refl a in by_difference (λ c. c ≡ length a) a a (λ u. absurd (omega arith)) (λ u. refl)

-- from 1 to N
pub pairs-range : (a b : List ℕ) → 0 < length a → (1 ≤ pairs_compared a b) × (pairs_compared a b ≤ length a)
pairs-range a b h = by_difference (λ c. (1 ≤ c) × (c ≤ length a)) a b (λ u. (omega arith, omega arith)) (λ u. (omega arith, omega arith))

-- the same with the keys exchanged
pub pairs-comm : (a b : List ℕ) → length a ≡ length b → pairs_compared a b ≡ pairs_compared b a
unfolding pairs_compared
pairs-comm a b l = rw (difference-comm a b l, l)

-- ---- with a bit left out or none

seen-length : (o : Option ℕ) (a b : List ℕ) → length a ≡ length b → length (without o a) ≡ length (without o b)
seen-length o a b l = length_without o a ∙ l ∙ sym (length_without o b)

-- words that agree in both keys without the bit
seen-words : (o : Option ℕ) (a b : List ℕ) (m : ℕ) → length a ≡ length b → m < length a → get_or (without o a) m 0 ≡ get_or (without o b) m 0 → word_without o m (get_or a m 0) ≡ word_without o m (get_or b m 0)
seen-words o a b m l h e = sym (word-of-without o a m h) ∙ e ∙ word-of-without o b m (omega arith)

-- the words before the last pair that is compared agree but for that bit
pub pairs-agree : (o : Option ℕ) (a b : List ℕ) (m : ℕ) → length a ≡ length b → suc m < pairs_compared (without o a) (without o b) → word_without o m (get_or a m 0) ≡ word_without o m (get_or b m 0)
pairs-agree o a b m l =
    let n = length_without o a in
    by_difference (λ c. suc m < c → word_without o m (get_or a m 0) ≡ word_without o m (get_or b m 0)) (without o a) (without o b)
    (λ u h. seen-words o a b m l (omega arith) (difference-before (without o a) (without o b) m (omega arith)))
    (λ u h. seen-words o a b m l (omega arith) (difference-before (without o a) (without o b) m (omega arith)))

-- those of the last pair differ in more than that bit, where words were left
pub pairs-differ : (o : Option ℕ) (a b : List ℕ) (p : ℕ) → length a ≡ length b → suc p ≡ pairs_compared (without o a) (without o b) → suc p < length a
    → word_without o p (get_or a p 0) ≡ word_without o p (get_or b p 0) → ⊥
pairs-differ o a b p l =
    let n = length_without o a in
    by_difference (λ c. suc p ≡ c → suc p < length a → word_without o p (get_or a p 0) ≡ word_without o p (get_or b p 0) → ⊥) (without o a) (without o b)
    (λ u e h d. difference-at (without o a) (without o b) (seen-length o a b l) u
    (subst (λ (q : ℕ). get_or (without o a) q 0 ≡ get_or (without o b) q 0) (let q : p ≡ first_difference (without o a) (without o b) = omega arith in q)
    (word-of-without o a p (omega arith) ∙ d ∙ sym (word-of-without o b p (omega arith)))))
    (λ u e h d. absurd (omega arith))

-- keys with words before p that agree: those at p decide, then the rest
order_from : (a b : List ℕ) (p : ℕ) → length a ≡ length b → p < length a → ((k : ℕ) → k < p → get_or a k 0 ≡ get_or b k 0)
    → order a b ≡ by_word (ltb (get_or a p 0) (get_or b p 0)) (ltb (get_or b p 0) (get_or a p 0)) (order (drop (suc p) a) (drop (suc p) b))
unfolding order
order_from [] b p l h f = absurd (omega arith)
order_from (x ∷ a) [] p l h f = absurd (omega arith)
order_from (x ∷ a) (y ∷ b) zero l h f = refl
order_from (x ∷ a) (y ∷ b) (suc p) l h f =
    let e = f 0 (omega arith) in
    rw (le-ltb x y (omega arith), le-ltb y x (omega arith)) (order_from a b p (omega arith) (omega arith) (λ k m. f (suc k) (omega arith)))

-- by a word of each that differ, or by the last words
decided : (o : Ordering) (x y : ℕ) → (x ≡ y → o ≡ Equal) → by_word (ltb x y) (ltb y x) o ≡ order (x ∷ []) (y ∷ [])
unfolding order
decided o x y f = go (ltb x y) (ltb y x) refl refl
  where
    go : (s t : Bool) → ltb x y ≡ s → ltb y x ≡ t → by_word s t o ≡ by_word s t Equal
    go true t d e = refl
    go false true d e = refl
    go false false d e = f (le_antisymm (ltb-false y x e) (ltb-false x y d))

last-decides : (a b : List ℕ) (p : ℕ) → length a ≡ length b → suc p ≡ pairs_compared a b → order a b ≡ order (get_or a p 0 ∷ []) (get_or b p 0 ∷ [])
unfolding order
last-decides a b p l =
    by_difference (λ c. suc p ≡ c → order a b ≡ order (get_or a p 0 ∷ []) (get_or b p 0 ∷ [])) a b
    (λ u e.
    let q : p ≡ first_difference a b = omega arith in
    order_from a b p l (omega arith) (λ k m. difference-before a b k (omega arith))
    ∙ decided (order (drop (suc p) a) (drop (suc p) b)) (get_or a p 0) (get_or b p 0) (λ h. absurd (difference-at a b l u (subst (λ (r : ℕ). get_or a r 0 ≡ get_or b r 0) q h))))
    (λ u e.
    order_from a b p l (omega arith) (λ k m. difference-before a b k (omega arith))
    ∙ decided (order (drop (suc p) a) (drop (suc p) b)) (get_or a p 0) (get_or b p 0) (λ h. ap₂ order (drop_of_length-le a {i = suc p} (omega arith)) (drop_of_length-le b {i = suc p} (omega arith))))

-- the words of the last pair that is compared decide the order, alone
pub pairs_decide : (o : Option ℕ) (a b : List ℕ) (p : ℕ) → length a ≡ length b → p < length a → suc p ≡ pairs_compared (without o a) (without o b)
    → order (without o a) (without o b) ≡ order (word_without o p (get_or a p 0) ∷ []) (word_without o p (get_or b p 0) ∷ [])
pairs_decide o a b p l h e =
    last-decides (without o a) (without o b) p (seen-length o a b l) e
    ∙ ap₂ (λ (v w : ℕ). order (v ∷ []) (w ∷ [])) (word-of-without o a p h) (word-of-without o b p (omega arith))
