-- Sorting and merging by key: what is sorted rises and has the same elements, and merging two
-- rising lists sorts them. Assumes nothing.
use Rattle.std.specs.declared.cmp.Ordering.{Ordering}
use Rattle.std.specs.declared.cmp.Ordering.TheVariants.{Less, Equal, Greater}
use Rattle.std.specs.Prelude.{◌≡◌, ℕ, suc, Bool, length}
use Rattle.std.proofs.Math.Path.{refl, sym, ap}
use Rattle.std.proofs.Common.{◌∙◌, subst}
use mathlib.Core.List.Permᴰ
use mathlib.Core.List.{List, [], ◌∷◌, ◌++◌, Permᴰ}
use Rattle.std.proofs.Math.Bool.{true, false, beq}
use Rattle.std.proofs.lemmas.Bool.{false≢true}
use Rattle.keys.specs.Keys.{order}
use Rattle.keys.specs.Laws.{order_trans, order-equal, less-not-equal, greater-less, less-greater}
use Rattle.keys.specs.Lists.{All, all_map, all_append}
use Rattle.merge.specs.Merging.{merged, into}
use Rattle.merge.specs.Sorting.{Rising, Apart, not_greater, before, choose, insert, sorted, only}

module _ {A : Type 0} where
  -- no two elements have the same key
  abbrev pub Distinct : (A → List ℕ) → List A → Type 0
  Distinct key [] = Unit
  Distinct key (x ∷ xs) = All (λ y. key x ≡ key y → ⊥) xs × Distinct key xs

  -- what x goes before, and what goes before x
  data Goes (key : A → List ℕ) (x y : A) : Type 0 where
    first : before key x y ≡ true → (order (key y) (key x) ≡ Less → ⊥) → Goes key x y
    second : before key x y ≡ false → order (key y) (key x) ≡ Less → Goes key x y

  goes : (key : A → List ℕ) (x y : A) → Goes key x y
  goes key x y = go (order (key x) (key y)) refl
    where
      go : (o : Ordering) → order (key x) (key y) ≡ o → Goes key x y
      go Less e = first (ap not_greater e) (λ l. less-not-equal (key x) (key x) (order_trans (key x) (key y) (key x) e l) refl)
      go Equal e = first (ap not_greater e) (λ l. less-not-equal (key y) (key x) l (sym (order-equal (key x) (key y) e)))
      go Greater e = second (ap not_greater e) (greater-less (key x) (key y) e)

  -- x is not above y, and y is below z
  over_front : (key : A → List ℕ) (x y z : A) → before key x y ≡ true → order (key y) (key z) ≡ Less → order (key x) (key z) ≡ Less
  over_front key x y z b l = go (order (key x) (key y)) refl b
    where
      go : (o : Ordering) → order (key x) (key y) ≡ o → not_greater o ≡ true → order (key x) (key z) ≡ Less
      go Less e b = order_trans (key x) (key y) (key z) e l
      go Equal e b = ap (λ (k : List ℕ). order k (key z)) (order-equal (key x) (key y) e) ∙ l
      go Greater e b = absurd (false≢true b)

  less-before : (key : A → List ℕ) (x y : A) → order (key x) (key y) ≡ Less → before key x y ≡ true
  less-before key x y e = ap not_greater e

  -- ---- insertion

  pub insert-first : (key : A → List ℕ) (x : A) (ys : List A) → All (λ y. before key x y ≡ true) ys → insert key x ys ≡ x ∷ ys
  unfolding insert
  insert-first key x [] h = refl
  insert-first key x (y ∷ ys) h = rw h.0

  insert-later : (key : A → List ℕ) (x y : A) (ys : List A) → before key x y ≡ false → insert key x (y ∷ ys) ≡ y ∷ insert key x ys
  unfolding insert
  insert-later key x y ys e = rw e

  pub insert-perm : (key : A → List ℕ) (x : A) (ys : List A) → Permᴰ (insert key x ys) (x ∷ ys)
  unfolding insert
  insert-perm key x [] = Permᴰ.refl (x ∷ [])
  insert-perm key x (y ∷ ys) = go (before key x y) (insert-perm key x ys)
    where
      go : (b : Bool) → Permᴰ (insert key x ys) (x ∷ ys) → Permᴰ (choose b (x ∷ y ∷ ys) (y ∷ insert key x ys)) (x ∷ y ∷ ys)
      go true r = Permᴰ.refl (x ∷ y ∷ ys)
      go false r = Permᴰ.trans (Permᴰ.cons refl r) (Permᴰ.swap refl refl)

  -- sorting keeps the elements
  pub sorted-perm : (key : A → List ℕ) (xs : List A) → Permᴰ (sorted key xs) xs
  unfolding sorted
  sorted-perm key [] = Permᴰ.nil
  sorted-perm key (x ∷ xs) = Permᴰ.trans (insert-perm key x (sorted key xs)) (Permᴰ.cons refl (sorted-perm key xs))

  -- and so does splitting a list by a test
  pub split-perm : (f : A → Bool) (xs : List A) → Permᴰ (only (λ x. beq (f x) false) xs ++ only (λ x. beq (f x) true) xs) xs
  unfolding only
  split-perm f [] = Permᴰ.nil
  split-perm f (x ∷ xs) = go (f x) (split-perm f xs)
    where
      go : (b : Bool) → Permᴰ (only (λ x. beq (f x) false) xs ++ only (λ x. beq (f x) true) xs) xs
          → Permᴰ (choose (beq b false) (x ∷ only (λ x. beq (f x) false) xs) (only (λ x. beq (f x) false) xs) ++ choose (beq b true) (x ∷ only (λ x. beq (f x) true) xs) (only (λ x. beq (f x) true) xs)) (x ∷ xs)
      go false r = Permᴰ.cons refl r
      go true r = Permᴰ.trans (Permᴰ.middle x (only (λ x. beq (f x) false) xs) (only (λ x. beq (f x) true) xs)) (Permᴰ.cons refl r)

  -- ---- what a permutation keeps

  pub perm-length : {xs ys : List A} → Permᴰ xs ys → length xs ≡ length ys
  perm-length Permᴰ.nil = refl
  perm-length (Permᴰ.cons e p) = ap suc (perm-length p)
  perm-length (Permᴰ.swap d e) = refl
  perm-length (Permᴰ.trans p q) = perm-length p ∙ perm-length q

  pub perm-all : (P : A → Type 0) {xs ys : List A} → Permᴰ xs ys → All P xs → All P ys
  perm-all P Permᴰ.nil h = tt
  perm-all P (Permᴰ.cons e p) h = (subst P e h.0, perm-all P p h.1)
  perm-all P (Permᴰ.swap d e) h = (subst P e h.1.0, (subst P d h.0, h.1.1))
  perm-all P (Permᴰ.trans p q) h = perm-all P q (perm-all P p h)

  pub perm-distinct : (key : A → List ℕ) {xs ys : List A} → Permᴰ xs ys → Distinct key xs → Distinct key ys
  perm-distinct key Permᴰ.nil d = tt
  perm-distinct key (Permᴰ.cons {l₂ = ys} e p) d =
      (subst (λ a. All (λ y. key a ≡ key y → ⊥) ys) e (perm-all (λ y. key _ ≡ key y → ⊥) p d.0), perm-distinct key p d.1)
  perm-distinct key (Permᴰ.swap {l = l} d e) h =
      ((λ m. h.0.0 (ap key d ∙ sym m ∙ ap key (sym e)), subst (λ a. All (λ y. key a ≡ key y → ⊥) l) e h.1.0), (subst (λ a. All (λ y. key a ≡ key y → ⊥) l) d h.0.1, h.1.1))
  perm-distinct key (Permᴰ.trans p q) d = perm-distinct key q (perm-distinct key p d)

  -- what is sorted already stays
  pub sorted-self : (key : A → List ℕ) (xs : List A) → Rising key xs → sorted key xs ≡ xs
  unfolding sorted
  sorted-self key [] h = refl
  sorted-self key (x ∷ xs) h = ap (insert key x) (sorted-self key xs h.1) ∙ insert-first key x xs (all_map xs (λ y l. less-before key x y l) h.0)

  -- ---- every element

  pub all_insert : (P : A → Type 0) (key : A → List ℕ) (x : A) (ys : List A) → P x → All P ys → All P (insert key x ys)
  unfolding insert
  all_insert P key x [] p h = (p, tt)
  all_insert P key x (y ∷ ys) p h = go (before key x y) (all_insert P key x ys p h.1)
    where
      go : (b : Bool) → All P (insert key x ys) → All P (choose b (x ∷ y ∷ ys) (y ∷ insert key x ys))
      go true r = (p, h)
      go false r = (h.0, r)

  pub all-sorted : (P : A → Type 0) (key : A → List ℕ) (xs : List A) → All P xs → All P (sorted key xs)
  unfolding sorted
  all-sorted P key [] h = tt
  all-sorted P key (x ∷ xs) h = all_insert P key x (sorted key xs) h.0 (all-sorted P key xs h.1)

  pub all-only : (P : A → Type 0) (t : A → Bool) (xs : List A) → All P xs → All P (only t xs)
  unfolding only
  all-only P t [] h = tt
  all-only P t (x ∷ xs) h = go (t x) (all-only P t xs h.1)
    where
      go : (b : Bool) → All P (only t xs) → All P (choose b (x ∷ only t xs) (only t xs))
      go true r = (h.0, r)
      go false r = r

  -- each passes the test
  pub only-passes : (t : A → Bool) (xs : List A) → All (λ x. t x ≡ true) (only t xs)
  unfolding only
  only-passes t [] = tt
  only-passes t (x ∷ xs) = go (t x) refl (only-passes t xs)
    where
      go : (b : Bool) → t x ≡ b → All (λ x. t x ≡ true) (only t xs) → All (λ x. t x ≡ true) (choose b (x ∷ only t xs) (only t xs))
      go true e r = (e, r)
      go false e r = r

  -- ---- rising

  insert-rising : (key : A → List ℕ) (x : A) (ys : List A) → Rising key ys → All (λ y. key x ≡ key y → ⊥) ys → Rising key (insert key x ys)
  unfolding insert
  insert-rising key x [] h d = (tt, tt)
  insert-rising key x (y ∷ ys) h d = go (order (key x) (key y)) refl (insert-rising key x ys h.1 d.1)
    where
      go : (o : Ordering) → order (key x) (key y) ≡ o → Rising key (insert key x ys) → Rising key (choose (not_greater o) (x ∷ y ∷ ys) (y ∷ insert key x ys))
      go Less e r = ((e, all_map ys (λ z l. order_trans (key x) (key y) (key z) e l) h.0), h)
      go Equal e r = absurd (d.0 (order-equal (key x) (key y) e))
      go Greater e r = (all_insert (λ z. order (key y) (key z) ≡ Less) key x ys (greater-less (key x) (key y) e) h.0, r)

  -- a list without a repeated key, sorted, rises
  pub sorted-rising : (key : A → List ℕ) (xs : List A) → Distinct key xs → Rising key (sorted key xs)
  unfolding sorted
  sorted-rising key [] d = tt
  sorted-rising key (x ∷ xs) d = insert-rising key x (sorted key xs) (sorted-rising key xs d.1) (all-sorted (λ y. key x ≡ key y → ⊥) key xs d.0)

  pub only-rising : (key : A → List ℕ) (t : A → Bool) (xs : List A) → Rising key xs → Rising key (only t xs)
  unfolding only
  only-rising key t [] h = tt
  only-rising key t (x ∷ xs) h = go (t x) (only-rising key t xs h.1)
    where
      go : (b : Bool) → Rising key (only t xs) → Rising key (choose b (x ∷ only t xs) (only t xs))
      go true r = (all-only (λ y. order (key x) (key y) ≡ Less) t xs h.0, r)
      go false r = r

  pub rising-distinct : (key : A → List ℕ) (xs : List A) → Rising key xs → Distinct key xs
  rising-distinct key [] h = tt
  rising-distinct key (x ∷ xs) h = (all_map xs (λ y l e. less-not-equal (key x) (key y) l e) h.0, rising-distinct key xs h.1)

  -- two lists without a repeated key, and none in both
  pub distinct_append : (key : A → List ℕ) (xs ys : List A) → Distinct key xs → Distinct key ys → Apart key xs ys → Distinct key (xs ++ ys)
  distinct_append key [] ys d e p = e
  distinct_append key (x ∷ xs) ys d e p =
      (all_append (λ y. key x ≡ key y → ⊥) xs ys d.0 (all_map ys (λ y h. h.0) p), distinct_append key xs ys d.1 e (all_map ys (λ y h. h.1) p))

  -- ---- merging two rising lists sorts them

  pub all-into : (P : A → Type 0) (f : A → A → Bool) (x : A) (rest : List A → List A) → P x → ((l : List A) → All P l → All P (rest l)) → (ys : List A) → All P ys → All P (into f x rest ys)
  unfolding into
  all-into P f x rest p g [] h = (p, g [] tt)
  all-into P f x rest p g (y ∷ ys) h = go (f x y) (all-into P f x rest p g ys h.1)
    where
      go : (b : Bool) → All P (into f x rest ys) → All P (choose b (x ∷ rest (y ∷ ys)) (y ∷ into f x rest ys))
      go true r = (p, g (y ∷ ys) h)
      go false r = (h.0, r)

  pub all-merged : (P : A → Type 0) (f : A → A → Bool) (xs ys : List A) → All P xs → All P ys → All P (merged f xs ys)
  unfolding merged
  all-merged P f [] ys p q = q
  all-merged P f (x ∷ xs) ys p q = all-into P f x (merged f xs) p.0 (λ l r. all-merged P f xs l p.1 r) ys q

  merged-none : (f : A → A → Bool) (xs : List A) → merged f xs [] ≡ xs
  unfolding merged into
  merged-none f [] = refl
  merged-none f (x ∷ xs) = ap (λ (l : List A). x ∷ l) (merged-none f xs)

  -- y is below every x, so it comes first
  merged-second : (key : A → List ℕ) (xs : List A) (y : A) (ys : List A) → All (λ x. order (key y) (key x) ≡ Less) xs → merged (before key) xs (y ∷ ys) ≡ y ∷ merged (before key) xs ys
  unfolding merged into
  merged-second key [] y ys h = refl
  merged-second key (x ∷ xs) y ys h = let e : before key x y ≡ false = ap not_greater (less-greater (key y) (key x) h.0) in rw e

  insert-into : (key : A → List ℕ) (x : A) (xs : List A) → All (λ y. order (key x) (key y) ≡ Less) xs → (ys : List A) → Rising key ys
      → insert key x (merged (before key) xs ys) ≡ into (before key) x (merged (before key) xs) ys
  unfolding into
  insert-into key x xs h [] r =
      insert-first key x (merged (before key) xs []) (all-merged (λ y. before key x y ≡ true) (before key) xs [] (all_map xs (λ y l. less-before key x y l) h) tt)
  insert-into key x xs h (y ∷ ys) r = go (goes key x y) (insert-into key x xs h ys r.1)
    where
      go : Goes key x y → insert key x (merged (before key) xs ys) ≡ into (before key) x (merged (before key) xs) ys
          → insert key x (merged (before key) xs (y ∷ ys)) ≡ choose (before key x y) (x ∷ merged (before key) xs (y ∷ ys)) (y ∷ into (before key) x (merged (before key) xs) ys)
      go (first b f) ih =
          insert-first key x (merged (before key) xs (y ∷ ys))
          (all-merged (λ z. before key x z ≡ true) (before key) xs (y ∷ ys) (all_map xs (λ z l. less-before key x z l) h) (b, all_map ys (λ z l. less-before key x z (over_front key x y z b l)) r.0))
          ∙ rw b
      go (second b l) ih =
          ap (insert key x) (merged-second key xs y ys (all_map xs (λ z m. order_trans (key y) (key x) (key z) l m) h))
          ∙ insert-later key x y (merged (before key) xs ys) b
          ∙ ap (λ (m : List A). y ∷ m) ih
          ∙ rw b

  pub merged-sorted : (key : A → List ℕ) (xs ys : List A) → Rising key xs → Rising key ys → merged (before key) xs ys ≡ sorted key (xs ++ ys)
  unfolding merged sorted
  merged-sorted key [] ys h r = sym (sorted-self key ys r)
  merged-sorted key (x ∷ xs) ys h r = sym (insert-into key x xs h.0 ys r) ∙ ap (insert key x) (merged-sorted key xs ys h.1 r)
