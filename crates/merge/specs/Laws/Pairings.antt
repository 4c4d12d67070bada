-- The pair merge meets every record exactly once, in rising order of the addresses; and the pair at
-- an address. For the crates above. Assumes nothing.
use Rattle.std.specs.declared.cmp.Ordering.{Ordering}
use Rattle.std.specs.declared.cmp.Ordering.TheVariants.{Less, Equal, Greater}
use Rattle.std.specs.Prelude.{◌≡◌, refl, ℕ, cond, None, Option, Some}
use Rattle.std.proofs.Common.{sym, ap, ap₂, ◌∙◌}
use mathlib.Core.List.Permᴰ
use mathlib.Core.List.{List, [], ◌∷◌, ◌++◌, map, Permᴰ}
use Rattle.keys.specs.Keys.{order, same}
use Rattle.keys.specs.Laws.{order_trans, order-refl, order-equal, greater-less, less-greater, below-not-same}
use Rattle.keys.specs.Lists.{All, all_map}
use Rattle.merge.specs.Records.{key_of}
use Rattle.merge.specs.Sorting.{Rising, sort_key}
use Rattle.merge.specs.Pairs.{Pair, lhs, rhs, both, by_order, pairs_with, pairs}
use Rattle.merge.specs.Addresses.{enter, addresses}

-- a record's address: its key with bit q clear; and a pair's
abbrev pub address : ℕ → ℕ → List ℕ → List ℕ
address n q r = sort_key n (Some q) r

abbrev pub address_of : ℕ → ℕ → Pair → List ℕ
address_of n q (lhs x) = address n q x
address_of n q (rhs y) = address n q y
address_of n q (both x y) = address n q x

-- above the key k
abbrev pub Above : {A : Type 0} → (A → List ℕ) → List ℕ → List A → Type 0
Above key k xs = All (λ x. order k (key x) ≡ Less) xs

pub above-trans : {A : Type 0} (key : A → List ℕ) (k m : List ℕ) (xs : List A) → order k m ≡ Less → Above key m xs → Above key k xs
above-trans key k m xs h = all_map xs (λ x l. order_trans k m (key x) h l)

-- ---- how the first records of two parts stand to each other

data Heads (n q : ℕ) (x y : List ℕ) : Type 0 where
  first : order (address n q x) (address n q y) ≡ Less → Heads n q x y
  level : order (address n q x) (address n q y) ≡ Equal → address n q x ≡ address n q y → Heads n q x y
  second : order (address n q x) (address n q y) ≡ Greater → order (address n q y) (address n q x) ≡ Less → Heads n q x y

heads : (n q : ℕ) (x y : List ℕ) → Heads n q x y
heads n q x y = go (order (address n q x) (address n q y)) refl
  where
    go : (o : Ordering) → order (address n q x) (address n q y) ≡ o → Heads n q x y
    go Less e = first e
    go Equal e = level e (order-equal (address n q x) (address n q y) e)
    go Greater e = second e (greater-less (address n q x) (address n q y) e)

-- ---- induction along the merge

module _ (n q : ℕ) (M : List (List ℕ) → List (List ℕ) → List Pair → Type 0)
    (none_left : M [] [] [])
    (last-rhs : (y : List ℕ) (ys : List (List ℕ)) (ps : List Pair) → M [] ys ps → M [] (y ∷ ys) (rhs y ∷ ps))
    (last-lhs : (x : List ℕ) (xs : List (List ℕ)) (ps : List Pair) → M xs [] ps → M (x ∷ xs) [] (lhs x ∷ ps))
    (turn-lhs : (x y : List ℕ) (xs ys : List (List ℕ)) (ps : List Pair) → order (address n q x) (address n q y) ≡ Less → M xs (y ∷ ys) ps → M (x ∷ xs) (y ∷ ys) (lhs x ∷ ps))
    (turn-both : (x y : List ℕ) (xs ys : List (List ℕ)) (ps : List Pair) → address n q x ≡ address n q y → M xs ys ps → M (x ∷ xs) (y ∷ ys) (both x y ∷ ps))
    (turn-rhs : (x y : List ℕ) (xs ys : List (List ℕ)) (ps : List Pair) → order (address n q y) (address n q x) ≡ Less → M (x ∷ xs) ys ps → M (x ∷ xs) (y ∷ ys) (rhs y ∷ ps)) where
  ind-rhs : (ys : List (List ℕ)) → M [] ys (map rhs ys)
  ind-rhs [] = none_left
  ind-rhs (y ∷ ys) = last-rhs y ys (map rhs ys) (ind-rhs ys)

  turned : (x y : List ℕ) (xs ys : List (List ℕ)) (a b c : List Pair) → Heads n q x y → M xs (y ∷ ys) a → M xs ys b → M (x ∷ xs) ys c
      → M (x ∷ xs) (y ∷ ys) (by_order (order (address n q x) (address n q y)) (lhs x ∷ a) (both x y ∷ b) (rhs y ∷ c))
  turned x y xs ys a b c (first e) u v w = rw e (turn-lhs x y xs ys a e u)
  turned x y xs ys a b c (level e l) u v w = rw e (turn-both x y xs ys b l v)
  turned x y xs ys a b c (second e l) u v w = rw e (turn-rhs x y xs ys c l w)

  ind-among : (x : List ℕ) (xs : List (List ℕ)) → ((l : List (List ℕ)) → M xs l (pairs n q xs l)) → (ys : List (List ℕ)) → M (x ∷ xs) ys (pairs_with n q x (pairs n q xs) ys)
  unfolding pairs_with
  ind-among x xs h [] = last-lhs x xs (pairs n q xs []) (h [])
  ind-among x xs h (y ∷ ys) = turned x y xs ys (pairs n q xs (y ∷ ys)) (pairs n q xs ys) (pairs_with n q x (pairs n q xs) ys) (heads n q x y) (h (y ∷ ys)) (h ys) (ind-among x xs h ys)

  pub pairs-ind : (xs ys : List (List ℕ)) → M xs ys (pairs n q xs ys)
  unfolding pairs
  pairs-ind [] ys = ind-rhs ys
  pairs-ind (x ∷ xs) ys = ind-among x xs (pairs-ind xs) ys

-- ---- every record is met exactly once

abbrev pub pair_records : List Pair → List (List ℕ)
pair_records [] = []
pair_records (lhs x ∷ ps) = x ∷ pair_records ps
pair_records (rhs y ∷ ps) = y ∷ pair_records ps
pair_records (both x y ∷ ps) = x ∷ y ∷ pair_records ps

-- a second part's first record goes last
later : (x : List ℕ) (xs : List (List ℕ)) (y : List ℕ) (ys rs : List (List ℕ)) → Permᴰ rs (xs ++ ys) → Permᴰ (y ∷ rs) (xs ++ y ∷ ys)
later x xs y ys rs p = Permᴰ.trans (Permᴰ.cons refl p) (Permᴰ.symm (Permᴰ.middle y xs ys))

pub pairs-once : (n q : ℕ) (xs ys : List (List ℕ)) → Permᴰ (pair_records (pairs n q xs ys)) (xs ++ ys)
pairs-once n q =
    pairs-ind n q (λ xs ys ps. Permᴰ (pair_records ps) (xs ++ ys))
    Permᴰ.nil
    (λ y ys ps r. Permᴰ.cons refl r)
    (λ x xs ps r. Permᴰ.cons refl r)
    (λ x y xs ys ps l r. Permᴰ.cons refl r)
    (λ x y xs ys ps e r. Permᴰ.cons refl (later x xs y ys (pair_records ps) r))
    (λ x y xs ys ps l r. later x (x ∷ xs) y ys (pair_records ps) r)

-- ---- the addresses of rising parts are those of their pairs

data Stand (a b : List ℕ) : Type 0 where
  below : order a b ≡ Less → order b a ≡ Greater → Stand a b
  level : a ≡ b → order a b ≡ Equal → Stand a b
  above : order a b ≡ Greater → order b a ≡ Less → Stand a b

stand : (a b : List ℕ) → Stand a b
stand a b = go (order a b) refl
  where
    go : (o : Ordering) → order a b ≡ o → Stand a b
    go Less e = below e (less-greater a b e)
    go Equal e = level (order-equal a b e) e
    go Greater e = above e (greater-less a b e)

enter-same : (k : List ℕ) (l : List (List ℕ)) → enter k (k ∷ l) ≡ k ∷ l
unfolding enter
enter-same k l = rw (order-refl k)

enter-comm-nil : (a b : List ℕ) → Stand a b → enter a (enter b []) ≡ enter b (enter a [])
unfolding enter
enter-comm-nil a b (below d e) = rw (d, e)
enter-comm-nil a b (level p d) = rw p
enter-comm-nil a b (above d e) = rw (d, e)

enter-comm-less : (a b c : List ℕ) (l : List (List ℕ)) → order a b ≡ Less → order b a ≡ Greater → Stand b c → Stand a c → enter a (enter b l) ≡ enter b (enter a l)
    → enter a (enter b (c ∷ l)) ≡ enter b (enter a (c ∷ l))
unfolding enter
enter-comm-less a b c l d e (below h k) s r = simp (h, order_trans a b c d h, d, e)
enter-comm-less a b c l d e (level p h) s r = let f : order a c ≡ Less = rw p at d in simp (h, f, e)
enter-comm-less a b c l d e (above h k) (below f g) r = simp (h, f, e)
enter-comm-less a b c l d e (above h k) (level p f) r = simp (h, f)
enter-comm-less a b c l d e (above h k) (above f g) r = simp (h, f) (ap (λ (m : List (List ℕ)). c ∷ m) r)

enter-comm-cons : (a b c : List ℕ) (l : List (List ℕ)) → Stand a b → enter a (enter b l) ≡ enter b (enter a l) → enter a (enter b (c ∷ l)) ≡ enter b (enter a (c ∷ l))
enter-comm-cons a b c l (below d e) r = enter-comm-less a b c l d e (stand b c) (stand a c) r
enter-comm-cons a b c l (level p d) r = rw p
enter-comm-cons a b c l (above d e) r = sym (enter-comm-less b a c l e d (stand a c) (stand b c) (sym r))

-- the order in which keys are entered does not matter
pub enter-comm : (a b : List ℕ) (l : List (List ℕ)) → enter a (enter b l) ≡ enter b (enter a l)
enter-comm a b [] = enter-comm-nil a b (stand a b)
enter-comm a b (c ∷ l) = enter-comm-cons a b c l (stand a b) (enter-comm a b l)

-- the addresses of records
abbrev pub addresses_of : ℕ → ℕ → List (List ℕ) → List (List ℕ)
addresses_of n q rs = addresses q (map (key_of n) rs)

addresses-middle : (n q : ℕ) (xs : List (List ℕ)) (y : List ℕ) (ys : List (List ℕ)) → addresses_of n q (xs ++ y ∷ ys) ≡ enter (address n q y) (addresses_of n q (xs ++ ys))
unfolding addresses
addresses-middle n q [] y ys = refl
addresses-middle n q (x ∷ xs) y ys = ap (enter (address n q x)) (addresses-middle n q xs y ys) ∙ enter-comm (address n q x) (address n q y) (addresses_of n q (xs ++ ys))

enter-first : (n q : ℕ) (k : List ℕ) (ps : List Pair) → Above (address_of n q) k ps → enter k (map (address_of n q) ps) ≡ k ∷ map (address_of n q) ps
unfolding enter
enter-first n q k [] h = refl
enter-first n q k (p ∷ ps) h = rw h.0

-- what the pairs of two rising parts are: they rise, their addresses are those of the records, and
-- they are above what both parts are above
pub record Met (n q : ℕ) (xs ys : List (List ℕ)) (ps : List Pair) : Type 0 where
  pub rise : Rising (address_of n q) ps
  pub addressed : addresses_of n q (xs ++ ys) ≡ map (address_of n q) ps
  pub over : (k : List ℕ) → Above (address n q) k xs → Above (address n q) k ys → Above (address_of n q) k ps

pub met : (n q : ℕ) (xs ys : List (List ℕ)) → Rising (address n q) xs → Rising (address n q) ys → Met n q xs ys (pairs n q xs ys)
unfolding addresses
met n q =
    pairs-ind n q (λ xs ys ps. Rising (address n q) xs → Rising (address n q) ys → Met n q xs ys ps)
    (λ f g. record { rise = tt; addressed = refl; over = λ k u v. tt })
    (λ y ys ps r f g.
    let h = r f g.1 in
    let o = h.over (address n q y) tt g.0 in
    record {
      rise = (o, h.rise);
      addressed = ap (enter (address n q y)) h.addressed ∙ enter-first n q (address n q y) ps o;
      over = λ k u v. (v.0, h.over k u v.1);
    })
    (λ x xs ps r f g.
    let h = r f.1 g in
    let o = h.over (address n q x) f.0 tt in
    record {
      rise = (o, h.rise);
      addressed = ap (enter (address n q x)) h.addressed ∙ enter-first n q (address n q x) ps o;
      over = λ k u v. (u.0, h.over k u.1 v);
    })
    (λ x y xs ys ps l r f g.
    let h = r f.1 g in
    let o = h.over (address n q x) f.0 (l, above-trans (address n q) (address n q x) (address n q y) ys l g.0) in
    record {
      rise = (o, h.rise);
      addressed = ap (enter (address n q x)) h.addressed ∙ enter-first n q (address n q x) ps o;
      over = λ k u v. (u.0, h.over k u.1 v);
    })
    (λ x y xs ys ps e r f g.
    let h = r f.1 g.1 in
    let o = h.over (address n q x) f.0 (rw e g.0) in
    record {
      rise = (o, h.rise);
      addressed =
          ap (enter (address n q x)) (addresses-middle n q xs y ys ∙ ap₂ enter (sym e) h.addressed ∙ enter-first n q (address n q x) ps o)
          ∙ enter-same (address n q x) (map (address_of n q) ps);
      over = λ k u v. (u.0, h.over k u.1 v.1);
    })
    (λ x y xs ys ps l r f g.
    let h = r f g.1 in
    let o = h.over (address n q y) (l, above-trans (address n q) (address n q y) (address n q x) xs l f.0) g.0 in
    record {
      rise = (o, h.rise);
      addressed = addresses-middle n q (x ∷ xs) y ys ∙ ap (enter (address n q y)) h.addressed ∙ enter-first n q (address n q y) ps o;
      over = λ k u v. (v.0, h.over k u v.1);
    })

-- ---- looking an address up

-- the record, and the pair, at address k
unfoldable pub record_for : ℕ → ℕ → List ℕ → List (List ℕ) → Option (List ℕ)
unfolding same
record_for n q k [] = None
record_for n q k (r ∷ rs) = cond (same k (address n q r)) (Some r) (record_for n q k rs)

unfoldable pub pair_for : ℕ → ℕ → List ℕ → List Pair → Option Pair
unfolding same
pair_for n q k [] = None
pair_for n q k (p ∷ ps) = cond (same k (address_of n q p)) (Some p) (pair_for n q k ps)

abbrev pub pair_up : Option (List ℕ) → Option (List ℕ) → Option Pair
pair_up None None = None
pair_up (Some x) None = Some (lhs x)
pair_up None (Some y) = Some (rhs y)
pair_up (Some x) (Some y) = Some (both x y)

pub below_none : (n q : ℕ) (k : List ℕ) (rs : List (List ℕ)) → Above (address n q) k rs → record_for n q k rs ≡ None
unfolding record_for
below_none n q k [] h = refl
below_none n q k (r ∷ rs) h = rw (below-not-same k (address n q r) h.0) (below_none n q k rs h.1)
