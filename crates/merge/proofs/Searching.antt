-- Where a key stands among rising records, by halves: in a rising list all before a record are
-- below it, all after it above. For the proof of `find`. Assumes nothing.
use Rattle.std.specs.declared.cmp.Ordering.TheVariants.{Less, Equal, Greater}
use Rattle.std.specs.Prelude.{None, Option, Some}
use mathlib.Core.Path.{◌≡◌, refl, sym, ap, ◌∙◌, subst}
use Prim.Native.Nat.{ℕ, suc, ◌+◌, ◌<◌, ◌≤◌}
use native.Mathlib.Omega.{arith}
use native.Mathlib.Numerals.{add-one}
use native.Mathlib.Nat.{add-zero, add-suc, suc-add}
use mathlib.Core.List.{List, [], ◌∷◌, ◌++◌}
use mathlib.Core.Bool.{cond, false}
use lib.ListN.{length}
use Rattle.keys.specs.Keys.{order, same}
use Rattle.keys.specs.Laws.{order_trans, order-equal, greater-less, below-not-same, same-is, not_same, less-not-equal}
use Rattle.keys.specs.Lists.{All, all_map}
use Rattle.merge.specs.Records.{record_at, part, key_of}
use Rattle.merge.specs.Laws.{part_none, part-around, part_length}
use Rattle.merge.specs.Sorting.{Rising, sort_key}
use Rattle.merge.specs.Pairs.{position_of}

-- ---- a rising list around one of its elements

-- those before x are below it, those after it above; both lists rise
pub record Around {A : Type 0} (key : A → List ℕ) (xs : List A) (x : A) (ys : List A) : Type 0 where
  pub below : All (λ (y : A). order (key y) (key x) ≡ Less) xs
  pub above : All (λ (y : A). order (key x) (key y) ≡ Less) ys
  pub left : Rising key xs
  pub right : Rising key ys

module _ {A : Type 0} (key : A → List ℕ) where
  -- a key below all of a list is below one of them and all before it
  first_of : (z : A) (xs : List A) (x : A) (ys : List A) → All (λ (y : A). order (key z) (key y) ≡ Less) (xs ++ (x ∷ ys))
      → All (λ (y : A). order (key z) (key y) ≡ Less) xs × (order (key z) (key x) ≡ Less)
  first_of z [] x ys h = (tt, h.0)
  first_of z (w ∷ xs) x ys h = let r = first_of z xs x ys h.1 in ((h.0, r.0), r.1)

  -- a rising list is so around each of its elements
  pub rising-around : (xs : List A) (x : A) (ys : List A) → Rising key (xs ++ (x ∷ ys)) → Around key xs x ys
  rising-around [] x ys h = record { below = tt; above = h.0; left = tt; right = h.1 }
  rising-around (z ∷ xs) x ys h =
      let r = rising-around xs x ys h.1 in
      let f = first_of z xs x ys h.0 in
      record { below = (f.1, r.below); above = r.above; left = (f.0, r.left); right = r.right }

-- ---- a key that is not among some of the records

module _ (n : ℕ) (k : List ℕ) where
  -- records with other keys
  abbrev Without : List (List ℕ) → Type 0
  Without rs = All (λ (r : List ℕ). same k (key_of n r) ≡ false) rs

  -- those without the key are passed over
  pub past : (xs ys : List (List ℕ)) (i : ℕ) → Without xs → position_of n k i (xs ++ ys) ≡ position_of n k (i + length xs) ys
  unfolding position_of
  past [] ys i h = rw add-zero
  past (x ∷ xs) ys i h = rw (h.0, add-suc, ← suc-add) (past xs ys (suc i) h.1)

  -- and where all are, it is absent
  none : (ys : List (List ℕ)) (i : ℕ) → Without ys → position_of n k i ys ≡ None
  unfolding position_of
  none [] i h = refl
  none (y ∷ ys) i h = rw h.0 (none ys (suc i) h.1)

  -- those without the key at the end are left off
  pub until : (xs ys : List (List ℕ)) (i : ℕ) → Without ys → position_of n k i (xs ++ ys) ≡ position_of n k i xs
  unfolding position_of
  until [] ys i h = none ys i h
  until (x ∷ xs) ys i h = ap (cond (same k (key_of n x)) (Some i)) (until xs ys (suc i) h)

  -- a record below the key has another
  other-below : (r : List ℕ) → order (key_of n r) k ≡ Less → same k (key_of n r) ≡ false
  other-below r h = not_same k (key_of n r) (λ e. less-not-equal (key_of n r) k h (sym e))

  -- those below or above a record that is below or above the key, or at it
  pub all-below : (x : List ℕ) (rs : List (List ℕ)) → order (key_of n x) k ≡ Less → All (λ (r : List ℕ). order (key_of n r) (key_of n x) ≡ Less) rs → Without rs
  all-below x rs h f = all_map rs (λ r l. other-below r (order_trans (key_of n r) (key_of n x) k l h)) f

  pub all_above : (x : List ℕ) (rs : List (List ℕ)) → order k (key_of n x) ≡ Less → All (λ (r : List ℕ). order (key_of n x) (key_of n r) ≡ Less) rs → Without rs
  all_above x rs h f = all_map rs (λ r l. below-not-same k (key_of n r) (order_trans k (key_of n x) (key_of n r) h l)) f

-- ---- a turn of the search, in the indices that the code has

-- the records lo .. hi rise, and the key is among them where it is to be found
pub record Searched (n : ℕ) (k : List ℕ) (ws : List ℕ) (answer : Option ℕ) (lo hi : ℕ) : Type 0 where
  pub rising : Rising (sort_key n None) (part n ws lo hi)
  pub finds : position_of n k lo (part n ws lo hi) ≡ answer

module _ (n : ℕ) (k : List ℕ) (ws : List ℕ) (answer : Option ℕ) (lo hi : ℕ) (s : Searched n k ws answer lo hi) where
  -- no record is left
  pub search-end : hi ≤ lo → None ≡ answer
  unfolding position_of
  search-end h = sym (ap (position_of n k lo) (part_none n ws lo hi h)) ∙ s.finds

  module _ (mid : ℕ) (h : lo ≤ mid) (l : mid < hi) where
    -- the records before and after the middle one
    halves : Around (sort_key n None) (part n ws lo mid) (record_at n ws mid) (part n ws (mid + 1) hi)
    halves = rising-around (sort_key n None) _ _ _ (subst (Rising (sort_key n None)) (part-around n ws lo mid hi h l) s.rising)

    -- the answer, looked for around it
    found_from : position_of n k lo (part n ws lo mid ++ (record_at n ws mid ∷ part n ws (mid + 1) hi)) ≡ answer
    found_from = ap (position_of n k lo) (sym (part-around n ws lo mid hi h l)) ∙ s.finds

    -- its index
    up_to : lo + length (part n ws lo mid) ≡ mid
    up_to = let e = part_length n ws lo mid in omega arith

    -- what is to be found is, where no record before mid has the key, from mid on
    from-mid : Without n k (part n ws lo mid) → position_of n k mid (record_at n ws mid ∷ part n ws (mid + 1) hi) ≡ answer
    from-mid f =
        ap (λ (i : ℕ). position_of n k i (record_at n ws mid ∷ part n ws (mid + 1) hi)) (sym up_to)
        ∙ sym (past n k (part n ws lo mid) (record_at n ws mid ∷ part n ws (mid + 1) hi) lo f)
        ∙ found_from

    -- it is below the key: go on after it
    pub search-right : order (key_of n (record_at n ws mid)) k ≡ Less → Searched n k ws answer (mid + 1) hi
    unfolding position_of
    search-right e = record {
      rising = halves.right;
      finds = rw (other-below n k (record_at n ws mid) e, ← add-one mid) at (from-mid (all-below n k (record_at n ws mid) (part n ws lo mid) e halves.below));
    }

    -- it is above the key: go on before it
    pub search-left : order (key_of n (record_at n ws mid)) k ≡ Greater → Searched n k ws answer lo mid
    search-left e =
        let g = greater-less (key_of n (record_at n ws mid)) k e in
        record {
          rising = halves.left;
          finds = sym (until n k (part n ws lo mid) (record_at n ws mid ∷ part n ws (mid + 1) hi) lo (below-not-same k (key_of n (record_at n ws mid)) g, all_above n k (record_at n ws mid) (part n ws (mid + 1) hi) g halves.above)) ∙ found_from;
        }

    -- it has the key
    pub search-here : order (key_of n (record_at n ws mid)) k ≡ Equal → Some mid ≡ answer
    unfolding position_of
    search-here e =
        let d = order-equal (key_of n (record_at n ws mid)) k e in
        rw (same-is k (key_of n (record_at n ws mid)) (sym d)) at (from-mid (all_map (part n ws lo mid) (λ r l. other-below n k r (subst (λ (m : List ℕ). order (key_of n r) m ≡ Less) d l)) halves.below))
