-- The two sides of records by their bit q: of one record more, and how many there are; and a
-- repartition that was written and is read back. For the proofs of `count_set`, `merge_distinct`
-- and `repartition`, and of what calls them. Assumes nothing.
use Rattle.std.specs.Prelude.{◌≡◌, Bool, not, ℕ, suc, ◌+◌, ◌*◌, ◌/◌, ◌≤◌, ◌<◌, drop, None}
use Rattle.std.proofs.Math.Path.{refl, ap}
use Rattle.std.proofs.Common.{sym, ◌∙◌, length-append}
use mathlib.Core.List.{List, [], ◌∷◌, ◌++◌, Permᴰ}
use Rattle.std.proofs.Math.Bool.{true, false, cond, beq}
use Rattle.std.proofs.lemmas.Bool.{false≢true}
use native.Mathlib.Omega.{arith}
use Rattle.std.proofs.Math.ListN.{length}
use Rattle.keys.specs.Keys.{bit_at}
use Rattle.keys.specs.Lists.{All}
use Rattle.merge.specs.Records.{record_at, part, record_bit}
use Rattle.merge.specs.Laws.Records.{part-some, part_none, record-bit}
use Rattle.merge.specs.Sorting.{Rising, choose, only, sort_key, side, repartitioned}
use Rattle.merge.specs.Laws.Sorting.{all-only, only-rising, sorted-perm, split-perm, perm-length}

module _ {A : Type 0} (t : A → Bool) where
  -- one where it passes
  abbrev one : A → ℕ
  one x = cond (t x) 1 0

  -- how many pass a test: the first, if it does, and those after it
  count-cons : (x : A) (xs : List A) → length (only t (x ∷ xs)) ≡ one x + length (only t xs)
  unfolding only
  count-cons x xs = go (t x)
    where
      go : (b : Bool) → length (choose b (x ∷ only t xs) (only t xs)) ≡ cond b 1 0 + length (only t xs)
      go true = omega arith
      go false = omega arith

  -- the same of a list in another order
  count-perm : {xs ys : List A} → Permᴰ xs ys → length (only t xs) ≡ length (only t ys)
  count-perm Permᴰ.nil = refl
  count-perm (Permᴰ.cons {a = a} {b = b} {l₁ = k} {l₂ = l} e p) = omega (arith, count-perm p, count-cons a k, count-cons b l, ap one e)
  count-perm (Permᴰ.swap {a = a} {b = b} {a' = a'} {b' = b'} {l = l} d e) =
      omega (arith, count-cons a (b ∷ l), count-cons b l, count-cons a' (b' ∷ l), count-cons b' l, ap one d, ap one e)
  count-perm (Permᴰ.trans p q) = count-perm p ∙ count-perm q

-- ---- one side

beq-self : (b : Bool) → beq b b ≡ true
beq-self true = refl
beq-self false = refl

beq-not : (b : Bool) → beq (not b) b ≡ false
beq-not true = refl
beq-not false = refl

beq-true : (a b : Bool) → beq a b ≡ true → a ≡ b
beq-true true true e = refl
beq-true true false e = absurd (false≢true e)
beq-true false true e = absurd (false≢true e)
beq-true false false e = refl

module _ (n q : ℕ) (b : Bool) where
  -- of no record; of one more
  pub side-none : side n q b [] ≡ []
  unfolding side only
  side-none = refl

  pub side-some : (r : List ℕ) (rs : List (List ℕ)) → side n q b (r ∷ rs) ≡ choose (beq (record_bit n q r) b) (r ∷ side n q b rs) (side n q b rs)
  unfolding side only
  side-some r rs = refl

  -- how many those are
  pub side-count : (r : List ℕ) (rs : List (List ℕ)) → length (side n q b (r ∷ rs)) ≡ cond (beq (record_bit n q r) b) 1 0 + length (side n q b rs)
  unfolding side
  side-count r rs = count-cons (λ (r : List ℕ). beq (record_bit n q r) b) r rs

  -- what holds of every record holds of those of a side
  pub all-side : (P : List ℕ → Type 0) (rs : List (List ℕ)) → All P rs → All P (side n q b rs)
  unfolding side
  all-side P rs h = all-only P _ rs h

  pub side-rising : (key : List ℕ → List ℕ) (rs : List (List ℕ)) → Rising key rs → Rising key (side n q b rs)
  unfolding side
  side-rising key rs h = only-rising key _ rs h

  pub side-append : (xs ys : List (List ℕ)) → side n q b (xs ++ ys) ≡ side n q b xs ++ side n q b ys
  unfolding side only
  side-append [] ys = refl
  side-append (x ∷ xs) ys = go (beq (record_bit n q x) b) (side-append xs ys)
    where
      go : (t : Bool) → side n q b (xs ++ ys) ≡ side n q b xs ++ side n q b ys
          → choose t (x ∷ side n q b (xs ++ ys)) (side n q b (xs ++ ys)) ≡ choose t (x ∷ side n q b xs) (side n q b xs) ++ side n q b ys
      go true e = ap (λ (l : List (List ℕ)). x ∷ l) e
      go false e = e

  -- records that are all on one side: that side has all of them, and the other none
  pub side-whole : (rs : List (List ℕ)) → All (λ r. record_bit n q r ≡ b) rs → side n q b rs ≡ rs
  side-whole [] h = side-none
  side-whole (r ∷ rs) h = side-some r rs ∙ rw (ap (λ (t : Bool). beq t b) h.0 ∙ beq-self b) (ap (λ (l : List (List ℕ)). r ∷ l) (side-whole rs h.1))

  pub side-empty : (rs : List (List ℕ)) → All (λ r. record_bit n q r ≡ not b) rs → side n q b rs ≡ []
  side-empty [] h = side-none
  side-empty (r ∷ rs) h = side-some r rs ∙ rw (ap (λ (t : Bool). beq t b) h.0 ∙ beq-not b) (side-empty rs h.1)

  -- no side has more than there are, and one that has as many has all of them
  pub side-fewer : (rs : List (List ℕ)) → length (side n q b rs) ≤ length rs
  side-fewer [] = rw side-none (omega arith)
  side-fewer (r ∷ rs) = rw (side-some r rs) (go (beq (record_bit n q r) b) (side-fewer rs))
    where
      go : (t : Bool) → length (side n q b rs) ≤ length rs → length (choose t (r ∷ side n q b rs) (side n q b rs)) ≤ suc (length rs)
      go true h = omega arith
      go false h = omega arith

  pub side-full : (rs : List (List ℕ)) → length (side n q b rs) ≡ length rs → side n q b rs ≡ rs
  side-full [] h = side-none
  side-full (r ∷ rs) h = rw (side-some r rs) (go (beq (record_bit n q r) b) (ap length (sym (side-some r rs)) ∙ h) (λ e. side-full rs e))
    where
      go : (t : Bool) → length (choose t (r ∷ side n q b rs) (side n q b rs)) ≡ suc (length rs) → (length (side n q b rs) ≡ length rs → side n q b rs ≡ rs)
          → choose t (r ∷ side n q b rs) (side n q b rs) ≡ r ∷ rs
      go true e f = ap (λ (l : List (List ℕ)). r ∷ l) (f (omega arith))
      go false e f = absurd (let k = side-fewer rs in omega arith)

-- both sides are all
pub side-both : (n q : ℕ) (rs : List (List ℕ)) → length (side n q false rs) + length (side n q true rs) ≡ length rs
unfolding side
side-both n q rs = (simp length-append at (perm-length (split-perm (record_bit n q) rs)))

-- the side of the records r .. e, by the bit of the first
pub side-next : (n q : ℕ) (t : Bool) (ws : List ℕ) (r e : ℕ) → r < e → q / 64 < n → (b : Bool) → b ≡ bit_at q (drop (r * (n + 2)) ws)
    → side n q t (part n ws r e) ≡ choose (beq b t) (record_at n ws r ∷ side n q t (part n ws (r + 1) e)) (side n q t (part n ws (r + 1) e))
side-next n q t ws r e h l b w =
    let rest = side n q t (part n ws (r + 1) e) in
    ap (side n q t) (part-some n ws r e h)
    ∙ side-some n q t (record_at n ws r) (part n ws (r + 1) e)
    ∙ ap (λ (s : Bool). choose (beq s t) (record_at n ws r ∷ rest) rest) (sym (w ∙ record-bit n q r ws l))

pub side-end : (n q : ℕ) (t : Bool) (ws : List ℕ) (r e : ℕ) → e ≤ r → side n q t (part n ws r e) ≡ []
side-end n q t ws r e h = ap (side n q t) (part_none n ws r e h) ∙ side-none n q t

-- ---- a repartition

-- each has the records of its side
pub repartition-count : (n q : ℕ) (b : Bool) (rs : List (List ℕ)) → length (repartitioned n q b rs) ≡ length (side n q b rs)
unfolding repartitioned side
repartition-count n q b rs = count-perm (λ (r : List ℕ). beq (record_bit n q r) b) (sorted-perm (sort_key n None) rs)
