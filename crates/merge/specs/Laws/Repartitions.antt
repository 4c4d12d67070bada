-- What a repartition by qubit q keeps and gives: the same records, so the same amplitude at every
-- key; each part rises; bit q is clear in part 0 and set in part 1. Assumes nothing.
use Rattle.std.specs.Prelude.{◌≡◌, refl, ℕ, ◌+◌, Bool, true, false, length, None}
use Rattle.std.proofs.Common.{sym, ap, ◌∙◌, length-append}
use mathlib.Core.List.Permᴰ
use mathlib.Core.List.{List, [], ◌∷◌, ◌++◌, Permᴰ}
use Rattle.std.specs.Bool.{beq}
use Rattle.std.proofs.lemmas.Bool.{false≢true}
use Rattle.keys.specs.Lists.{All, all_map}
use Rattle.merge.specs.Records.{key_of, record_bit, decode, entries, at, flat}
use Rattle.merge.specs.Sorting.{Rising, sort_key, only, sorted, side, repartitioned, parted_words}
use Rattle.merge.specs.Laws.Sorting.{Distinct, sorted-perm, split-perm, perm-length, all-sorted, all-only, only-passes, only-rising, sorted-rising}
use Rattle.merge.specs.Laws.Entries.{key_in, all-keys, at-perm}

-- the records by their keys
abbrev pub by_key : ℕ → List ℕ → List ℕ
by_key n r = sort_key n None r

-- both new parts together are the records, in another order
pub repartition-perm : (n q : ℕ) (rs : List (List ℕ)) → Permᴰ (repartitioned n q false rs ++ repartitioned n q true rs) rs
unfolding repartitioned side
repartition-perm n q rs = Permᴰ.trans (split-perm (record_bit n q) (sorted (by_key n) rs)) (sorted-perm (by_key n) rs)

pub repartition-length : (n q : ℕ) (rs : List (List ℕ)) → length (repartitioned n q false rs) + length (repartitioned n q true rs) ≡ length rs
repartition-length n q rs = sym (length-append (repartitioned n q false rs) (repartitioned n q true rs)) ∙ perm-length (repartition-perm n q rs)

-- what holds of every record holds of every record of a new part
pub repartition-all : (P : List ℕ → Type 0) (n q : ℕ) (b : Bool) (rs : List (List ℕ)) → All P rs → All P (repartitioned n q b rs)
unfolding repartitioned side
repartition-all P n q b rs h = all-only P (λ r. beq (record_bit n q r) b) (sorted (by_key n) rs) (all-sorted P (by_key n) rs h)

-- each new part rises
pub repartition-rises : (n q : ℕ) (b : Bool) (rs : List (List ℕ)) → Distinct (by_key n) rs → Rising (by_key n) (repartitioned n q b rs)
unfolding repartitioned side
repartition-rises n q b rs d = only-rising (by_key n) (λ r. beq (record_bit n q r) b) (sorted (by_key n) rs) (sorted-rising (by_key n) rs d)

-- bit q is right on both sides
pub repartition-side : (n q : ℕ) (b : Bool) (rs : List (List ℕ)) → All (λ r. record_bit n q r ≡ b) (repartitioned n q b rs)
unfolding repartitioned side
repartition-side n q b rs = all_map (only (λ r. beq (record_bit n q r) b) (sorted (by_key n) rs)) (λ r e. is (record_bit n q r) b e) (only-passes (λ r. beq (record_bit n q r) b) (sorted (by_key n) rs))
  where
    is : (a b : Bool) → beq a b ≡ true → a ≡ b
    is true true e = refl
    is true false e = absurd (false≢true e)
    is false true e = absurd (false≢true e)
    is false false e = refl

-- ---- the same amplitude at every key

entries-perm : (n : ℕ) {a b : List (List ℕ)} → Permᴰ a b → Permᴰ (entries n a) (entries n b)
entries-perm n Permᴰ.nil = Permᴰ.nil
entries-perm n (Permᴰ.cons e p) = Permᴰ.cons (ap (decode n) e) (entries-perm n p)
entries-perm n (Permᴰ.swap d e) = Permᴰ.swap (ap (decode n) d) (ap (decode n) e)
entries-perm n (Permᴰ.trans p q) = Permᴰ.trans (entries-perm n p) (entries-perm n q)

pub entries-distinct : (n : ℕ) (rs : List (List ℕ)) → Distinct (by_key n) rs → Distinct key_in (entries n rs)
unfolding decode
entries-distinct n [] d = tt
entries-distinct n (r ∷ rs) d = (all-keys (λ k. key_of n r ≡ k → ⊥) n rs d.0, entries-distinct n rs d.1)

pub repartition-at : (n q : ℕ) (rs : List (List ℕ)) → Distinct (by_key n) rs → (k : List ℕ) → at k (entries n (repartitioned n q false rs ++ repartitioned n q true rs)) ≡ at k (entries n rs)
repartition-at n q rs d k =
    sym (at-perm k (entries-perm n (Permᴰ.symm (repartition-perm n q rs))) (entries-distinct n rs d))

-- ---- as words

pub parted-words : (n q : ℕ) (rs : List (List ℕ)) → parted_words n q rs ≡ flat (repartitioned n q false rs) ++ flat (repartitioned n q true rs)
unfolding parted_words
parted-words n q rs = refl
