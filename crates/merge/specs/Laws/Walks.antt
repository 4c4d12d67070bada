-- The records that words hold whole, and the pairs of two parts by their first records: for the
-- proofs of a walk along both. Assumes nothing.
use Rattle.std.specs.Iterator.{MakesProgress, item_count}
use Rattle.std.specs.declared.cmp.Ordering.{Ordering}
use Rattle.std.specs.declared.cmp.Ordering.TheVariants.{Less, Equal, Greater}
use Rattle.std.specs.Prelude.{◌≡◌, refl, ℕ, zero, suc, ◌+◌, ◌-◌, ◌*◌, ◌/◌, ◌<◌, ◌≤◌, Bool, true, List, [], ◌∷◌, ◌++◌, length, take, drop, Some}
use Rattle.std.proofs.Common.{le_refl, sym, ap, ap₂, ◌∙◌, arith, add_comm, drop-drop, drop_at, take_at, length-drop, length-append, suc-mul, zero-mul}
use Rattle.std.proofs.Math.Nat.{div-eq_of_lt, add-div_left}
use Rattle.keys.specs.Keys.{order}
use Rattle.merge.specs.Records.{capacity, record_at, counted, part, flat, records, finite_record}
use Rattle.merge.specs.Laws.Records.{part_none, part-whole, part_length, fewer-records, capacity-room, WholeRecords}
use Rattle.merge.specs.Laws.Stores.{part-flat}
use Rattle.merge.specs.Merging.{into, merged}
use Rattle.merge.specs.Sorting.{choose, sort_key}
use Rattle.merge.specs.Pairs.{Pair, lhs, rhs, both, by_order, pairs_with, pairs, unpaired_count}
use Rattle.merge.specs.declared.record.Record.{Record}
use Rattle.merge.specs.declared.pairs.Pairs.{Pairs}
use Rattle.merge.specs.declared.pairs.Pair as declared
use Rattle.merge.specs.declared.pairs.Pair.TheVariants as item
use Rattle.merge.specs.Walks.{Finite, InPair, Whole, pairs_left, records_of}

-- ---- walks

-- an item leaves fewer
pub yields-one : {S A B : Type 0} (rest : S → List B) (s t : S) (r : A) (x : B) → rest s ≡ x ∷ rest t → MakesProgress (λ (s : S). Unit {0}) (item_count rest) s (Some r) t
yields-one rest s t r x e = record { on = λ f. (tt, tt, let l = ap length e in omega arith); keeps = tt; rests = λ f. tt }

-- ---- the records that words hold whole

-- there is none in fewer words than a record has
pub records-none : (n : ℕ) (ws : List ℕ) → length ws < n + 2 → records n ws ≡ []
unfolding records capacity
records-none n ws h = part_none n ws 0 (length ws / (n + 2)) (let z = div-eq_of_lt {n = length ws} {m = n + 2} h in omega arith)

-- records one further
counted-drop : (n : ℕ) (ws : List ℕ) (i c : ℕ) → counted n ws (suc i) c ≡ counted n (drop (n + 2) ws) i c
unfolding counted record_at
counted-drop n ws i zero = refl
counted-drop n ws i (suc c) =
    ap₂ (λ (r : List ℕ) (rs : List (List ℕ)). r ∷ rs)
    (ap (take (n + 2)) (ap (λ (m : ℕ). drop m ws) (suc-mul i (n + 2) ∙ add_comm (i * (n + 2)) (n + 2)) ∙ sym (drop-drop (i * (n + 2)) (n + 2) ws)))
    (counted-drop n ws (suc i) c)

-- and else there is a first one
pub records-some : (n : ℕ) (ws : List ℕ) → n + 2 ≤ length ws → records n ws ≡ take (n + 2) ws ∷ records n (drop (n + 2) ws)
unfolding records capacity part counted record_at
records-some n ws h =
    let l : length ws ≡ (n + 2) + length (drop (n + 2) ws) = let d = length-drop (n + 2) ws in omega arith in
    let q : length ws / (n + 2) ≡ length (drop (n + 2) ws) / (n + 2) + 1 = ap (λ (m : ℕ). m / (n + 2)) l ∙ add-div_left (length (drop (n + 2) ws)) (omega arith) in
    let z : length ws / (n + 2) - 0 ≡ suc (length (drop (n + 2) ws) / (n + 2) - 0) = omega arith in
    rw z
    (ap₂ (λ (r : List ℕ) (rs : List (List ℕ)). r ∷ rs) (ap (λ (m : ℕ). take (n + 2) (drop m ws)) (zero-mul (n + 2))) (counted-drop n ws 0 (length (drop (n + 2) ws) / (n + 2) - 0)))

-- no more than there are words
pub records-few : (n : ℕ) (ws : List ℕ) → length (records n ws) ≤ length ws
unfolding records
records-few n ws = omega (arith, part_length n ws 0 (capacity n ws), fewer-records n (capacity n ws), capacity-room n (capacity n ws) ws (le_refl _))

pub records-whole : (n : ℕ) (ws : List ℕ) → WholeRecords n (records n ws)
unfolding records
records-whole n ws = part-whole n ws 0 (capacity n ws) (capacity-room n (capacity n ws) ws (le_refl _))

-- those of records one after the other
pub records-flat : (n : ℕ) (rs : List (List ℕ)) → WholeRecords n rs → records n (flat rs) ≡ rs
unfolding flat
records-flat n [] w = records-none n [] (omega arith)
records-flat n (r ∷ rs) w =
    records-some n (r ++ flat rs) (let l = length-append r (flat rs) in omega (arith, w.0))
    ∙ ap₂ (λ (x : List ℕ) (xs : List (List ℕ)). x ∷ xs) (take_at r (flat rs) (n + 2) w.0) (ap (records n) (drop_at r (flat rs) (n + 2) w.0) ∙ records-flat n rs w.1)

-- the records i .. e of a store, by their words
pub records-part : (n i e : ℕ) (ws xs : List ℕ) → e * (n + 2) ≤ length ws → xs ≡ take ((e - i) * (n + 2)) (drop (i * (n + 2)) ws) → records n xs ≡ part n ws i e
records-part n i e ws xs h x = ap (records n) (x ∙ sym (part-flat n ws i e)) ∙ records-flat n (part n ws i e) (part-whole n ws i e h)

-- ---- the pairs of two parts

pub pairs-none : (n q : ℕ) → pairs n q [] [] ≡ []
unfolding pairs
pairs-none n q = refl

pub pairs-first : (n q : ℕ) (x : List ℕ) (xs : List (List ℕ)) → pairs n q (x ∷ xs) [] ≡ lhs x ∷ pairs n q xs []
unfolding pairs pairs_with
pairs-first n q x xs = refl

pub pairs-second : (n q : ℕ) (y : List ℕ) (ys : List (List ℕ)) → pairs n q [] (y ∷ ys) ≡ rhs y ∷ pairs n q [] ys
unfolding pairs
pairs-second n q y ys = refl

-- both parts have a record left: the order of their keys without bit q decides
pub pairs-next : (n q : ℕ) (x y : List ℕ) (xs ys : List (List ℕ)) (o : Ordering) → o ≡ order (sort_key n (Some q) x) (sort_key n (Some q) y)
    → pairs n q (x ∷ xs) (y ∷ ys) ≡ by_order o (lhs x ∷ pairs n q xs (y ∷ ys)) (both x y ∷ pairs n q xs ys) (rhs y ∷ pairs n q (x ∷ xs) ys)
unfolding pairs pairs_with
pairs-next n q x y xs ys o e = rw e

-- ---- two lists by key

module _ {A : Type 0} (first : A → A → Bool) where
  pub merged-none : merged first [] [] ≡ []
  unfolding merged
  merged-none = refl

  pub merged-first : (x : A) (xs : List A) → merged first (x ∷ xs) [] ≡ x ∷ merged first xs []
  unfolding merged into
  merged-first x xs = refl

  pub merged-second : (y : A) (ys : List A) → merged first [] (y ∷ ys) ≡ y ∷ merged first [] ys
  unfolding merged
  merged-second y ys = refl

  pub merged-next : (x y : A) (xs ys : List A) (b : Bool) → b ≡ first x y → merged first (x ∷ xs) (y ∷ ys) ≡ choose b (x ∷ merged first xs (y ∷ ys)) (y ∷ merged first (x ∷ xs) ys)
  unfolding merged into
  merged-next x y xs ys b e = rw e

-- ---- pairs that are all of partners

-- where every record has a partner, both parts' first records are partners
pub pairs-partners : (n q : ℕ) (x y : List ℕ) (xs ys : List (List ℕ)) → unpaired_count (pairs n q (x ∷ xs) (y ∷ ys)) ≡ 0 → pairs n q (x ∷ xs) (y ∷ ys) ≡ both x y ∷ pairs n q xs ys
pairs-partners n q x y xs ys z = go _ (pairs-next n q x y xs ys _ refl)
  where
    go : (o : Ordering) → pairs n q (x ∷ xs) (y ∷ ys) ≡ by_order o (lhs x ∷ pairs n q xs (y ∷ ys)) (both x y ∷ pairs n q xs ys) (rhs y ∷ pairs n q (x ∷ xs) ys) → pairs n q (x ∷ xs) (y ∷ ys) ≡ both x y ∷ pairs n q xs ys
    go Less e = absurd (let l = ap unpaired_count e in omega arith)
    go Equal e = e
    go Greater e = absurd (let l = ap unpaired_count e in omega arith)

-- and none that is left is without one
pub partners-left : (p : Pair) (ps : List Pair) → unpaired_count (p ∷ ps) ≡ 0 → unpaired_count ps ≡ 0
partners-left (lhs x) ps z = omega (arith, z)
partners-left (rhs y) ps z = omega (arith, z)
partners-left (both x y) ps z = z

-- the pairs of two parts, by what a walk holds of them
pub pairs-of : (p : Pairs) (n q : ℕ) (xs ys : List (List ℕ)) → (p.n ≡ n) × (p.q ≡ q) → records n p.lhs.now ≡ xs → records n p.rhs.now ≡ ys → pairs_left p ≡ pairs n q xs ys
pairs-of p n q xs ys e f g = ap₂ (λ (m k : ℕ). pairs m k (records m p.lhs.now) (records m p.rhs.now)) e.0 e.1 ∙ ap₂ (pairs n q) f g

-- ---- an item's own width

-- a record among those of n key words has n key words
pub own-width : (n : ℕ) (x : Record) → length x.words.now ≡ n + 2 → x.n ≡ n
own-width n x w = let l = x.whole in omega (arith, w)

pub record-width : (n : ℕ) (x : Record) → Whole n x.words.now → x.n ≡ n
record-width n x w = own-width n x w.0

pub record-finite : (n : ℕ) (x : Record) → Whole n x.words.now → finite_record x.n x.words.now ≡ true
record-finite n x w = ap (λ (m : ℕ). finite_record m x.words.now) (record-width n x w) ∙ w.1

pub pair-finite : (n : ℕ) (p : declared.Pair) → InPair (Whole n) (records_of p) → Finite p
pair-finite n (item.Lhs x) w = record-finite n x w
pair-finite n (item.Rhs y) w = record-finite n y w
pair-finite n (item.Both x y) w = (record-finite n x w.0, record-finite n y w.1)
