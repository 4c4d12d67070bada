-- Records in a store and the store's words: a part's words are a run of the store's, records laid
-- over their own places change nothing, and what a run of stores leaves after it. For proofs of
-- calls that write a store where they read it. Assumes nothing.
use Rattle.std.specs.Prelude.{◌≡◌, refl, ℕ, zero, suc, ◌+◌, ◌-◌, ◌*◌, ◌≤◌, List, [], ◌∷◌, ◌++◌, length, take, drop, set}
use Rattle.std.proofs.Common.{sym, ap, ◌∙◌, arith, add-one, suc-mul, zero-mul, add_comm, add-suc, suc-add, drop-drop, drop-set-lt, take-add}
use Rattle.std.proofs.lemmas.List.Edits.{sets}
use Rattle.std.specs.Float.{binary64}
use Rattle.std.specs.Float.Ieee.{to_bits}
use Rattle.keys.specs.Laws.{sets-append}
use Rattle.merge.specs.Records.{record_at, counted, part, flat, Entry, encode}

-- one record more
pub next_place : (n k : ℕ) → (k + 1) * (n + 2) ≡ k * (n + 2) + (n + 2)
next_place n k = rw add-one (suc-mul k (n + 2))

-- a part's words
counted-flat : (n : ℕ) (ws : List ℕ) (i c : ℕ) → flat (counted n ws i c) ≡ take (c * (n + 2)) (drop (i * (n + 2)) ws)
unfolding counted flat record_at
counted-flat n ws i zero = rw zero-mul
counted-flat n ws i (suc c) =
    ap (λ (l : List ℕ). take (n + 2) (drop (i * (n + 2)) ws) ++ l) (counted-flat n ws (suc i) c)
    ∙ rw (suc-mul i (n + 2), ← drop-drop (n + 2) (i * (n + 2)) ws, suc-mul c (n + 2), add_comm (c * (n + 2)) (n + 2)) (sym (take-add (n + 2) (c * (n + 2)) (drop (i * (n + 2)) ws)))

pub part-flat : (n : ℕ) (ws : List ℕ) (i e : ℕ) → flat (part n ws i e) ≡ take ((e - i) * (n + 2)) (drop (i * (n + 2)) ws)
unfolding part
part-flat n ws i e = counted-flat n ws i (e - i)

-- what stands after a run of stores is as it was
pub drop-sets : (l : List ℕ) (i : ℕ) (a : List ℕ) (k : ℕ) → i + length a ≤ k → drop k (sets l i a) ≡ drop k l
drop-sets l i [] k h = refl
drop-sets l i (x ∷ a) k h = drop-sets (set l i x) (suc i) a k (omega (arith, add-suc i (length a), suc-add i (length a))) ∙ drop-set-lt k l i x (omega (arith, add-suc i (length a)))

-- two stores with the same words from record i on have the same records there
pub record_same : (n i : ℕ) (ws us : List ℕ) → drop (i * (n + 2)) ws ≡ drop (i * (n + 2)) us → record_at n ws i ≡ record_at n us i
unfolding record_at
record_same n i ws us e = ap (take (n + 2)) e

-- an entry is its key, and two patterns stored after it
pub entry-sets : (d d' : List ℕ) (e : Entry) (to n re im : ℕ) → d' ≡ sets d to e.key → length e.key ≡ n → re ≡ to_bits binary64 e.amp.re → im ≡ to_bits binary64 e.amp.im
    → set (set d' (to + n) re) (to + n + 1) im ≡ sets d to (encode e)
unfolding encode
entry-sets d d' e to n re im h l x y = rw (h, ← l, add-one, x, y) (sym (sets-append d to e.key (to_bits binary64 e.amp.re ∷ to_bits binary64 e.amp.im ∷ [])))

-- two stores with the same words from record i on have the same ones after it
pub after-record : (n i : ℕ) (ws us : List ℕ) → drop (i * (n + 2)) ws ≡ drop (i * (n + 2)) us → drop ((i + 1) * (n + 2)) ws ≡ drop ((i + 1) * (n + 2)) us
after-record n i ws us e =
    rw (next_place n i, ← drop-drop (n + 2) (i * (n + 2)) ws, ← drop-drop (n + 2) (i * (n + 2)) us) (ap (drop (n + 2)) e)

-- records written from record k on: the first, and the others after it
pub sets-record : (n : ℕ) (ws : List ℕ) (k : ℕ) (r : List ℕ) (rs : List (List ℕ)) → length r ≡ n + 2
    → sets ws (k * (n + 2)) (flat (r ∷ rs)) ≡ sets (sets ws (k * (n + 2)) r) ((k + 1) * (n + 2)) (flat rs)
unfolding flat
sets-record n ws k r rs l = rw (next_place n k) (sets-append ws (k * (n + 2)) r (flat rs) ∙ ap (λ (m : ℕ). sets (sets ws (k * (n + 2)) r) (k * (n + 2) + m) (flat rs)) l)

pub sets-no-records : (ws : List ℕ) (k : ℕ) → sets ws k (flat []) ≡ ws
unfolding flat
sets-no-records ws k = refl
