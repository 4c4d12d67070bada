-- Runs of words stored over a list from an index on (`lib.Seq`'s `sets`), as copies leave them.
-- Assumes nothing.
use Rattle.std.specs.Prelude.{◌≡◌, refl, ℕ, zero, suc, ◌+◌, ◌-◌, ◌/◌, ◌<◌, ◌≤◌, List, [], ◌∷◌, ◌++◌, length, get_or, set, take, drop}
use Rattle.std.proofs.Common.{subst, sym, ap, ap₂, ◌∙◌, add-suc, suc-add, add-zero, zero-add, arith, add-one, append-nil, append_assoc, length-set, take-append-drop, drop_of_length-le, length-drop, length-take, drop-cons, get_or-set_same, get_or-set_other, set-set, take_all, get_or-drop, drop-drop}
use borrow.Rule.Slice.PartMut.{put_mid}
use Rattle.keys.specs.Keys.{toggle}
use Rattle.std.proofs.lemmas.List.Edits.{sets, sets-eq}
use Rattle.std.proofs.lemmas.List.{set_comm, take-set-le, drop-set-add}
use Rattle.std.proofs.Math.Seq.{length-sets}

-- two runs one after the other
pub sets-append : (l : List ℕ) (i : ℕ) (a b : List ℕ) → sets l i (a ++ b) ≡ sets (sets l i a) (i + length a) b
sets-append l i [] b = rw add-zero
sets-append l i (x ∷ a) b = rw (add-suc, ← suc-add) (sets-append (set l i x) (suc i) a b)

-- a store below a run commutes with it
pub set-sets : (l : List ℕ) (i : ℕ) (a : List ℕ) (k v : ℕ) → k < i → set (sets l i a) k v ≡ sets (set l k v) i a
set-sets l i [] k v h = refl
set-sets l i (x ∷ a) k v h =
    set-sets (set l i x) (suc i) a k v (omega arith)
    ∙ ap (λ (m : List ℕ). sets m (suc i) a) (set_comm l i k x v (λ e. omega arith))

-- two runs in different places commute
pub sets-comm : (l : List ℕ) (i : ℕ) (a : List ℕ) (j : ℕ) (b : List ℕ) → i + length a ≤ j → sets (sets l j b) i a ≡ sets (sets l i a) j b
sets-comm l i [] j b h = refl
sets-comm l i (x ∷ a) j b h =
    ap (λ (m : List ℕ). sets m (suc i) a) (set-sets l j b i x (omega (arith, add-suc i (length a))))
    ∙ sets-comm (set l i x) (suc i) a j b (omega (arith, add-suc i (length a), suc-add i (length a)))

pub sets-tail : (l : List ℕ) (at i : ℕ) (a : List ℕ) → at ≤ length l → take at l ++ sets (drop at l) i a ≡ sets l (at + i) a
sets-tail l at i [] h = take-append-drop at l
sets-tail l at i (x ∷ a) h =
    let m = set l (at + i) x in
    ap₂ (λ (u v : List ℕ). u ++ sets v (suc i) a) (sym (take-set-le at l (at + i) x (omega arith))) (sym (drop-set-add at l i x))
    ∙ sets-tail m at (suc i) a (simp length-set (omega arith))
    ∙ rw add-suc

-- a turn of a loop that copies `a` from index j on
pub sets-step : (l : List ℕ) (j k : ℕ) (a : List ℕ) → k < length a
    → sets (set l (j + k) (get_or a k 0)) (j + (k + 1)) (drop (k + 1) a) ≡ sets l (j + k) (drop k a)
sets-step l j k a h = rw (drop-cons a k 0, add-one, add-suc)

pub sets-next : (l : List ℕ) (k : ℕ) (a : List ℕ) → k < length a → sets (set l k (get_or a k 0)) (k + 1) (drop (k + 1) a) ≡ sets l k (drop k a)
sets-next l k a h = rw (drop-cons a k 0, add-one)

pub sets-none : (l : List ℕ) (j k : ℕ) (a : List ℕ) → length a ≤ k → sets l (j + k) (drop k a) ≡ l
sets-none l j k a h = rw (drop_of_length-le a h)

-- a run of one word is one store
pub sets-one : (l : List ℕ) (j : ℕ) (a : List ℕ) → length a ≡ 1 → set l j (get_or a 0 0) ≡ sets l j a
sets-one l j a h =
    sym (sets-none (set l j (get_or a 0 0)) j 1 a (omega arith)) ∙ (rw add-zero at (sets-step l j 0 a (omega arith)))

-- a store inside a run, and what stands in a run
pub set-in-sets : (l : List ℕ) (j : ℕ) (a : List ℕ) (k v : ℕ) → k < length a → set (sets l j a) (j + k) v ≡ sets l j (set a k v)
set-in-sets l j [] k v h = absurd (omega arith)
set-in-sets l j (x ∷ a) zero v h =
    rw add-zero (set-sets (set l j x) (suc j) a j v (omega arith) ∙ ap (λ (m : List ℕ). sets m (suc j) a) (set-set l j x v))
set-in-sets l j (x ∷ a) (suc k) v h = rw (add-suc, ← suc-add) (set-in-sets (set l j x) (suc j) a k v (omega arith))

get_or-sets-below : (l : List ℕ) (j : ℕ) (a : List ℕ) (k : ℕ) → k < j → get_or (sets l j a) k 0 ≡ get_or l k 0
get_or-sets-below l j [] k h = refl
get_or-sets-below l j (x ∷ a) k h = get_or-sets-below (set l j x) (suc j) a k (omega arith) ∙ get_or-set_other l j k x 0 (λ e. omega arith)

pub get_d_sets : (l : List ℕ) (j : ℕ) (a : List ℕ) (k : ℕ) → k < length a → j + length a ≤ length l → get_or (sets l j a) (j + k) 0 ≡ get_or a k 0
get_d_sets l j [] k h r = absurd (omega arith)
get_d_sets l j (x ∷ a) zero h r =
    rw add-zero (get_or-sets-below (set l j x) (suc j) a j (omega arith) ∙ get_or-set_same l j x 0 (omega (arith, add-suc j (length a))))
get_d_sets l j (x ∷ a) (suc k) h r =
    rw (add-suc, ← suc-add) (get_d_sets (set l j x) (suc j) a k (omega arith) (rw length-set (omega (arith, add-suc j (length a), suc-add j (length a)))))

-- a tail that was lent, with a run of stores in it, is the run in the whole: what the borrow
-- checker puts back, said of the list
pub tail-back : (l p : List ℕ) (at i : ℕ) (a : List ℕ) → at ≤ length l → p ≡ sets (take (length l - at) (drop at l)) i a → put_mid at (length l - at) l p ≡ sets l (at + i) a
tail-back l p at i a h e =
    let whole : take (length l - at) (drop at l) ≡ drop at l = take_all (length l - at) (drop at l) (simp length-drop (omega arith)) in
    let over : drop (length l - at) (drop at l) ≡ [] = drop_of_length-le (drop at l) {i = length l - at} (simp length-drop (omega arith)) in
    rw (e, whole) (ap (λ (m : List ℕ). take at l ++ (sets (drop at l) i a ++ m)) over ∙ rw append-nil (sets-tail l at i a h))

-- words stored where they stand
pub sets-self : (l : List ℕ) (at n : ℕ) → at + n ≤ length l → sets l at (take n (drop at l)) ≡ l
sets-self l at n h =
    let e : length (take n (drop at l)) ≡ n = simp (length-take, length-drop) (omega arith) in
    sets-eq (take n (drop at l)) l at (omega arith)
    ∙ rw (e, append_assoc (take at l) (take n (drop at l)) (drop (at + n) l), ← drop-drop n at l, take-append-drop n (drop at l)) (take-append-drop at l)

-- a store in the words from `at` on, said of that tail
pub sets-in-tail : (l : List ℕ) (at k v : ℕ) → at + k < length l → set l (at + k) v ≡ sets l at (set (drop at l) k v)
sets-in-tail l at k v h =
    let n : at + length (drop at l) ≡ length l = (let e = length-drop at l in omega arith) in
    let over : drop (at + length (drop at l)) l ≡ [] = drop_of_length-le l {i = at + length (drop at l)} (omega arith) in
    let whole : sets l at (drop at l) ≡ l = sets-eq (drop at l) l at (omega arith) ∙ rw (over, append-nil) (take-append-drop at l) in
    ap (λ (m : List ℕ). set m (at + k) v) (sym whole) ∙ set-in-sets l at (drop at l) k v (omega arith)

-- a bit turned over in a key that was copied to index j
pub toggle-copied : (d d' key : List ℕ) (j q : ℕ) → q / 64 < length key → j + length key ≤ length d → d' ≡ sets d j key → sets d' j (toggle q (drop j d')) ≡ sets d j (toggle q key)
unfolding toggle
toggle-copied d d' key j q h r e =
    let m = q / 64 in
    let l : length d' ≡ length d = ap length e ∙ length-sets d j key in
    sym (sets-in-tail d' j m _ (omega arith)) ∙ rw (get_or-drop, e, get_d_sets d j key m h r) (set-in-sets d j key m _ h)

-- a run of words over a store's start
pub sets-start : (a l : List ℕ) → length a ≤ length l → sets l 0 a ≡ a ++ drop (length a) l
sets-start a l h = sets-eq a l 0 (rw zero-add h) ∙ rw zero-add

-- and over the whole of it; and a part of it with other words
pub sets-whole : (a l : List ℕ) → length l ≡ length a → sets l 0 a ≡ a
sets-whole a l e = sets-start a l (omega arith) ∙ rw (drop_of_length-le l {i = length a} (omega arith)) (append-nil a)

pub part-back : (l p : List ℕ) (at n : ℕ) → at + n ≤ length l → length p ≡ n → put_mid at (at + n - at) l p ≡ sets l at p
part-back l p at n h e =
    subst (λ (m : ℕ). put_mid at m l p ≡ sets l at p) (let z : length p ≡ at + n - at = omega arith in z) (ap (λ (m : List ℕ). take at l ++ (p ++ m)) (drop-drop (length p) at l) ∙ sym (append_assoc (take at l) p (drop (at + length p) l)) ∙ sym (sets-eq p l at (omega arith)))
