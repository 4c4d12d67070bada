-- The amplitude at a key: in a list that begins, in two lists one after the other, in the same
-- entries in another order; and rising lists with the same amplitude at every key are one list.
-- Assumes nothing.
use Rattle.std.specs.declared.cmp.Ordering.{Ordering}
use Rattle.std.specs.declared.cmp.Ordering.TheVariants.{Less, Equal, Greater}
use Rattle.std.specs.Prelude.{◌≡◌, refl, ℕ, zero, suc, ◌+◌, ◌-◌, ◌≤◌, ◌<◌, Bool, true, false, cond, None, Option, Some}
use Rattle.std.proofs.lemmas.Option.{none-some}
use Rattle.std.proofs.Common.{sym, ap, ap₂, ◌∙◌, subst, add-suc, suc-add, arith, true≢false}
use mathlib.Core.List.{List, [], ◌∷◌, ◌++◌, Permᴰ}
use Rattle.amplitudes.specs.declared.Complex.{Complex}
use Rattle.keys.specs.Keys.{order, same}
use Rattle.keys.specs.Laws.{order_trans, order-equal, greater-less, same-is, same-eq, not_same, below-not-same}
use Rattle.keys.specs.Lists.{All, all_map}
use Rattle.merge.specs.Pairs.{position_of}
use Rattle.merge.specs.Records.{Entry, key_of, amplitude_of, record_at, counted, part, decode, entries, at}
use Rattle.merge.specs.Sorting.{Rising}
use Rattle.merge.specs.Laws.Sorting.{Distinct, perm-distinct}

-- what entries are ordered by
abbrev pub key_in : Entry → List ℕ
key_in e = e.key

pub at-nil : (k : List ℕ) → at k [] ≡ None
unfolding at
at-nil k = refl

pub at_here : (k : List ℕ) (e : Entry) (es : List Entry) → k ≡ e.key → at k (e ∷ es) ≡ Some e.amp
unfolding at
at_here k e es h = rw (same-is k e.key h)

pub at_other : (k : List ℕ) (e : Entry) (es : List Entry) → (k ≡ e.key → ⊥) → at k (e ∷ es) ≡ at k es
unfolding at
at_other k e es h = rw (not_same k e.key h)

-- by cases on whether k is the first entry's key
pub at-cons : (P : Option Complex → Type 0) (k : List ℕ) (e : Entry) (es : List Entry) → (k ≡ e.key → P (Some e.amp)) → ((k ≡ e.key → ⊥) → P (at k es)) → P (at k (e ∷ es))
at-cons P k e es f g = go (same k e.key) refl
  where
    go : (t : Bool) → same k e.key ≡ t → P (at k (e ∷ es))
    go true s = let h = same-eq k e.key s in subst P (sym (at_here k e es h)) (f h)
    go false s = let h : k ≡ e.key → ⊥ = (λ i. true≢false (sym (same-is k e.key i) ∙ s)) in subst P (sym (at_other k e es h)) (g h)

pub Some≢None : (a : Complex) → Some a ≡ None → ⊥
Some≢None a e = none-some a (sym e)

pub at_none : (k : List ℕ) (es : List Entry) → All (λ e. k ≡ e.key → ⊥) es → at k es ≡ None
at_none k [] h = at-nil k
at_none k (e ∷ es) h = at_other k e es h.0 ∙ at_none k es h.1

-- the first list's amplitude, or else the second's
abbrev pub or_else : Option Complex → Option Complex → Option Complex
or_else None m = m
or_else (Some a) m = Some a

pub or_else-none : (m : Option Complex) → or_else m None ≡ m
or_else-none None = refl
or_else-none (Some a) = refl

pub at-append : (k : List ℕ) (a b : List Entry) → at k (a ++ b) ≡ or_else (at k a) (at k b)
unfolding at
at-append k [] b = refl
at-append k (e ∷ a) b = go (same k e.key) (at-append k a b)
  where
    go : (t : Bool) → at k (a ++ b) ≡ or_else (at k a) (at k b) → cond t (Some e.amp) (at k (a ++ b)) ≡ or_else (cond t (Some e.amp) (at k a)) (at k b)
    go true r = refl
    go false r = r

-- what holds of every amplitude holds of one that was looked up
pub at_all : (P : Complex → Type 0) (k : List ℕ) (es : List Entry) → All (λ e. P e.amp) es → (a : Complex) → at k es ≡ Some a → P a
at_all P k [] h a e = absurd (Some≢None a (sym e ∙ at-nil k))
at_all P k (f ∷ es) h a e = at-cons (λ o. o ≡ Some a → P a) k f es (λ i d. subst P (let z : f.amp ≡ a = cc in z) h.0) (λ i d. at_all P k es h.1 a d) e

-- an entry whose key is no other's is found under it
pub at_own : (es : List Entry) → Distinct key_in es → All (λ e. at e.key es ≡ Some e.amp) es
at_own [] d = tt
at_own (e ∷ es) d =
    (at_here e.key e es refl, own es d.0 (at_own es d.1))
  where
    own : (fs : List Entry) → All (λ f. e.key ≡ f.key → ⊥) fs → All (λ f. at f.key es ≡ Some f.amp) fs → All (λ f. at f.key (e ∷ es) ≡ Some f.amp) fs
    own [] u v = tt
    own (f ∷ fs) u v = (at_other f.key e es (λ i. u.0 (sym i)) ∙ v.0, own fs u.1 v.1)

-- two first entries with different keys may change places
swap_at : (k : List ℕ) (x y : Entry) (m : Option Complex) → (x.key ≡ y.key → ⊥)
    → cond (same k x.key) (Some x.amp) (cond (same k y.key) (Some y.amp) m) ≡ cond (same k y.key) (Some y.amp) (cond (same k x.key) (Some x.amp) m)
swap_at k x y m h = go (same k x.key) (same k y.key) refl refl
  where
    go : (s t : Bool) → same k x.key ≡ s → same k y.key ≡ t → cond s (Some x.amp) (cond t (Some y.amp) m) ≡ cond t (Some y.amp) (cond s (Some x.amp) m)
    go true true u v = absurd (h (sym (same-eq k x.key u) ∙ same-eq k y.key v))
    go true false u v = refl
    go false t u v = refl

-- the same entries in another order have the same amplitude at every key
pub at-perm : (k : List ℕ) {a b : List Entry} → Permᴰ a b → Distinct key_in a → at k a ≡ at k b
unfolding at
at-perm k Permᴰ.nil d = refl
at-perm k (Permᴰ.cons e p) d = ap₂ (λ (f : Entry) (m : Option Complex). cond (same k f.key) (Some f.amp) m) e (at-perm k p d.1)
at-perm k (Permᴰ.swap {a = x} {b = y} {l = l} d e) h =
    swap_at k x y (at k l) h.0.0 ∙ ap₂ (λ (u v : Entry). cond (same k u.key) (Some u.amp) (cond (same k v.key) (Some v.amp) (at k l))) e d
at-perm k (Permᴰ.trans p q) d = at-perm k p d ∙ at-perm k q (perm-distinct key_in p d)

-- ---- rising lists

above_at : (k : List ℕ) (es : List Entry) → All (λ e. order k e.key ≡ Less) es → at k es ≡ None
above_at k es h = at_none k es (all_map es (λ e l i. true≢false (sym (same-is k e.key i) ∙ below-not-same k e.key l)) h)

-- below the first key nothing is found
before-first : (k : List ℕ) (e : Entry) (es : List Entry) → Rising key_in (e ∷ es) → order k e.key ≡ Less → at k (e ∷ es) ≡ None
before-first k e es u l = above_at k (e ∷ es) (l, all_map es (λ f m. order_trans k e.key f.key l m) u.0)

tail-same : (e f : Entry) (a b : List Entry) → e.key ≡ f.key → Rising key_in (e ∷ a) → Rising key_in (f ∷ b) → (k : List ℕ) → at k (e ∷ a) ≡ at k (f ∷ b) → at k a ≡ at k b
tail-same e f a b p u v k h = go (same k e.key) refl
  where
    go : (t : Bool) → same k e.key ≡ t → at k a ≡ at k b
    go true s =
        let i = same-eq k e.key s in
        ap (λ (x : List ℕ). at x a) i ∙ above_at e.key a u.0 ∙ sym (ap (λ (x : List ℕ). at x b) (i ∙ p) ∙ above_at f.key b v.0)
    go false s =
        let no : k ≡ e.key → ⊥ = (λ i. true≢false (sym (same-is k e.key i) ∙ s)) in
        sym (at_other k e a no) ∙ h ∙ at_other k f b (λ i. no (i ∙ sym p))

-- two rising lists, of keys that satisfy P, with the same amplitude at every such key
pub rising-unique : (P : List ℕ → Type 0) (a b : List Entry) → All (λ e. P e.key) a → All (λ e. P e.key) b → Rising key_in a → Rising key_in b → ((k : List ℕ) → P k → at k a ≡ at k b) → a ≡ b
rising-unique P [] [] p q u v h = refl
rising-unique P [] (f ∷ b) p q u v h = absurd (Some≢None f.amp (sym (at_here f.key f b refl) ∙ sym (h f.key q.0) ∙ at-nil f.key))
rising-unique P (e ∷ a) [] p q u v h = absurd (Some≢None e.amp (sym (at_here e.key e a refl) ∙ h e.key p.0 ∙ at-nil e.key))
rising-unique P (e ∷ a) (f ∷ b) p q u v h = go (order e.key f.key) refl (λ g. rising-unique P a b p.1 q.1 u.1 v.1 g)
  where
    here : at e.key (e ∷ a) ≡ Some e.amp
    here = at_here e.key e a refl

    there : at f.key (f ∷ b) ≡ Some f.amp
    there = at_here f.key f b refl

    go : (o : Ordering) → order e.key f.key ≡ o → (((k : List ℕ) → P k → at k a ≡ at k b) → a ≡ b) → e ∷ a ≡ f ∷ b
    go Less l r = absurd (Some≢None e.amp (sym here ∙ h e.key p.0 ∙ before-first e.key f b v l))
    go Equal l r =
        let k = order-equal e.key f.key l in
        let s : Some e.amp ≡ Some f.amp = sym here ∙ h e.key p.0 ∙ at_here e.key f b k in
        let x : e.amp ≡ f.amp = cc in
        ap₂ ◌∷◌ (λ i. record { key = k i; amp = x i }) (r (λ j w. tail-same e f a b k u v j (h j w)))
    go Greater l r = absurd (Some≢None f.amp (sym there ∙ sym (h f.key q.0) ∙ before-first f.key e a u (greater-less e.key f.key l)))

-- ---- the entries of records

pub decode_is : (n : ℕ) (r : List ℕ) → decode n r ≡ record { key = key_of n r; amp = amplitude_of n r }
unfolding decode
decode_is n r = refl

pub all-keys : (P : List ℕ → Type 0) (n : ℕ) (rs : List (List ℕ)) → All (λ r. P (key_of n r)) rs → All (λ e. P e.key) (entries n rs)
unfolding decode
all-keys P n [] h = tt
all-keys P n (r ∷ rs) h = (h.0, all-keys P n rs h.1)

pub all-amplitudes : (P : Complex → Type 0) (n : ℕ) (rs : List (List ℕ)) → All (λ r. P (amplitude_of n r)) rs → All (λ e. P e.amp) (entries n rs)
unfolding decode
all-amplitudes P n [] h = tt
all-amplitudes P n (r ∷ rs) h = (h.0, all-amplitudes P n rs h.1)

pub entries-append : (n : ℕ) (xs ys : List (List ℕ)) → entries n (xs ++ ys) ≡ entries n xs ++ entries n ys
entries-append n [] ys = refl
entries-append n (x ∷ xs) ys = ap (λ (l : List Entry). decode n x ∷ l) (entries-append n xs ys)

-- ---- where a key stands, and the amplitude there

-- the answer of `find` about the records i .. e of a store is right: the record that it names has
-- the key, and the amplitude there
abbrev pub Right : ℕ → List ℕ → List ℕ → ℕ → ℕ → Option Complex → Option ℕ → Type 0
Right n ws k i e a (Some r) = (i ≤ r) × (r < e) × (a ≡ Some (amplitude_of n (record_at n ws r))) × (key_of n (record_at n ws r) ≡ k)
Right n ws k i e a None = a ≡ None

counted-position : (n : ℕ) (ws k : List ℕ) (i c : ℕ) → Right n ws k i (i + c) (at k (entries n (counted n ws i c))) (position_of n k i (counted n ws i c))
unfolding counted position_of at decode
counted-position n ws k i zero = refl
counted-position n ws k i (suc c) = go (same k (key_of n (record_at n ws i))) refl (counted-position n ws k (suc i) c)
  where
    shift : (m : Option Complex) (p : Option ℕ) → Right n ws k (suc i) (suc i + c) m p → Right n ws k i (i + suc c) m p
    shift m (Some r) h = (let a = h.0 in omega arith, let a = h.1 in let s = add-suc i c in let t = suc-add i c in omega arith, h.2, h.3)
    shift m None h = h

    go : (t : Bool) → same k (key_of n (record_at n ws i)) ≡ t → Right n ws k (suc i) (suc i + c) (at k (entries n (counted n ws (suc i) c))) (position_of n k (suc i) (counted n ws (suc i) c))
        → Right n ws k i (i + suc c) (cond t (Some (amplitude_of n (record_at n ws i))) (at k (entries n (counted n ws (suc i) c)))) (cond t (Some i) (position_of n k (suc i) (counted n ws (suc i) c)))
    go true e h = (omega arith, let s = add-suc i c in omega arith, refl, sym (same-eq k (key_of n (record_at n ws i)) e))
    go false e h = shift (at k (entries n (counted n ws (suc i) c))) (position_of n k (suc i) (counted n ws (suc i) c)) h

pub position-right : (n : ℕ) (ws k : List ℕ) (i e : ℕ) → i ≤ e → Right n ws k i e (at k (entries n (part n ws i e))) (position_of n k i (part n ws i e))
unfolding part
position-right n ws k i e h = subst (λ (m : ℕ). Right n ws k i m (at k (entries n (counted n ws i (e - i)))) (position_of n k i (counted n ws i (e - i)))) (let z : i + (e - i) ≡ e = omega arith in z) (counted-position n ws k i (e - i))
