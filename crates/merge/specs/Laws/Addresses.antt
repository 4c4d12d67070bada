-- The addresses of keys with bit q left out: they rise, they are the same in any order of the keys,
-- and a key that is none of them has no entry, nor has its partner. Assumes nothing.
use Rattle.std.specs.declared.cmp.Ordering.{Ordering}
use Rattle.std.specs.declared.cmp.Ordering.TheVariants.{Less, Equal, Greater}
use Rattle.std.specs.Prelude.{◌≡◌, refl, ℕ, ◌*◌, ◌/◌, ◌<◌, Bool, true, false, not, ◌||◌, length, None}
use Rattle.std.proofs.Common.{sym, ap, ap₂, ◌∙◌, true≢false}
use mathlib.Core.List.{List, [], ◌∷◌, map, Permᴰ}
use Rattle.keys.specs.Keys.{order, clear, toggle, bit_at, same, IsKey}
use Rattle.keys.specs.Laws.{order_trans, order-equal, greater-less, same-is, toggle-toggle, bit-toggle, bit-clear, clear-on, clear-off, clear-key, qubit-word}
use Rattle.keys.specs.Lists.{All, all_map, or-false-l, or-false-r}
use Rattle.merge.specs.Records.{Entry, key_of, decode, entries, at}
use Rattle.merge.specs.Sorting.{Rising}
use Rattle.merge.specs.Addresses.{placed, enter, addresses}
use Rattle.merge.specs.Laws.Entries.{key_in, at-nil, at_other}
use Rattle.merge.specs.Laws.Pairings.{enter-comm}

-- keys by themselves
abbrev pub itself : List ℕ → List ℕ
itself k = k

-- ---- what is entered

enter-all : (P : List ℕ → Type 0) (k : List ℕ) (ks : List (List ℕ)) → P k → All P ks → All P (enter k ks)
unfolding enter
enter-all P k [] p h = (p, tt)
enter-all P k (a ∷ ks) p h = go (order k a) (enter-all P k ks p h.1)
  where
    go : (o : Ordering) → All P (enter k ks) → All P (placed o k a ks (enter k ks))
    go Less r = (p, h)
    go Equal r = h
    go Greater r = (h.0, r)

enter-rises : (k : List ℕ) (ks : List (List ℕ)) → Rising itself ks → Rising itself (enter k ks)
unfolding enter
enter-rises k [] h = (tt, tt)
enter-rises k (a ∷ ks) h = go (order k a) refl (enter-rises k ks h.1)
  where
    go : (o : Ordering) → order k a ≡ o → Rising itself (enter k ks) → Rising itself (placed o k a ks (enter k ks))
    go Less e r = ((e, all_map ks (λ x l. order_trans k a x e l) h.0), h)
    go Equal e r = h
    go Greater e r = (enter-all (λ x. order a x ≡ Less) k ks (greater-less k a e) h.0, r)

-- ---- the addresses

-- what holds of every key with bit q clear holds of every address
pub addresses-all : (P : List ℕ → Type 0) (q : ℕ) (ks : List (List ℕ)) → All (λ k. P (clear q k)) ks → All P (addresses q ks)
unfolding addresses
addresses-all P q [] h = tt
addresses-all P q (k ∷ ks) h = enter-all P (clear q k) (addresses q ks) h.0 (addresses-all P q ks h.1)

pub addresses-rise : (q : ℕ) (ks : List (List ℕ)) → Rising itself (addresses q ks)
unfolding addresses
addresses-rise q [] = tt
addresses-rise q (k ∷ ks) = enter-rises (clear q k) (addresses q ks) (addresses-rise q ks)

-- the order of the keys does not matter
pub addresses-perm : (q : ℕ) {a b : List (List ℕ)} → Permᴰ a b → addresses q a ≡ addresses q b
unfolding addresses
addresses-perm q Permᴰ.nil = refl
addresses-perm q (Permᴰ.cons e p) = ap₂ (λ (k : List ℕ) (l : List (List ℕ)). enter (clear q k) l) e (addresses-perm q p)
addresses-perm q (Permᴰ.swap {a = x} {b = y} {l = l} d e) =
    enter-comm (clear q x) (clear q y) (addresses q l) ∙ ap₂ (λ (u v : List ℕ). enter (clear q u) (enter (clear q v) (addresses q l))) e d
addresses-perm q (Permᴰ.trans p r) = addresses-perm q p ∙ addresses-perm q r

pub perm-map : {A B : Type 0} (f : A → B) {a b : List A} → Permᴰ a b → Permᴰ (map f a) (map f b)
perm-map f Permᴰ.nil = Permᴰ.nil
perm-map f (Permᴰ.cons e p) = Permᴰ.cons (ap f e) (perm-map f p)
perm-map f (Permᴰ.swap d e) = Permᴰ.swap (ap f d) (ap f e)
perm-map f (Permᴰ.trans p q) = Permᴰ.trans (perm-map f p) (perm-map f q)

-- the keys of the entries of records
pub entries-keys : (n : ℕ) (rs : List (List ℕ)) → map key_in (entries n rs) ≡ map (key_of n) rs
unfolding decode
entries-keys n [] = refl
entries-keys n (r ∷ rs) = ap (λ (l : List (List ℕ)). key_of n r ∷ l) (entries-keys n rs)

-- ---- which keys are addresses

abbrev pub member : List ℕ → List (List ℕ) → Bool
member k [] = false
member k (a ∷ ks) = same k a || member k ks

pub no_member : (j : List ℕ) (ks : List (List ℕ)) → All (λ x. same j x ≡ false) ks → member j ks ≡ false
no_member j [] h = refl
no_member j (x ∷ ks) h = ap₂ ◌||◌ h.0 (no_member j ks h.1)

or_swap : (a b c : Bool) → (a || (b || c)) ≡ (b || (a || c))
or_swap true true c = refl
or_swap true false c = refl
or_swap false b c = refl

or-twice : (a c : Bool) → (a || c) ≡ (a || (a || c))
or-twice true c = refl
or-twice false c = refl

enter-member : (j k : List ℕ) (ks : List (List ℕ)) → member j (enter k ks) ≡ (same j k || member j ks)
unfolding enter
enter-member j k [] = refl
enter-member j k (a ∷ ks) = go (order k a) refl (enter-member j k ks)
  where
    go : (o : Ordering) → order k a ≡ o → member j (enter k ks) ≡ (same j k || member j ks) → member j (placed o k a ks (enter k ks)) ≡ (same j k || (same j a || member j ks))
    go Less e r = refl
    go Equal e r = or-twice (same j a) (member j ks) ∙ ap (λ (x : List ℕ). same j x || (same j a || member j ks)) (sym (order-equal k a e))
    go Greater e r = ap (λ (t : Bool). same j a || t) r ∙ or_swap (same j a) (same j k) (member j ks)

-- a key of n words with bit q clear
abbrev pub Address : ℕ → ℕ → List ℕ → Type 0
Address n q k = IsKey n k × (bit_at q k ≡ false)

pub addresses-clear : (n q : ℕ) (ks : List (List ℕ)) → q < 64 * n → All (IsKey n) ks → All (Address n q) (addresses q ks)
addresses-clear n q ks l h = addresses-all (Address n q) q ks (all_map ks (λ k i. (clear-key n q k i, bit-clear q k (qubit-word n q k l i))) h)

-- neither a key nor its partner has an entry
abbrev pub Bare : ℕ → List ℕ → List Entry → Type 0
Bare q k es = (at k es ≡ None) × (at (toggle q k) es ≡ None)

-- so it is with a key with bit q clear that is no address
pub no_address : (q : ℕ) (k : List ℕ) (es : List Entry) → q / 64 < length k → bit_at q k ≡ false → member k (addresses q (map key_in es)) ≡ false → Bare q k es
unfolding addresses
no_address q k [] l b h = (at-nil k, at-nil (toggle q k))
no_address q k (e ∷ es) l b h =
    let rest = addresses q (map key_in es) in
    let m : (same k (clear q e.key) || member k rest) ≡ false = sym (enter-member k (clear q e.key) rest) ∙ h in
    let r = no_address q k es l b (or-false-r (same k (clear q e.key)) (member k rest) m) in
    let other = or-false-l (same k (clear q e.key)) (member k rest) m in (
      at_other k e es (λ i. true≢false (sym (same-is k (clear q e.key) (i ∙ sym (clear-off q e.key (sym (ap (bit_at q) i) ∙ b)))) ∙ other)) ∙ r.0,
      at_other (toggle q k) e es
          (λ i. true≢false (sym (same-is k (clear q e.key) (sym (toggle-toggle q k l) ∙ ap (toggle q) i ∙ sym (clear-on q e.key (sym (ap (bit_at q) i) ∙ bit-toggle q k l ∙ ap not b)))) ∙ other))
          ∙ r.1,
    )
