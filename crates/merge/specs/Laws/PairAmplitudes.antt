-- At a pair's address, and at its partner, stand exactly the amplitudes of the pair's records. For
-- the crates above. Assumes nothing.
use Rattle.std.specs.declared.cmp.Ordering.TheVariants.{Less}
use Rattle.std.specs.Prelude.{◌≡◌, refl, ℕ, ◌/◌, ◌<◌, length, List, [], ◌∷◌, ◌++◌, Bool, true, false, not, cond, None, Option, Some}
use Rattle.std.proofs.Common.{sym, ap, ap₂, ◌∙◌, subst, arith}
use Rattle.amplitudes.specs.declared.Complex.{Complex}
use Rattle.keys.specs.Keys.{order, clear, toggle, bit_at, same}
use Rattle.keys.specs.Laws.{less-not-equal, order-clear, toggle-toggle, clear-off, clear-on, clear-toggle, bit-toggle, bit-clear, length-clear, same-clear, same-eq, same_refl, not_same}
use Rattle.keys.specs.Lists.{All, all_map, all_both, not-self}
use Rattle.merge.specs.Records.{key_of, record_bit, amplitude_of, decode, entries, at}
use Rattle.merge.specs.Sorting.{Rising, sort_key}
use Rattle.merge.specs.Pairs.{Pair, lhs, rhs, both, pairs}
use Rattle.merge.specs.Laws.Entries.{at_none, at-append, or_else, or_else-none, all-keys, entries-append}
use Rattle.merge.specs.Laws.Pairings.{address, address_of, Above, above-trans, pairs-ind, met, record_for, pair_for, pair_up, below_none}

-- ---- the pair at an address is made of the two records there

abbrev Look : ℕ → ℕ → List (List ℕ) → List (List ℕ) → List Pair → Type 0
Look n q xs ys ps = Rising (address n q) xs → Rising (address n q) ys → (k : List ℕ) → pair_for n q k ps ≡ pair_up (record_for n q k xs) (record_for n q k ys)

hit-lhs : (t : Bool) (x : List ℕ) (l m : Option (List ℕ)) → (t ≡ true → m ≡ None) → cond t (Some (lhs x)) (pair_up l m) ≡ pair_up (cond t (Some x) l) m
hit-lhs true x l m h = rw (h refl)
hit-lhs false x l m h = refl

hit-rhs : (t : Bool) (y : List ℕ) (l m : Option (List ℕ)) → (t ≡ true → l ≡ None) → cond t (Some (rhs y)) (pair_up l m) ≡ pair_up l (cond t (Some y) m)
hit-rhs true y l m h = rw (h refl)
hit-rhs false y l m h = refl

hit-both : (t : Bool) (x y : List ℕ) (l m : Option (List ℕ)) → cond t (Some (both x y)) (pair_up l m) ≡ pair_up (cond t (Some x) l) (cond t (Some y) m)
hit-both true x y l m = refl
hit-both false x y l m = refl

pub look-pairs : (n q : ℕ) (xs ys : List (List ℕ)) → Look n q xs ys (pairs n q xs ys)
unfolding record_for pair_for
look-pairs n q =
    pairs-ind n q (Look n q)
    (λ f g k. refl)
    (λ y ys ps r f g k. rw (r f g.1 k) (hit-rhs (same k (address n q y)) y None (record_for n q k ys) (λ e. refl)))
    (λ x xs ps r f g k. rw (r f.1 g k) (hit-lhs (same k (address n q x)) x (record_for n q k xs) None (λ e. refl)))
    (λ x y xs ys ps l r f g k. rw (r f.1 g k)
    (hit-lhs (same k (address n q x)) x (record_for n q k xs) (record_for n q k (y ∷ ys))
    (λ e. below_none n q k (y ∷ ys) (subst (λ m. Above (address n q) m (y ∷ ys)) (sym (same-eq k (address n q x) e)) (l, above-trans (address n q) (address n q x) (address n q y) ys l g.0)))))
    (λ x y xs ys ps e r f g k. rw (r f.1 g.1 k, ← e) (hit-both (same k (address n q x)) x y (record_for n q k xs) (record_for n q k ys)))
    (λ x y xs ys ps l r f g k. rw (r f g.1 k)
    (hit-rhs (same k (address n q y)) y (record_for n q k (x ∷ xs)) (record_for n q k ys)
    (λ e. below_none n q k (x ∷ xs) (subst (λ m. Above (address n q) m (x ∷ xs)) (sym (same-eq k (address n q y) e)) (l, above-trans (address n q) (address n q y) (address n q x) xs l f.0)))))

-- each pair stands at its address
each-found : (n q : ℕ) (ps : List Pair) → Rising (address_of n q) ps → All (λ p. pair_for n q (address_of n q p) ps ≡ Some p) ps
unfolding pair_for
each-found n q [] h = tt
each-found n q (p ∷ ps) h = (
  rw (same_refl (address_of n q p)),
  all_map ps (λ r b. rw (later-not-same (address_of n q p) (address_of n q r) b.0) b.1) (all_both (λ r. order (address_of n q p) (address_of n q r) ≡ Less) (λ r. pair_for n q (address_of n q r) ps ≡ Some r) ps h.0 (each-found n q ps h.1)),
)
  where
    later-not-same : (a b : List ℕ) → order a b ≡ Less → same b a ≡ false
    later-not-same a b l = not_same b a (λ e. less-not-equal a b l (sym e))

-- so what stands in a pair are exactly the records at its address
pub each-made : (n q : ℕ) (xs ys : List (List ℕ)) → Rising (address n q) xs → Rising (address n q) ys
    → All (λ p. pair_up (record_for n q (address_of n q p) xs) (record_for n q (address_of n q p) ys) ≡ Some p) (pairs n q xs ys)
each-made n q xs ys f g =
    all_map (pairs n q xs ys) (λ p e. sym (look-pairs n q xs ys f g (address_of n q p)) ∙ e) (each-found n q (pairs n q xs ys) (met n q xs ys f g).rise)

-- ---- the amplitudes of a pair, where part 0 has bit q clear and part 1 has it set

-- the record of a pair on one side, if it has one there
abbrev pub in_pair : Bool → Pair → Option (List ℕ)
in_pair false (lhs x) = Some x
in_pair false (rhs y) = None
in_pair false (both x y) = Some x
in_pair true (lhs x) = None
in_pair true (rhs y) = Some y
in_pair true (both x y) = Some y

-- the key of an address on one side of q
abbrev pub on_side : Bool → ℕ → List ℕ → List ℕ
on_side false q k = k
on_side true q k = toggle q k

abbrev pub amplitude_in : ℕ → Option (List ℕ) → Option Complex
amplitude_in n None = None
amplitude_in n (Some r) = Some (amplitude_of n r)

-- records with bit q on side b, looked up under a key on that side, and on the other
same-side : (n q : ℕ) (b : Bool) (k j : List ℕ) (rs : List (List ℕ)) → bit_at q j ≡ b → clear q j ≡ k → All (λ r. record_bit n q r ≡ b) rs → at j (entries n rs) ≡ amplitude_in n (record_for n q k rs)
unfolding at record_for decode
same-side n q b k j [] e c h = refl
same-side n q b k j (r ∷ rs) e c h =
    let i : same j (key_of n r) ≡ same k (address n q r) = sym (same-clear q j (key_of n r) (e ∙ sym h.0)) ∙ ap (λ (x : List ℕ). same x (address n q r)) c in
    rw (i, same-side n q b k j rs e c h.1) (hit (same k (address n q r)) (record_for n q k rs))
  where
    hit : (t : Bool) (m : Option (List ℕ)) → cond t (Some (amplitude_of n r)) (amplitude_in n m) ≡ amplitude_in n (cond t (Some r) m)
    hit true m = refl
    hit false m = refl

other-side : (n q : ℕ) (b : Bool) (j : List ℕ) (rs : List (List ℕ)) → bit_at q j ≡ not b → All (λ r. record_bit n q r ≡ b) rs → at j (entries n rs) ≡ None
other-side n q b j rs e h = at_none j (entries n rs) (all-keys (λ k. j ≡ k → ⊥) n rs (all_map rs (λ r s i. not-self b (sym e ∙ ap (bit_at q) i ∙ s)) h))

-- the two records that were paired up
abbrev pair_side : Bool → Option Pair → Option (List ℕ)
pair_side s None = None
pair_side s (Some p) = in_pair s p

up-side : (s : Bool) (a b : Option (List ℕ)) → cond s b a ≡ pair_side s (pair_up a b)
up-side false None None = refl
up-side false None (Some y) = refl
up-side false (Some x) None = refl
up-side false (Some x) (Some y) = refl
up-side true None None = refl
up-side true None (Some y) = refl
up-side true (Some x) None = refl
up-side true (Some x) (Some y) = refl

-- what holds of every record's address holds of every pair's
pub all-addresses : (P : List ℕ → Type 0) (n q : ℕ) (xs ys : List (List ℕ)) → All (λ r. P (address n q r)) xs → All (λ r. P (address n q r)) ys → All (λ p. P (address_of n q p)) (pairs n q xs ys)
all-addresses P n q =
    pairs-ind n q (λ xs ys ps. All (λ r. P (address n q r)) xs → All (λ r. P (address n q r)) ys → All (λ p. P (address_of n q p)) ps)
    (λ f g. tt)
    (λ y ys ps r f g. (g.0, r f g.1))
    (λ x xs ps r f g. (f.0, r f.1 g))
    (λ x y xs ys ps l r f g. (f.0, r f.1 g))
    (λ x y xs ys ps e r f g. (f.0, r f.1 g.1))
    (λ x y xs ys ps l r f g. (g.0, r f g.1))

-- records on one side of q that rise by key rise by address
pub rise-addressed : (n q : ℕ) (b : Bool) (rs : List (List ℕ)) → All (λ r. record_bit n q r ≡ b) rs → Rising (sort_key n None) rs → Rising (address n q) rs
rise-addressed n q b [] f h = tt
rise-addressed n q b (r ∷ rs) f h = (
  all_map rs (λ s e. order-clear q (key_of n r) (key_of n s) (f.0 ∙ sym e.0) ∙ e.1) (all_both (λ s. record_bit n q s ≡ b) (λ s. order (key_of n r) (key_of n s) ≡ Less) rs f.1 h.0),
  rise-addressed n q b rs f.1 h.1,
)

-- a record's key is its address on its side
side-key : (n q : ℕ) (b : Bool) (r : List ℕ) → q / 64 < length (key_of n r) → record_bit n q r ≡ b → key_of n r ≡ on_side b q (address n q r)
side-key n q false r h e = sym (clear-off q (key_of n r) e)
side-key n q true r h e = sym (ap (toggle q) (clear-on q (key_of n r) e) ∙ toggle-toggle q (key_of n r) h)

abbrev Keyed : ℕ → ℕ → Pair → Type 0
Keyed n q p = (b : Bool) (r : List ℕ) → in_pair b p ≡ Some r → key_of n r ≡ on_side b q (address_of n q p)

some-record : (x r : List ℕ) → Some x ≡ Some r → x ≡ r
some-record x r e = cc

no_record : (r : List ℕ) → None ≡ Some r → ⊥
no_record r e = let z : ◌≡◌ {A = ℕ} 0 1 = cc in omega arith

keyed-lhs : (n q : ℕ) (x : List ℕ) → key_of n x ≡ on_side false q (address n q x) → Keyed n q (lhs x)
keyed-lhs n q x h false r e = subst (λ (y : List ℕ). key_of n y ≡ address n q x) (some-record x r e) h
keyed-lhs n q x h true r e = absurd (no_record r e)

keyed-rhs : (n q : ℕ) (y : List ℕ) → key_of n y ≡ on_side true q (address n q y) → Keyed n q (rhs y)
keyed-rhs n q y h true r e = subst (λ (x : List ℕ). key_of n x ≡ toggle q (address n q y)) (some-record y r e) h
keyed-rhs n q y h false r e = absurd (no_record r e)

keyed-both : (n q : ℕ) (x y : List ℕ) → address n q x ≡ address n q y → key_of n x ≡ on_side false q (address n q x) → key_of n y ≡ on_side true q (address n q y) → Keyed n q (both x y)
keyed-both n q x y s h k false r e = subst (λ (z : List ℕ). key_of n z ≡ address n q x) (some-record x r e) h
keyed-both n q x y s h k true r e = subst (λ (z : List ℕ). key_of n z ≡ toggle q (address n q x)) (some-record y r e) (k ∙ ap (toggle q) (sym s))

-- what is paired are exactly the entries that differ only in bit q: a pair's records have its
-- address and the partner of that as keys
pub pair-keys : (n q : ℕ) (X Y : List (List ℕ)) → All (λ r. record_bit n q r ≡ false) X → All (λ r. record_bit n q r ≡ true) Y → All (λ r. q / 64 < length (key_of n r)) X → All (λ r. q / 64 < length (key_of n r)) Y
    → All (Keyed n q) (pairs n q X Y)
pair-keys n q =
    pairs-ind n q
    (λ X Y ps. All (λ r. record_bit n q r ≡ false) X → All (λ r. record_bit n q r ≡ true) Y → All (λ r. q / 64 < length (key_of n r)) X → All (λ r. q / 64 < length (key_of n r)) Y → All (Keyed n q) ps)
    (λ f g u v. tt)
    (λ y ys ps r f g u v. (keyed-rhs n q y (side-key n q true y v.0 g.0), r f g.1 u v.1))
    (λ x xs ps r f g u v. (keyed-lhs n q x (side-key n q false x u.0 f.0), r f.1 g u.1 v))
    (λ x y xs ys ps l r f g u v. (keyed-lhs n q x (side-key n q false x u.0 f.0), r f.1 g u.1 v))
    (λ x y xs ys ps e r f g u v. (keyed-both n q x y e (side-key n q false x u.0 f.0) (side-key n q true y v.0 g.0), r f.1 g.1 u.1 v.1))
    (λ x y xs ys ps l r f g u v. (keyed-rhs n q y (side-key n q true y v.0 g.0), r f g.1 u v.1))

-- what is found at an address on one side is the record that the part of that side has there
module _ (n q : ℕ) (X Y : List (List ℕ)) (fX : All (λ r. record_bit n q r ≡ false) X) (fY : All (λ r. record_bit n q r ≡ true) Y) where
  pub at_side : (b : Bool) (k : List ℕ) → q / 64 < length k → bit_at q k ≡ false
      → at (on_side b q k) (entries n (X ++ Y)) ≡ amplitude_in n (record_for n q k (cond b Y X))
  at_side false k h e =
      ap (at k) (entries-append n X Y)
      ∙ at-append k (entries n X) (entries n Y)
      ∙ ap₂ or_else (same-side n q false k k X e (clear-off q k e) fX) (other-side n q true k Y e fY)
      ∙ or_else-none (amplitude_in n (record_for n q k X))
  at_side true k h e =
      let t : bit_at q (toggle q k) ≡ true = bit-toggle q k h ∙ ap not e in
      ap (at (toggle q k)) (entries-append n X Y)
      ∙ at-append (toggle q k) (entries n X) (entries n Y)
      ∙ ap₂ or_else (other-side n q false (toggle q k) X t fX) (same-side n q true k (toggle q k) Y t (clear-toggle q k h ∙ clear-off q k e) fY)

  -- THE LAW of the pair merge: at a pair's address, and at its partner, stand the amplitudes of the
  -- pair's records
  module _ (wX : All (λ r. q / 64 < length (key_of n r)) X) (wY : All (λ r. q / 64 < length (key_of n r)) Y) (rX : Rising (address n q) X) (rY : Rising (address n q) Y) where
    pub pair-amplitudes : All (λ p. (b : Bool) → at (on_side b q (address_of n q p)) (entries n (X ++ Y)) ≡ amplitude_in n (in_pair b p)) (pairs n q X Y)
    pair-amplitudes =
        all_map (pairs n q X Y) (λ p h b. at_side b (address_of n q p) h.0.0 h.0.1 ∙ ap (amplitude_in n) (choice b p ∙ up-side b _ _ ∙ ap (pair_side b) h.1))
        (all_both _ _ (pairs n q X Y) (all-addresses Addressed n q X Y (addressed X wX) (addressed Y wY)) (each-made n q X Y rX rY))
      where
        Addressed : List ℕ → Type 0
        Addressed k = (q / 64 < length k) × (bit_at q k ≡ false)

        addressed : (rs : List (List ℕ)) → All (λ r. q / 64 < length (key_of n r)) rs → All (λ r. Addressed (address n q r)) rs
        addressed rs = all_map rs (λ r h. (rw (length-clear q (key_of n r)) h, bit-clear q (key_of n r) h))

        choice : (b : Bool) (p : Pair) → record_for n q (address_of n q p) (cond b Y X) ≡ cond b (record_for n q (address_of n q p) Y) (record_for n q (address_of n q p) X)
        choice true p = refl
        choice false p = refl
