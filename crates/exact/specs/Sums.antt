-- The exact sum, over a gate's addresses, for `OneGate`: every entry is at one address or at its
-- partner, once. Assumes nothing.
use Rattle.std.specs.declared.cmp.Ordering.TheVariants.{Less}
use Rattle.std.specs.Prelude.{◌≡◌, refl, ℕ, ◌*◌, ◌/◌, ◌<◌, Bool, true, false, not, cond, ◌||◌, ◌*ℤ◌, length, None, Option}
use Rattle.std.proofs.Math.Path.{sym, ap, ap₂}
use Rattle.std.proofs.Common.{◌∙◌, subst, true≢false}
use mathlib.Core.List.{List, [], ◌∷◌}
use Rattle.std.proofs.Math.IntN.{ℤ, pos, ◌+ℤ◌, +ℤ_idl, +ℤ_idr, +ℤ_assoc, *ℤ-zero}
use Rattle.algebra.specs.Gate.{squared}
use Rattle.algebra.proofs.Laws.{+ℤ-left-comm, *ℤ-distl}
use Rattle.algebra.specs.Ring.{ints}
use Rattle.amplitudes.specs.declared.Complex.{Complex}
use Rattle.amplitudes.specs.Numbers.{gauss}
use Rattle.keys.specs.Keys.{order, same, bit_at, toggle, clear, IsKey}
use Rattle.keys.specs.Laws.{same-is, same-eq, same-iff, not_same, below-not-same, same-toggle, toggle-toggle, bit-toggle, bit-clear, clear-on, clear-off, clear-key, qubit-word}
use Rattle.keys.specs.Lists.{All, all_map}
use Rattle.merge.specs.Laws.{member, no_member, itself, Address, Bare, key_in, at-nil, at_here, at_other, at_none, Some≢None, Distinct}
use Rattle.merge.specs.Records.{Entry, at}
use Rattle.merge.specs.Sorting.{Rising}
use Rattle.estimates.specs.Laws.{four}
use Rattle.exact.specs.Table.{numbers_of, exact_sum}

-- the squared parts of what is found
abbrev pub square_of : Option Complex → ℤ
square_of m = squared ints (numbers_of m)

unfoldable pub sum_over : (List ℕ → ℤ) → List (List ℕ) → ℤ
sum_over f [] = pos 0
sum_over f (k ∷ ks) = f k +ℤ sum_over f ks

pub over_add : (f g : List ℕ → ℤ) (ks : List (List ℕ)) → sum_over f ks +ℤ sum_over g ks ≡ sum_over (λ k. f k +ℤ g k) ks
unfolding sum_over
over_add f g [] = refl
over_add f g (k ∷ ks) = four (f k) (sum_over f ks) (g k) (sum_over g ks) ∙ ap (λ (x : ℤ). (f k +ℤ g k) +ℤ x) (over_add f g ks)

pub over-times : (w : ℤ) (f : List ℕ → ℤ) (ks : List (List ℕ)) → sum_over (λ k. w *ℤ f k) ks ≡ w *ℤ sum_over f ks
unfolding sum_over
over-times w f [] = sym (*ℤ-zero w)
over-times w f (k ∷ ks) = ap (λ (x : ℤ). w *ℤ f k +ℤ x) (over-times w f ks) ∙ sym (*ℤ-distl w (f k) (sum_over f ks))

pub over-all : (f g : List ℕ → ℤ) (ks : List (List ℕ)) → All (λ k. f k ≡ g k) ks → sum_over f ks ≡ sum_over g ks
unfolding sum_over
over-all f g [] h = refl
over-all f g (k ∷ ks) h = ap₂ ◌+ℤ◌ h.0 (over-all f g ks h.1)

over_none : (ks : List (List ℕ)) → sum_over (λ k. pos 0) ks ≡ pos 0
unfolding sum_over
over_none [] = refl
over_none (k ∷ ks) = +ℤ_idl (sum_over (λ k. pos 0) ks) ∙ over_none ks

-- ---- one value at one key of a rising list
abbrev only : Bool → ℤ → ℤ
only t v = cond t v (pos 0)

same-swap : (a b : List ℕ) → same a b ≡ same b a
same-swap a b = same-iff a b b a sym sym

over-one : (c : List ℕ) (v : ℤ) (ks : List (List ℕ)) → Rising itself ks → sum_over (λ k. only (same k c) v) ks ≡ only (member c ks) v
unfolding sum_over
over-one c v [] u = refl
over-one c v (k ∷ ks) u = ap (λ (t : Bool). only t v +ℤ sum_over (λ k. only (same k c) v) ks) (same-swap k c) ∙ go (same c k) refl (over-one c v ks u.1)
  where
    none_after : same c k ≡ true → member c ks ≡ false
    none_after e = no_member c ks (all_map ks (λ x l. below-not-same c x (subst (λ (y : List ℕ). order y x ≡ Less) (sym (same-eq c k e)) l)) u.0)

    go : (t : Bool) → same c k ≡ t → sum_over (λ k. only (same k c) v) ks ≡ only (member c ks) v → only t v +ℤ sum_over (λ k. only (same k c) v) ks ≡ only (t || member c ks) v
    go true e r = ap (λ (x : ℤ). v +ℤ x) (r ∙ ap (λ (t : Bool). only t v) (none_after e)) ∙ +ℤ_idr v
    go false e r = +ℤ_idl (sum_over (λ k. only (same k c) v) ks) ∙ r

-- ---- every entry is counted once

differs : (a b : List ℕ) → same a b ≡ false → a ≡ b → ⊥
differs a b s i = true≢false (sym (same-is a b i) ∙ s)

square-cons : (k : List ℕ) (e : Entry) (es : List Entry) → at e.key es ≡ None → square_of (at k (e ∷ es)) ≡ only (same k e.key) (squared ints (gauss e.amp)) +ℤ square_of (at k es)
square-cons k e es n = go (same k e.key) refl
  where
    v : ℤ
    v = squared ints (gauss e.amp)

    go : (t : Bool) → same k e.key ≡ t → square_of (at k (e ∷ es)) ≡ only t v +ℤ square_of (at k es)
    go true h = ap square_of (at_here k e es (same-eq k e.key h)) ∙ sym (ap (λ (m : Option Complex). v +ℤ square_of m) (ap (λ (x : List ℕ). at x es) (same-eq k e.key h) ∙ n) ∙ +ℤ_idr v)
    go false h = ap square_of (at_other k e es (differs k e.key h)) ∙ sym (+ℤ_idl (square_of (at k es)))

-- an address, or its partner, is the key of e: where the address is that key with bit q clear
one_side : (n q : ℕ) (k c : List ℕ) (v : ℤ) → q < 64 * n → Address n q k → IsKey n c → only (same k c) v +ℤ only (same (toggle q k) c) v ≡ only (same k (clear q c)) v
one_side n q k c v l a i = go (bit_at q c) refl
  where
    go : (t : Bool) → bit_at q c ≡ t → only (same k c) v +ℤ only (same (toggle q k) c) v ≡ only (same k (clear q c)) v
    go true b =
        ap₂ (λ (x y : Bool). only x v +ℤ only y v)
        (not_same k c (λ e. true≢false (sym b ∙ sym (ap (bit_at q) e) ∙ a.1)))
        (sym (same-toggle q k c (qubit-word n q k l a.0) (qubit-word n q c l i)) ∙ ap (same k) (sym (clear-on q c b)))
        ∙ +ℤ_idl (only (same k (clear q c)) v)
    go false b =
        ap₂ (λ (x y : Bool). only x v +ℤ only y v)
        (ap (same k) (sym (clear-off q c b)))
        (not_same (toggle q k) c (λ e. true≢false (sym (bit-toggle q k (qubit-word n q k l a.0) ∙ ap not a.1) ∙ ap (bit_at q) e ∙ b)))
        ∙ +ℤ_idr (only (same k (clear q c)) v)

-- ---- the sum over a rising list of addresses that covers the entries
abbrev pub pair_squares : ℕ → List Entry → List ℕ → ℤ
pair_squares q es k = square_of (at k es) +ℤ square_of (at (toggle q k) es)

-- an address that is not in the list has no entry, and neither has its partner
abbrev pub Covers : ℕ → ℕ → List (List ℕ) → List Entry → Type 0
Covers n q ks es = (k : List ℕ) → Address n q k → member k ks ≡ false → Bare q k es

none-without : (k : List ℕ) (e : Entry) (es : List Entry) → at k (e ∷ es) ≡ None → (same k e.key ≡ false) × (at k es ≡ None)
none-without k e es h = go (same k e.key) refl
  where
    go : (t : Bool) → same k e.key ≡ t → (same k e.key ≡ false) × (at k es ≡ None)
    go true s = absurd (Some≢None e.amp (sym (at_here k e es (same-eq k e.key s)) ∙ h))
    go false s = (s, sym (at_other k e es (differs k e.key s)) ∙ h)

module _ (n q : ℕ) (l : q < 64 * n) (ks : List (List ℕ)) (up : Rising itself ks) (addr : All (Address n q) ks) where
  -- the address of an entry is in the list
  covered : (e : Entry) (es : List Entry) → IsKey n e.key → Covers n q ks (e ∷ es) → member (clear q e.key) ks ≡ true
  covered e es i cover = go (member c ks) refl
    where
      c : List ℕ
      c = clear q e.key

      h : q / 64 < length e.key
      h = qubit-word n q e.key l i

      own : (t : Bool) → bit_at q e.key ≡ t → Bare q c (e ∷ es) → ⊥
      own true b z = true≢false (sym (same-is (toggle q c) e.key (ap (toggle q) (clear-on q e.key b) ∙ toggle-toggle q e.key h)) ∙ (none-without (toggle q c) e es z.1).0)
      own false b z = true≢false (sym (same-is c e.key (clear-off q e.key b)) ∙ (none-without c e es z.0).0)

      go : (t : Bool) → member c ks ≡ t → member c ks ≡ true
      go true m = m
      go false m = absurd (own (bit_at q e.key) refl (cover c (clear-key n q e.key i, bit-clear q e.key h) m))

  pub cover-sum : (es : List Entry) → All (λ e. IsKey n e.key) es → Distinct key_in es → Covers n q ks es → sum_over (pair_squares q es) ks ≡ exact_sum es
  unfolding exact_sum
  cover-sum [] keys d cover = over-all (pair_squares q []) (λ k. pos 0) ks (all_map ks (λ k a. ap₂ (λ (x y : Option Complex). square_of x +ℤ square_of y) (at-nil k) (at-nil (toggle q k))) addr) ∙ over_none ks
  cover-sum (e ∷ es) keys d cover =
      over-all (pair_squares q (e ∷ es)) (λ k. only (same k c) v +ℤ pair_squares q es k) ks
      (all_map ks (λ k a. ap₂ ◌+ℤ◌ (square-cons k e es (at_none e.key es d.0)) (square-cons (toggle q k) e es (at_none e.key es d.0))
      ∙ four (only (same k e.key) v) (square_of (at k es)) (only (same (toggle q k) e.key) v) (square_of (at (toggle q k) es))
      ∙ ap (λ (x : ℤ). x +ℤ pair_squares q es k) (one_side n q k e.key v l a keys.0)) addr)
      ∙ sym (over_add (λ k. only (same k c) v) (pair_squares q es) ks)
      ∙ ap₂ ◌+ℤ◌ (over-one c v ks up ∙ ap (λ (t : Bool). only t v) (covered e es keys.0 cover))
      (cover-sum es keys.1 d.1 (λ k a m. let z = cover k a m in ((none-without k e es z.0).1, (none-without (toggle q k) e es z.1).1)))
    where
      v : ℤ
      v = squared ints (gauss e.amp)

      c : List ℕ
      c = clear q e.key
