-- A gate at every key: looking a key up among its results gives the new amplitude that the textbook
-- has there. The new parts rise, lie on their sides, and hold what was tested. Assumes nothing.
use Rattle.std.specs.declared.cmp.Ordering.TheVariants.{Less}
use Rattle.std.specs.Prelude.{◌≡◌, ℕ, ◌*◌, ◌<◌, Bool, cond, ◌&&◌, ◌||◌, None, Option, Some}
use Rattle.std.proofs.Math.Path.{refl, ap}
use Rattle.std.proofs.Common.{sym, ap₂, ◌∙◌, subst, true≢false}
use mathlib.Core.List.{List, [], ◌∷◌, ◌++◌, map}
use Rattle.std.proofs.Math.Bool.{true, false, not}
use Rattle.amplitudes.specs.declared.Complex.{Complex}
use Rattle.amplitudes.specs.declared.U4.{U4}
use Rattle.amplitudes.specs.Amplitudes.{times, finite_c, FitsC}
use Rattle.amplitudes.specs.Pairs.{accumulated, is_kept}
use Rattle.keys.specs.Keys.{order, same, bit_at, toggle, IsKey}
use Rattle.keys.specs.Lists.{All}
use Rattle.merge.specs.Laws.{member, itself, Address, addresses-rise, addresses-clear, no_address, key_in, at-nil, at_here, at_other, at_none, at-append, or_else, or_else-none, not-self, Some≢None, times-fits, plus-fits, accumulated-is, same-eq, same-is, same-toggle, toggle-order, toggle-key, toggle-toggle, bit-toggle, qubit-word, all_map, all_both, and-true-l, and_true_r}
use Rattle.merge.specs.Records.{Entry, at}
use Rattle.merge.specs.Sorting.{Rising}
use Rattle.gates.specs.Gate.{New, nothing, product, sum, new_at, pruned, finite_new, new_for, key_for, entered, new_part, addresses_in, gate_part, gate_finite}
use Rattle.statevector.specs.Tests.{all}

-- ---- the entries of a new part

-- what holds of each amplitude that stays holds of the part's entries
pub new-all : (P : Entry → Type 0) (q : ℕ) (g : U4) (b : Bool) (es : List Entry) (ks : List (List ℕ))
    → All (λ k. (a : Complex) → pruned (new_for q g b es k) ≡ Some a → P (record { key = key_for q b k; amp = a })) ks → All P (new_part q g b es ks)
unfolding new_part
new-all P q g b es [] h = tt
new-all P q g b es (k ∷ ks) h = go (pruned (new_for q g b es k)) refl (new-all P q g b es ks h.1)
  where
    go : (m : Option Complex) → pruned (new_for q g b es k) ≡ m → All P (new_part q g b es ks) → All P (entered (key_for q b k) m (new_part q g b es ks))
    go None e r = r
    go (Some a) e r = (h.0 a e, r)

-- and what holds of each key
pub new-keys : (P : List ℕ → Type 0) (q : ℕ) (g : U4) (b : Bool) (es : List Entry) (ks : List (List ℕ)) → All (λ k. P (key_for q b k)) ks → All (λ e. P e.key) (new_part q g b es ks)
new-keys P q g b es ks h = new-all (λ e. P e.key) q g b es ks (all_map ks (λ k p a e. p) h)

-- the two keys of addresses stand to each other as the addresses do
key-order : (n q : ℕ) (b : Bool) (x y : List ℕ) → q < 64 * n → Address n q x → Address n q y → order x y ≡ Less → order (key_for q b x) (key_for q b y) ≡ Less
key-order n q false x y l p r e = e
key-order n q true x y l p r e = toggle-order q x y (qubit-word n q x l p.0) (qubit-word n q y l r.0) (p.1 ∙ sym r.1) ∙ e

new-rises : (n q : ℕ) (g : U4) (b : Bool) (es : List Entry) → q < 64 * n → (ks : List (List ℕ)) → All (Address n q) ks → Rising itself ks → Rising key_in (new_part q g b es ks)
unfolding new_part
new-rises n q g b es l [] h u = tt
new-rises n q g b es l (k ∷ ks) h u = go (pruned (new_for q g b es k)) (new-rises n q g b es l ks h.1 u.1)
  where
    above : All (λ e. order (key_for q b k) e.key ≡ Less) (new_part q g b es ks)
    above = new-keys (λ x. order (key_for q b k) x ≡ Less) q g b es ks (all_map ks (λ x p. key-order n q b k x l h.0 p.0 p.1) (all_both (Address n q) (λ x. order k x ≡ Less) ks h.1 u.0))

    go : (m : Option Complex) → Rising key_in (new_part q g b es ks) → Rising key_in (entered (key_for q b k) m (new_part q g b es ks))
    go None r = r
    go (Some a) r = (above, r)

-- looking up in a part: j is the address for which k is written
abbrev when : Bool → Option Complex → Option Complex
when true m = m
when false m = None

at_new : (q : ℕ) (g : U4) (b : Bool) (es : List Entry) (k j : List ℕ) (ks : List (List ℕ)) → All (λ x. same k (key_for q b x) ≡ same j x) ks
    → at k (new_part q g b es ks) ≡ when (member j ks) (pruned (new_for q g b es j))
unfolding new_part
at_new q g b es k j [] h = at-nil k
at_new q g b es k j (x ∷ ks) h = go (same j x) refl (pruned (new_for q g b es x)) refl (at_new q g b es k j ks h.1)
  where
    m : List ℕ → Option Complex
    m y = pruned (new_for q g b es y)

    again : (t : Bool) → when t None ≡ None
    again true = refl
    again false = refl

    go : (t : Bool) → same j x ≡ t → (y : Option Complex) → pruned (new_for q g b es x) ≡ y → at k (new_part q g b es ks) ≡ when (member j ks) (pruned (new_for q g b es j))
        → at k (entered (key_for q b x) y (new_part q g b es ks)) ≡ when (t || member j ks) (pruned (new_for q g b es j))
    go true e None n r = r ∙ ap (when (member j ks)) (ap m (same-eq j x e) ∙ n) ∙ again (member j ks) ∙ sym n ∙ ap m (sym (same-eq j x e))
    go true e (Some a) n r = at_here k (record { key = key_for q b x; amp = a }) (new_part q g b es ks) (same-eq k (key_for q b x) (h.0 ∙ e)) ∙ sym n ∙ ap m (sym (same-eq j x e))
    go false e None n r = r
    go false e (Some a) n r = at_other k (record { key = key_for q b x; amp = a }) (new_part q g b es ks) (λ i. true≢false (sym (same-is k (key_for q b x) i) ∙ h.0 ∙ e)) ∙ r

-- nothing comes of nothing
nothing-new : (g : U4) (b : Bool) (x y : Option Complex) → x ≡ None → y ≡ None → pruned (new_at g b x y) ≡ None
nothing-new g true x y p r = ap₂ (λ (u v : Option Complex). pruned (new_at g true u v)) p r
nothing-new g false x y p r = ap₂ (λ (u v : Option Complex). pruned (new_at g false u v)) p r

-- the new amplitude at an address is made of the two amplitudes before the gate
pub new_is : (q : ℕ) (g : U4) (b : Bool) (es : List Entry) (k : List ℕ) → new_for q g b es k ≡ new_at g b (at k es) (at (toggle q k) es)
unfolding new_for
new_is q g b es k = refl

pub new_none : (q : ℕ) (g : U4) (b : Bool) (es : List Entry) (k : List ℕ) → at k es ≡ None → at (toggle q k) es ≡ None → pruned (new_for q g b es k) ≡ None
new_none q g b es k p r = ap pruned (new_is q g b es k) ∙ nothing-new g b (at k es) (at (toggle q k) es) p r

-- both new parts together
abbrev pub results : ℕ → U4 → List Entry → List Entry
results q g es = gate_part q g false es ++ gate_part q g true es

module _ (n q : ℕ) (g : U4) (es : List Entry) (l : q < 64 * n) (keys : All (λ e. IsKey n e.key) es) where
  pub addresses-of : All (Address n q) (addresses_in q es)
  addresses-of = addresses-clear n q (map (λ (e : Entry). e.key) es) l (mapped es keys)
    where
      mapped : (fs : List Entry) → All (λ e. IsKey n e.key) fs → All (IsKey n) (map (λ (e : Entry). e.key) fs)
      mapped [] h = tt
      mapped (f ∷ fs) h = (h.0, mapped fs h.1)

  -- the keys of a new part are keys on its side
  pub part-keys : (b : Bool) → All (λ e. IsKey n e.key × (bit_at q e.key ≡ b)) (gate_part q g b es)
  unfolding gate_part
  part-keys b = new-keys (λ k. IsKey n k × (bit_at q k ≡ b)) q g b es (addresses_in q es) (all_map (addresses_in q es) (λ k a. one b k a) addresses-of)
    where
      one : (b : Bool) (k : List ℕ) → Address n q k → IsKey n (key_for q b k) × (bit_at q (key_for q b k) ≡ b)
      one false k a = a
      one true k a = (toggle-key n q k a.0, bit-toggle q k (qubit-word n q k l a.0) ∙ ap not a.1)

  pub part-rises : (b : Bool) → Rising key_in (gate_part q g b es)
  unfolding gate_part
  part-rises b = new-rises n q g b es l (addresses_in q es) addresses-of (addresses-rise q (map (λ (e : Entry). e.key) es))

  -- at a key of the other side there is nothing in a part
  other_none : (b : Bool) (k : List ℕ) → bit_at q k ≡ not b → at k (gate_part q g b es) ≡ None
  other_none b k e = at_none k (gate_part q g b es) (all_map (gate_part q g b es) (λ f p i. not-self b (sym e ∙ ap (bit_at q) i ∙ p.1)) (part-keys b))

  own-part : (b : Bool) (k : List ℕ) → Address n q k → at (key_for q b k) (gate_part q g b es) ≡ pruned (new_for q g b es k)
  unfolding gate_part new_for
  own-part b k a =
      at_new q g b es (key_for q b k) k (addresses_in q es) (all_map (addresses_in q es) (λ x p. turned b x p) addresses-of)
      ∙ go (member k (addresses_in q es)) refl
    where
      turned : (b : Bool) (x : List ℕ) → Address n q x → same (key_for q b k) (key_for q b x) ≡ same k x
      turned false x p = refl
      turned true x p =
          same-toggle q (toggle q k) x (qubit-word n q (toggle q k) l (toggle-key n q k a.0)) (qubit-word n q x l p.0)
          ∙ ap (λ (j : List ℕ). same j x) (toggle-toggle q k (qubit-word n q k l a.0))

      go : (t : Bool) → member k (addresses_in q es) ≡ t → when t (pruned (new_for q g b es k)) ≡ pruned (new_for q g b es k)
      go true e = refl
      go false e = let z = no_address q k es (qubit-word n q k l a.0) a.1 e in sym (nothing-new g b (at k es) (at (toggle q k) es) z.0 z.1)

  -- THE LAW: what stands at an address, or at its partner, after the gate
  pub gate-at : (b : Bool) (k : List ℕ) → Address n q k → at (key_for q b k) (results q g es) ≡ pruned (new_for q g b es k)
  gate-at false k a =
      at-append k (gate_part q g false es) (gate_part q g true es) ∙ ap₂ or_else (own-part false k a) (other_none true k a.1) ∙ or_else-none (pruned (new_for q g false es k))
  gate-at true k a =
      let t : bit_at q (toggle q k) ≡ true = bit-toggle q k (qubit-word n q k l a.0) ∙ ap not a.1 in
      at-append (toggle q k) (gate_part q g false es) (gate_part q g true es) ∙ ap₂ or_else (other_none false (toggle q k) t) (own-part true k a)

-- ---- what was computed, was tested and fits the format

pub some_inj : (a b : Complex) → Some a ≡ Some b → a ≡ b
some_inj a b e = cc

-- what stays of a new amplitude is finite where the new amplitude is
kept-finite : (m : New) (a : Complex) → finite_new m ≡ true → pruned m ≡ Some a → finite_c a ≡ true
kept-finite nothing a f e = absurd (Some≢None a (sym e))
kept-finite (product x) a f e = ap finite_c (sym (some_inj x a e)) ∙ f
kept-finite (sum x) a f e = go (is_kept x.verdict) e
  where
    go : (t : Bool) → cond t (Some x.sum) None ≡ Some a → finite_c a ≡ true
    go true e = ap finite_c (sym (some_inj x.sum a e)) ∙ f
    go false e = absurd (Some≢None a (sym e))

-- and it fits the format
abbrev FitsNew : New → Type 0
FitsNew nothing = Unit
FitsNew (product a) = FitsC a
FitsNew (sum a) = FitsC a.sum

sum_fits : (a b : Complex) → FitsC (accumulated a b).sum
sum_fits a b = rw (accumulated-is a b) (plus-fits a b)

new-fits : (g : U4) (b : Bool) (x y : Option Complex) → FitsNew (new_at g b x y)
new-fits g true None None = tt
new-fits g false None None = tt
new-fits g false (Some x) None = times-fits g.s0 x
new-fits g true (Some x) None = times-fits g.f0 x
new-fits g false None (Some y) = times-fits g.f1 y
new-fits g true None (Some y) = times-fits g.s1 y
new-fits g false (Some x) (Some y) = sum_fits (times g.s0 x) (times g.f1 y)
new-fits g true (Some x) (Some y) = sum_fits (times g.f0 x) (times g.s1 y)

kept-fits : (m : New) (a : Complex) → FitsNew m → pruned m ≡ Some a → FitsC a
kept-fits nothing a f e = absurd (Some≢None a (sym e))
kept-fits (product x) a f e = subst FitsC (some_inj x a e) f
kept-fits (sum x) a f e = go (is_kept x.verdict) e
  where
    go : (t : Bool) → cond t (Some x.sum) None ≡ Some a → FitsC a
    go true e = subst FitsC (some_inj x.sum a e) f
    go false e = absurd (Some≢None a (sym e))

module _ (q : ℕ) (g : U4) (es : List Entry) where
  every : (P : List ℕ → Type 0) (ks : List (List ℕ)) → ((k : List ℕ) → P k) → All P ks
  every P [] f = tt
  every P (k ∷ ks) f = (f k, every P ks f)

  pub part-fits : (b : Bool) → All (λ e. FitsC e.amp) (gate_part q g b es)
  unfolding gate_part new_for
  part-fits b = new-all (λ e. FitsC e.amp) q g b es (addresses_in q es) (every _ (addresses_in q es) (λ k a e. kept-fits (new_for q g b es k) a (new-fits g b (at k es) (at (toggle q k) es)) e))

  tested : (ks : List (List ℕ)) → all (λ (k : List ℕ). finite_new (new_for q g false es k) && finite_new (new_for q g true es k)) ks ≡ true → (b : Bool) → All (λ k. finite_new (new_for q g b es k) ≡ true) ks
  tested [] h b = tt
  tested (k ∷ ks) h b =
      let both = and-true-l (finite_new (new_for q g false es k) && finite_new (new_for q g true es k)) _ h in
      (one b both, tested ks (and_true_r (finite_new (new_for q g false es k) && finite_new (new_for q g true es k)) _ h) b)
    where
      one : (b : Bool) → (finite_new (new_for q g false es k) && finite_new (new_for q g true es k)) ≡ true → finite_new (new_for q g b es k) ≡ true
      one false e = and-true-l (finite_new (new_for q g false es k)) (finite_new (new_for q g true es k)) e
      one true e = and_true_r (finite_new (new_for q g false es k)) (finite_new (new_for q g true es k)) e

  pub part-finite : gate_finite q g es ≡ true → (b : Bool) → All (λ e. finite_c e.amp ≡ true) (gate_part q g b es)
  unfolding gate_part gate_finite
  part-finite h b =
      new-all (λ e. finite_c e.amp ≡ true) q g b es (addresses_in q es)
      (all_map (addresses_in q es) (λ k f a e. kept-finite (new_for q g b es k) a f e) (tested (addresses_in q es) h b))
