-- The changes along both parts by the tag's qubit: what the pair merge meets has the partners that
-- its entries have, and meets each entry once. For the proof of `total_by_tag`. Assumes nothing.
use mathlib.Core.Path.{◌≡◌, refl, sym, ap, ap₂, ◌∙◌, subst}
use Prim.Native.Nat.{ℕ, ◌+◌, ◌*◌, ◌/◌, ◌<◌, ◌≤◌}
use native.Mathlib.Nat.{add_assoc}
use native.Mathlib.Omega.{arith}
use mathlib.Core.List.{List, [], ◌∷◌, Permᴰ}
use mathlib.Core.Bool.{Bool, true, false, not, ◌&&◌}
use Rattle.std.specs.Prelude.{None, Some, Result, Ok, Err}
use lib.ListN.{length}
use Rattle.amplitudes.specs.declared.Complex.{Complex}
use Rattle.amplitudes.specs.declared.U4.{U4}
use Rattle.amplitudes.specs.Pairs.{combined}
use Rattle.keys.specs.Keys.{toggle}
use Rattle.keys.specs.Lists.{All}
use Rattle.merge.specs.Walks.{InPair, Whole}
use Rattle.merge.specs.Records.{Entry, key_of, record_bit, amplitude_of, decode, entries, at}
use Rattle.merge.specs.Laws.{part-whole, record-key-length, address, address_of, pairs-ind, pair_records, pairs-once, in_pair, on_side, amplitude_in, rise-addressed, pair-amplitudes, clear-off, clear-on, all_map, all_both, every-pair}
use Rattle.merge.specs.Pairs.{Pair, lhs, rhs, both, pairs}
use Rattle.estimates.specs.declared.Accepted.{Accepted}
use Rattle.amplitudes.specs.declared.Combined.{Combined}
use Rattle.statevector.specs.declared.Refusal.{Refusal}
use Rattle.estimates.specs.Estimates.{pair_at, finite_sums}
use Rattle.estimates.specs.Passes.{dropped_of, unpaired_of, drops_of, both_of, unpaired_in, dropped_in, finite_in, totals_of}
use Rattle.estimates.specs.Laws.{pair-alone, pair-with, entries-length, few-unpaired, few-dropped}
use Rattle.statevector.specs.Laws.{tag-is}
use Rattle.statevector.specs.States.{part_of, entries_of, tag_is}
use Rattle.estimates.proofs.Estimating.{ready, Adding, total-alone, total-drops, total-refused, total-all}

-- ---- the partners of a pair's entries

module _ (n q : ℕ) where
  -- a record on side b whose partner's key is that of address k on the other side
  abbrev Facing : Bool → List ℕ → List ℕ → Type 0
  Facing b k r = (record_bit n q r ≡ b) × (toggle q (key_of n r) ≡ on_side (not b) q k)

  abbrev FacingIn : Pair → Type 0
  FacingIn (lhs x) = Facing false (address n q x) x
  FacingIn (rhs y) = Facing true (address n q y) y
  FacingIn (both x y) = Facing false (address n q x) x × Facing true (address n q x) y

  facing : (b : Bool) (r : List ℕ) → record_bit n q r ≡ b → Facing b (address n q r) r
  facing false r e = (e, ap (toggle q) (sym (clear-off q (key_of n r) e)))
  facing true r e = (e, sym (clear-on q (key_of n r) e))

  all-facing : (xs ys : List (List ℕ)) → All (λ r. record_bit n q r ≡ false) xs → All (λ r. record_bit n q r ≡ true) ys → All FacingIn (pairs n q xs ys)
  all-facing =
      pairs-ind n q (λ xs ys ps. All (λ r. record_bit n q r ≡ false) xs → All (λ r. record_bit n q r ≡ true) ys → All FacingIn ps)
      (λ f g. tt)
      (λ y ys ps r f g. (facing true y g.0, r f g.1))
      (λ x xs ps r f g. (facing false x f.0, r f.1 g))
      (λ x y xs ys ps l r f g. (facing false x f.0, r f.1 g))
      (λ x y xs ys ps e r f g. ((facing false x f.0, subst (λ (k : List ℕ). Facing true k y) (sym e) (facing true y g.0)), r f.1 g.1))
      (λ x y xs ys ps l r f g. (facing true y g.0, r f g.1))

module _ (n q : ℕ) (g : U4) (es : List Entry) where
  -- one entry has no partner; of two each is the other's
  abbrev pub Partners : Pair → Type 0
  Partners (lhs x) = pair_at q g es (decode n x) ≡ None
  Partners (rhs y) = pair_at q g es (decode n y) ≡ None
  Partners (both x y) =
      (pair_at q g es (decode n x) ≡ Some (combined g false (amplitude_of n x) (amplitude_of n y))) × (pair_at q g es (decode n y) ≡ Some (combined g true (amplitude_of n y) (amplitude_of n x)))

  paired : (b : Bool) (k r : List ℕ) (a : Complex) → Facing n q b k r → at (on_side (not b) q k) es ≡ Some a → pair_at q g es (decode n r) ≡ Some (combined g b (amplitude_of n r) a)
  paired b k r a f h =
      pair-with n q g es r a (ap (λ (k : List ℕ). at k es) f.1 ∙ h) ∙ ap (λ (b : Bool). Some (combined g b (amplitude_of n r) a)) f.0

  partners : (p : Pair) → FacingIn n q p → ((b : Bool) → at (on_side b q (address_of n q p)) es ≡ amplitude_in n (in_pair b p)) → Partners p
  partners (lhs x) f h = pair-alone n q g es x (ap (λ (k : List ℕ). at k es) f.1 ∙ h true)
  partners (rhs y) f h = pair-alone n q g es y (ap (λ (k : List ℕ). at k es) f.1 ∙ h false)
  partners (both x y) f h = (paired false (address n q x) x (amplitude_of n y) f.0 (h true), paired true (address n q x) y (amplitude_of n x) f.1 (h false))

  -- ---- the order of entries does not matter

  record Alike (a b : List Entry) : Type 0 where
    unpaired : unpaired_in q g es a ≡ unpaired_in q g es b
    drops : dropped_in q g es a ≡ dropped_in q g es b
    finite : finite_in q g es a ≡ finite_in q g es b

  and-swap : (a b c : Bool) → (a && (b && c)) ≡ (b && (a && c))
  and-swap true b c = refl
  and-swap false true c = refl
  and-swap false false c = refl

  alike : {a b : List (List ℕ)} → Permᴰ a b → Alike (entries n a) (entries n b)
  unfolding unpaired_in dropped_in finite_in
  alike Permᴰ.nil = record { unpaired = refl; drops = refl; finite = refl }
  alike (Permᴰ.cons e p) =
      let r = alike p in
      record {
        unpaired = ap₂ (λ (x : List ℕ) (k : ℕ). unpaired_of (pair_at q g es (decode n x)) + k) e r.unpaired;
        drops = ap₂ (λ (x : List ℕ) (k : ℕ). dropped_of (pair_at q g es (decode n x)) + k) e r.drops;
        finite = ap₂ (λ (x : List ℕ) (k : Bool). finite_sums (pair_at q g es (decode n x)) && k) e r.finite;
      }
  alike (Permᴰ.swap {a = x} {b = y} {l = l} d e) = rw (← d, ← e)
      (record {
        unpaired = omega arith;
        drops = omega arith;
        finite = and-swap (finite_sums (pair_at q g es (decode n x))) (finite_sums (pair_at q g es (decode n y))) (finite_in q g es (entries n l));
      })
  alike (Permᴰ.trans p r) =
      let a = alike p in
      let b = alike r in
      record { unpaired = a.unpaired ∙ b.unpaired; drops = a.drops ∙ b.drops; finite = a.finite ∙ b.finite }

-- ---- a turn of the walk

-- the pairs ps are left
pub record Walking (n q : ℕ) (g : U4) (es : List Entry) (ps : List Pair) (u d : ℕ) : Type 0 where
  pub partners : All (Partners n q g es) ps
  pub whole : All (InPair (Whole n)) ps
  pub adding : Adding q g es (entries n (pair_records ps)) u d

module _ (n q : ℕ) (g : U4) (es : List Entry) (ps : List Pair) (u d : ℕ) where
  -- an entry without a partner
  pub walk-lhs : (x : List ℕ) → Walking n q g es (lhs x ∷ ps) u d → Walking n q g es ps (u + 1) d
  walk-lhs x w = record { partners = w.partners.1; whole = w.whole.1; adding = total-alone q g es _ _ u d w.adding w.partners.0 }

  pub walk-rhs : (y : List ℕ) → Walking n q g es (rhs y ∷ ps) u d → Walking n q g es ps (u + 1) d
  walk-rhs y w = record { partners = w.partners.1; whole = w.whole.1; adding = total-alone q g es _ _ u d w.adding w.partners.0 }

  -- two that are partners: each is counted, or has a sum that is not finite
  abbrev pub Walked : Result ℕ Refusal → Type 0
  Walked (Ok k) = Walking n q g es ps u (d + k)
  Walked (Err r) = totals_of q g es ≡ Err r

  module _ (x y : List ℕ) (w : Walking n q g es (both x y ∷ ps) u d) where
    two : (p r : Combined) → pair_at q g es (decode n x) ≡ Some p → pair_at q g es (decode n y) ≡ Some r → (c e : Result ℕ Refusal) → c ≡ drops_of p → e ≡ drops_of r → Walked (both_of c e)
    two p r s t (Ok k) (Ok l) h o =
        record {
          partners = w.partners.1;
          whole = w.whole.1;
          adding = subst (Adding q g es _ u) (add_assoc d k l) (total-drops q g es (decode n y) _ u (d + k) (total-drops q g es (decode n x) _ u d w.adding p s k h) r t l o);
        }
    two p r s t (Ok k) (Err f) h o = total-refused q g es (decode n y) _ u (d + k) (total-drops q g es (decode n x) _ u d w.adding p s k h) r t f o
    two p r s t (Err f) e h o = total-refused q g es (decode n x) _ u d w.adding p s f h

    pub walk-both : (p r : Complex) → p ≡ amplitude_of n x → r ≡ amplitude_of n y
        → (c : Result ℕ Refusal) → c ≡ both_of (drops_of (combined g false p r)) (drops_of (combined g true r p)) → Walked c
    walk-both p r f h c e =
        let o = w.partners.0 in
        subst Walked (sym (e ∙ ap₂ (λ (p r : Complex). both_of (drops_of (combined g false p r)) (drops_of (combined g true r p))) f h))
        (two _ _ o.0 o.1 _ _ refl refl)

-- no pair is left
pub walk-all : (n q : ℕ) (g : U4) (es : List Entry) (u d : ℕ) → Walking n q g es [] u d → totals_of q g es ≡ Ok (record { unpaired = u; dropped = d })
walk-all n q g es u d w = total-all q g es u d w.adding

-- ---- of an accepted call

abbrev pub WalkingIn : Accepted → List Pair → ℕ → ℕ → Type 0
WalkingIn a ps u d = Walking a.s.width a.q a.g (entries_of a.s a.ws.now) ps u d

module _ (a : Accepted) where
  -- no more is counted than there is
  pub walk-few : (ps : List Pair) (u d : ℕ) → WalkingIn a ps u d → (u ≤ a.s.n0 + a.s.n1) × (d ≤ 2 * (a.s.n0 + a.s.n1))
  walk-few ps u d w =
      let es = entries_of a.s a.ws.now in
      let m = w.adding.unpaired in
      let k = w.adding.drops in
      let l = entries-length a.s a.ws.now in
      (omega (arith, few-unpaired a.q a.g es es), omega (arith, few-dropped a.q a.g es es))

  -- the walk begins
  pub walk_none : tag_is a.s.tag a.q ≡ true → WalkingIn a (pairs a.s.width a.q (part_of false a.s a.ws.now) (part_of true a.s a.ws.now)) 0 0
  walk_none e =
      let s = a.s in
      let q = a.q in
      let ws = a.ws.now in
      let n = s.width in
      let X = part_of false s ws in
      let Y = part_of true s ws in
      let es = entries_of s ws in
      let r = ready a in
      let h = r.sound in
      let t = h.sides q (tag-is s.tag q e) in
      let k = alike n q a.g es (pairs-once n q X Y) in
      let wide : All (λ r. length r ≡ n + 2) X = part-whole n ws 0 s.n0 r.room0 in
      let wide1 : All (λ r. length r ≡ n + 2) Y = part-whole n ws s.n0 (s.n0 + s.n1) h.room in
      let inside : (rs : List (List ℕ)) → All (λ r. length r ≡ n + 2) rs → All (λ r. q / 64 < length (key_of n r)) rs = (λ rs. all_map rs (λ x l. rw (record-key-length n x l) r.inside)) in
      record {
        partners =
            all_map (pairs n q X Y) (λ p f. partners n q a.g es p f.0 f.1)
            (all_both _ _ (pairs n q X Y) (all-facing n q X Y (t.1 false) (t.1 true))
            (pair-amplitudes n q X Y (t.1 false) (t.1 true) (inside X wide) (inside Y wide1)
            (rise-addressed n q false X (t.1 false) (h.rise false))
            (rise-addressed n q true Y (t.1 true) (h.rise true))));
        whole = every-pair (Whole n) n q X Y (all_both _ _ X wide (h.finites false)) (all_both _ _ Y wide1 (h.finites true));
        adding = record { unpaired = let x = k.unpaired in omega arith; drops = let x = k.drops in omega arith; finite = k.finite };
      }
