-- Records of an outcome, divided and copied part by part. For the proofs of `do_measure_copy` and
-- `copy_parts`. Assumes nothing.
use mathlib.Core.Path.{◌≡◌, sym, ap, ap₂, ◌∙◌, subst}
use Prim.Native.Nat.{ℕ, ◌+◌, ◌-◌, ◌*◌, ◌≤◌}
use native.Mathlib.Omega.{arith}
use native.Mathlib.Nat.{zero-add, add-zero, suc-mul}
use mathlib.Core.List.{List, [], ◌∷◌, ◌++◌, map-append}
use mathlib.Core.Bool.{Bool, true, false, ◌&&◌}
use borrow.Rule.Slice.PartMut.{put_mid}
use lib.Ieee.{Float}
use lib.ListN.{length, take, drop}
use lib.Seq.{sets, length-sets}
use Rattle.amplitudes.specs.Amplitudes.{over, finite_c}
use Rattle.keys.specs.Lists.{All}
use Rattle.merge.specs.Records.{flat, amplitude_of, finite_record}
use Rattle.merge.specs.Laws.{all-side, part-whole, flat-length, flat_append, sets-append, tail-back, all_left, all_right, sets-no-records, and-true-l, and_true_r}
use Rattle.merge.specs.Sorting.{choose}
use Rattle.merge.specs.Walks.{Whole}
use Rattle.statevector.specs.declared.State.{State}
use Rattle.statevector.specs.States.{part_of}
use Rattle.statevector.specs.Tests.{all_finite}
use Rattle.statevector.specs.Laws.{all-finite, finite-all}
use Rattle.measurement.specs.declared.Projection.{Projection}
use Rattle.measurement.specs.Measurement.{kept_of, divided}
use Rattle.measurement.specs.Passes.{divided_side, divided_records}
use Rattle.measurement.proofs.Matches.{divided-length, divided-finite, divided-many, all-divided, all-finite-cons, has_outcome, outcome-none, outcome-cons}

-- ---- records written one after the other

sets-first : (ws : List ℕ) (i : ℕ) (r : List ℕ) (rs : List (List ℕ)) → sets ws i (flat (r ∷ rs)) ≡ sets (sets ws i r) (i + length r) (flat rs)
unfolding flat
sets-first ws i r rs = sets-append ws i r (flat rs)

-- ---- copied

-- records are left, and the next one's place is word `o` of `back`. With those of the outcome among
-- them, divided, written from there on `back` is `final`
pub record Copying (n q : ℕ) (v : Bool) (scale : Float) (final : List ℕ) (left : List (List ℕ)) (o : ℕ) (back : List ℕ) : Type 0 where
  pub ends : sets back o (flat (divided_side n scale q v left)) ≡ final
  pub room : o + length (divided_side n scale q v left) * (n + 2) ≤ length back
  pub whole : All (Whole n) left
  pub fine : all_finite n (divided_side n scale q v left) ≡ true

module _ (n q : ℕ) (v : Bool) (scale : Float) (final : List ℕ) (left : List (List ℕ)) (o : ℕ) (back : List ℕ) (d : Copying n q v scale final left o back) where
  pub copying-end : left ≡ [] → back ≡ final
  copying-end e =
      sym
      (ap (λ (rs : List (List ℕ)). sets back o (flat (divided_side n scale q v rs))) e
      ∙ ap (λ (rs : List (List ℕ)). sets back o (flat rs)) (outcome-none n q v scale)
      ∙ sets-no-records back o)
      ∙ d.ends

  module _ (r : List ℕ) (rs : List (List ℕ)) (e : left ≡ r ∷ rs) where
    -- the next record is whole, and finite; so are those after it
    pub copying-whole : All (Whole n) (r ∷ rs)
    copying-whole = subst (All (Whole n)) e d.whole

    -- what is left from it on, by whether it has the outcome
    from : (t : Bool) → has_outcome n q v r ≡ t → divided_side n scale q v left ≡ choose t (divided n scale r ∷ divided_side n scale q v rs) (divided_side n scale q v rs)
    from t f =
        ap (divided_side n scale q v) e
        ∙ outcome-cons n q v scale r rs
        ∙ ap (λ (t : Bool). choose t (divided n scale r ∷ divided_side n scale q v rs) (divided_side n scale q v rs)) f

    -- it has another outcome
    pub copying-other : has_outcome n q v r ≡ false → Copying n q v scale final rs o back
    copying-other f =
        let e : divided_side n scale q v rs ≡ divided_side n scale q v left = sym (from false f) in
        record {
          ends = ap (λ (rs : List (List ℕ)). sets back o (flat rs)) e ∙ d.ends;
          room = rw e d.room;
          whole = copying-whole.1;
          fine = ap (all_finite n) e ∙ d.fine;
        }

    module _ (f : has_outcome n q v r ≡ true) where
      -- it has the outcome
      whole : length (divided n scale r) ≡ n + 2
      whole = divided-length n scale r copying-whole.0.0

      fine-all : (finite_record n (divided n scale r) && all_finite n (divided_side n scale q v rs)) ≡ true
      fine-all = sym (all-finite-cons n (divided n scale r) (divided_side n scale q v rs)) ∙ ap (all_finite n) (sym (from true f)) ∙ d.fine

      room-all : o + (n + 2) + length (divided_side n scale q v rs) * (n + 2) ≤ length back
      room-all = omega (arith, d.room, ap (λ (l : List (List ℕ)). length l * (n + 2)) (from true f) ∙ suc-mul (length (divided_side n scale q v rs)) (n + 2))

      -- its place is in the store, and what is written is finite
      pub copying-now : (o + (n + 2) ≤ length back) × (finite_c (over (amplitude_of n r) scale) ≡ true)
      copying-now = (
        omega (arith, room-all),
        sym (divided-finite n scale r copying-whole.0.0) ∙ and-true-l (finite_record n (divided n scale r)) _ fine-all,
      )

      -- with it there the others are left
      pub copying-next : (back' : List ℕ) → back' ≡ sets back o (divided n scale r) → Copying n q v scale final rs (o + (n + 2)) back'
      copying-next back' u =
          let x = divided n scale r in
          let rest = divided_side n scale q v rs in
          record {
            ends =
                ap₂ (λ (m : List ℕ) (k : ℕ). sets m (o + k) (flat rest)) u (sym whole)
                ∙ sym (sets-first back o x rest)
                ∙ ap (λ (rs : List (List ℕ)). sets back o (flat rs)) (sym (from true f))
                ∙ d.ends;
            room = omega (arith, room-all, ap length u ∙ length-sets back o x);
            whole = copying-whole.1;
            fine = and_true_r (finite_record n x) _ fine-all;
          }

-- ---- copied part by part

module _ (s : State) (p : Projection) (front : List ℕ) where
  -- the divided records of a part; of both, one after the other, they are all
  abbrev part_divided : Bool → List (List ℕ)
  part_divided b = all-divided s.width p.scale (kept_of p.q p.v b s front)

  parts-joined : part_divided false ++ part_divided true ≡ divided_records s p front
  parts-joined = sym (map-append (divided s.width p.scale) (kept_of p.q p.v false s front) (kept_of p.q p.v true s front))

  pub parts-fine : all_finite s.width (divided_records s p front) ≡ true → (b : Bool) → all_finite s.width (part_divided b) ≡ true
  parts-fine f = go
    where
      each : All (λ r. finite_record s.width r ≡ true) (part_divided false ++ part_divided true)
      each = subst (All (λ r. finite_record s.width r ≡ true)) (sym parts-joined) (all-finite s.width (divided_records s p front) f)

      go : (b : Bool) → all_finite s.width (part_divided b) ≡ true
      go false = finite-all s.width (part_divided false) (all_left _ (part_divided false) (part_divided true) each)
      go true = finite-all s.width (part_divided true) (all_right _ (part_divided false) (part_divided true) each)

  -- those of part 0 fill their records
  first-words : s.n0 * (s.width + 2) ≤ length front → length (flat (part_divided false)) ≡ length (kept_of p.q p.v false s front) * (s.width + 2)
  first-words k =
      flat-length s.width (part_divided false) (each (kept_of p.q p.v false s front) (all-side s.width p.q p.v (λ r. length r ≡ s.width + 2) (part_of false s front) (part-whole s.width front 0 s.n0 k)))
      ∙ ap (λ (m : ℕ). m * (s.width + 2)) (divided-many s.width p.scale (kept_of p.q p.v false s front))
    where
      each : (rs : List (List ℕ)) → All (λ r. length r ≡ s.width + 2) rs → All (λ r. length r ≡ s.width + 2) (all-divided s.width p.scale rs)
      each [] w = tt
      each (r ∷ rs) w = (divided-length s.width p.scale r w.0, each rs w.1)

  -- a tail that was lent for part 1
  pub parts-written : s.n0 * (s.width + 2) ≤ length front → (l m t : List ℕ) (at : ℕ) → at ≡ length (kept_of p.q p.v false s front) * (s.width + 2) → at ≤ length m
      → m ≡ sets l 0 (flat (part_divided false)) → t ≡ sets (take (length m - at) (drop at m)) 0 (flat (part_divided true))
      → put_mid at (length m - at) m t ≡ sets l 0 (flat (divided_records s p front))
  parts-written k l m t at z w e f =
      tail-back m t at 0 (flat (part_divided true)) w f
      ∙ ap₂ (λ (l : List ℕ) (i : ℕ). sets l i (flat (part_divided true))) e (add-zero at ∙ z ∙ sym (first-words k))
      ∙ sym (sets-append l 0 (flat (part_divided false)) (flat (part_divided true)) ∙ ap (λ (i : ℕ). sets (sets l 0 (flat (part_divided false))) i (flat (part_divided true))) (zero-add (length (flat (part_divided false)))))
      ∙ ap (sets l 0) (sym (flat_append (part_divided false) (part_divided true)) ∙ ap flat parts-joined)
