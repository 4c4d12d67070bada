-- What an accepted measurement writes: a sound state, with the outcome's amplitudes at their keys.
-- For the laws of the call. Assumes nothing.
use Rattle.std.specs.Prelude.{◌≡◌, ℕ, ◌+◌, ◌*◌, ◌≤◌, Bool, not, ◌&&◌, ltb, Float, None, Ok, Option}
use Rattle.std.proofs.Math.Path.{refl, sym, ap, ap₂, subst}
use Rattle.std.proofs.Common.{◌∙◌, arith, mul-le-mul_right, le_trans, length-append, ltb-false}
use mathlib.Core.List.{List, [], ◌∷◌, ◌++◌, map, map-append}
use Rattle.std.proofs.Math.Bool.{true, false, cond}
use Rattle.std.specs.Bool.{beq}
use Rattle.std.specs.Float.Ieee.Scale.{finite}
use Rattle.std.proofs.Math.ListN.{length}
use Rattle.std.proofs.lemmas.List.{length-map}
use Rattle.std.proofs.lemmas.List.Edits.{sets}
use Rattle.std.proofs.Math.Seq.{length-sets}
use Rattle.amplitudes.specs.declared.Complex.{Complex}
use Rattle.keys.specs.Keys.{bit_at}
use Rattle.keys.specs.Lists.{All}
use Rattle.merge.specs.Laws.{WholeRecords, part-whole, part_length, flat-length, flat_append, read-part, capacity-room, side-append, side-fewer, side-rising, all-side, all_map, all_append, all_left, all_right}
use Rattle.merge.specs.Records.{capacity, part, flat, key_of, record_bit, finite_record, entries, at}
use Rattle.merge.specs.Sorting.{Rising, sort_key}
use Rattle.statevector.specs.declared.State.{State}
use Rattle.measurement.specs.Measurement.{kept_of, kept_records, divided, in_place, divides, measured, measured_state}
use Rattle.statevector.specs.Refusals.{first}
use Rattle.statevector.specs.States.{part_of, records_of, entries_of}
use Rattle.statevector.specs.Tests.{all_finite, qubit_tests}
use Rattle.statevector.specs.Laws.{Sound, room-first, fine-sound, all_true}
use Rattle.measurement.specs.Laws.Divided.{divided_if, over_at, divided_all, all-length, divided-keys, all-rise, all_apart, all-at, side-at}

-- ---- what is written

module _ (s : State) (q : ℕ) (v : Bool) (scale : Float) (front back : List ℕ) where
  -- the store that is written to, and the store after it
  abbrev pub target : List ℕ
  target = cond (in_place q v s front) front back

  abbrev pub new_store : List ℕ
  new_store = sets target 0 (flat (measured q v scale s front))

  abbrev pub new_part : Bool → List (List ℕ)
  new_part b = divided_all (divides q v scale s front) s.width scale (kept_of q v b s front)

  pub measured-is : measured q v scale s front ≡ new_part false ++ new_part true
  unfolding measured
  measured-is = go (divides q v scale s front)
    where
      go : (d : Bool) → cond d (map (divided s.width scale) (kept_records q v s front)) (kept_records q v s front)
          ≡ divided_all d s.width scale (kept_of q v false s front) ++ divided_all d s.width scale (kept_of q v true s front)
      go true = map-append (divided s.width scale) (kept_of q v false s front) (kept_of q v true s front)
      go false = ap₂ ◌++◌ (sym (map_same (kept_of q v false s front))) (sym (map_same (kept_of q v true s front)))
        where
          map_same : (rs : List (List ℕ)) → map (λ r. r) rs ≡ rs
          map_same [] = refl
          map_same (r ∷ rs) = ap (λ (l : List (List ℕ)). r ∷ l) (map_same rs)

  -- the call goes on: the state was fine, nothing overflows, and a copy fits
  pub record GoesOn : Type 0 where
    pub passed : first (qubit_tests s front q (finite scale) []) ≡ Ok tt
    pub fits : all_finite s.width (measured q v scale s front) ≡ true
    pub room : (not (in_place q v s front) && ltb (capacity s.width back) (length (measured q v scale s front))) ≡ false

  module _ (g : GoesOn) where
    sound : Sound s front
    sound = fine-sound s front _ _ _ g.passed

    whole : (b : Bool) → WholeRecords s.width (part_of b s front)
    whole false = part-whole s.width front 0 s.n0 (room-first s front sound)
    whole true = part-whole s.width front s.n0 (s.n0 + s.n1) sound.room

    kept_whole : (b : Bool) → WholeRecords s.width (kept_of q v b s front)
    kept_whole b = all-side s.width q v (λ r. length r ≡ s.width + 2) (part_of b s front) (whole b)

    part-many : (b : Bool) → length (new_part b) ≡ length (kept_of q v b s front)
    part-many b = length-map (kept_of q v b s front) (divided_if (divides q v scale s front) s.width scale)

    many : length (measured q v scale s front) ≡ length (kept_of q v false s front) + length (kept_of q v true s front)
    many = ap length measured-is ∙ length-append (new_part false) (new_part true) ∙ ap₂ ◌+◌ (part-many false) (part-many true)

    most : length (measured q v scale s front) ≤ s.n0 + s.n1
    most =
        let m = many in
        let a = side-fewer s.width q v (part_of false s front) in
        let b = side-fewer s.width q v (part_of true s front) in
        let x : length (part_of false s front) ≡ s.n0 = part_length s.width front 0 s.n0 ∙ omega arith in
        let y : length (part_of true s front) ≡ s.n1 = part_length s.width front s.n0 (s.n0 + s.n1) ∙ omega arith in
        omega arith

    -- the records fit
    fits-target : length (measured q v scale s front) * (s.width + 2) ≤ length target
    fits-target = go (in_place q v s front) g.room
      where
        go : (i : Bool) → (not i && ltb (capacity s.width back) (length (measured q v scale s front))) ≡ false → length (measured q v scale s front) * (s.width + 2) ≤ length (cond i front back)
        go true e = le_trans (mul-le-mul_right (s.width + 2) most) sound.room
        go false e = capacity-room s.width (length (measured q v scale s front)) back (ltb-false (capacity s.width back) (length (measured q v scale s front)) e)

    new-whole : (b : Bool) → WholeRecords s.width (new_part b)
    new-whole b = all-length (divides q v scale s front) s.width scale (kept_of q v b s front) (kept_whole b)

    -- the new parts
    store_is : new_store ≡ sets target 0 (flat (new_part false) ++ flat (new_part true))
    store_is = ap (sets target 0) (ap flat measured-is ∙ flat_append (new_part false) (new_part true))

    read : (b : Bool) → part s.width (sets target 0 (flat (new_part false) ++ flat (new_part true))) (cond b (length (new_part false)) 0) (cond b (length (new_part false) + length (new_part true)) (length (new_part false)))
        ≡ cond b (new_part true) (new_part false)
    read b =
        read-part s.width (new_part false) (new_part true) target b (new-whole false) (new-whole true)
        (rw (← flat_append (new_part false) (new_part true), ← measured-is, flat-length s.width (measured q v scale s front) (subst (WholeRecords s.width) (sym measured-is) (all_append (λ r. length r ≡ s.width + 2) (new_part false) (new_part true) (new-whole false) (new-whole true)))) fits-target)

    pub new-part : (b : Bool) → part_of b (measured_state q v s front) new_store ≡ new_part b
    unfolding measured_state
    new-part false = ap₂ (λ (m : List ℕ) (k : ℕ). part s.width m 0 k) store_is (sym (part-many false)) ∙ read false
    new-part true =
        ap (λ (m : List ℕ). part s.width m (length (kept_of q v false s front)) (length (kept_of q v false s front) + length (kept_of q v true s front))) store_is
        ∙ ap₂ (λ (j k : ℕ). part s.width (sets target 0 (flat (new_part false) ++ flat (new_part true))) j (j + k)) (sym (part-many false)) (sym (part-many true))
        ∙ read true

    -- what holds of every record of a part by its key holds of the new part
    kept-keys : (P : List ℕ → Type 0) (b : Bool) → All (λ r. P (key_of s.width r)) (part_of b s front) → All (λ r. P (key_of s.width r)) (new_part b)
    kept-keys P b h = divided-keys (divides q v scale s front) s.width scale P (kept_of q v b s front) (kept_whole b) (all-side s.width q v (λ r. P (key_of s.width r)) (part_of b s front) h)

    finite-parts : (b : Bool) → All (λ r. finite_record s.width r ≡ true) (new_part b)
    unfolding all_finite
    finite-parts b = go b (subst (All (λ r. finite_record s.width r ≡ true)) measured-is (all_true (finite_record s.width) (measured q v scale s front) g.fits))
      where
        go : (b : Bool) → All (λ r. finite_record s.width r ≡ true) (new_part false ++ new_part true) → All (λ r. finite_record s.width r ≡ true) (new_part b)
        go false h = all_left (λ r. finite_record s.width r ≡ true) (new_part false) (new_part true) h
        go true h = all_right (λ r. finite_record s.width r ≡ true) (new_part false) (new_part true) h

    -- acceptance is kept
    pub measured-sound : Sound (measured_state q v s front) new_store
    unfolding measured_state
    measured-sound = record {
      some = sound.some;
      few = sound.few;
      room = rw (length-sets target 0 (flat (measured q v scale s front)), ← many) fits-target;
      rise = λ b. subst (Rising (sort_key s.width None)) (sym (new-part b)) (all-rise (divides q v scale s front) s.width scale (kept_of q v b s front) (kept_whole b) (side-rising s.width q v (sort_key s.width None) (part_of b s front) (sound.rise b)));
      apart = rw (new-part false, new-part true)
          (all_apart (divides q v scale s front) s.width scale (kept_of q v false s front) (kept_of q v true s front) (kept_whole false) (kept_whole true)
          (all-side s.width q v (λ y. All (λ x. key_of s.width x ≡ key_of s.width y → ⊥) (kept_of q v false s front)) (part_of true s front)
          (all_map (part_of true s front) (λ y h. all-side s.width q v (λ x. key_of s.width x ≡ key_of s.width y → ⊥) (part_of false s front) h) sound.apart)));
      sides = λ p e. ((sound.sides p e).0, λ b. subst (All (λ r. record_bit s.width p r ≡ b)) (sym (new-part b)) (kept-keys (λ k. bit_at p k ≡ b) b ((sound.sides p e).1 b)));
      finites = λ b. subst (All (λ r. finite_record s.width r ≡ true)) (sym (new-part b)) (finite-parts b);
    }

    -- the amplitudes: of the outcome alone, divided where the call divides
    pub measured-at : (k : List ℕ) → at k (entries_of (measured_state q v s front) new_store) ≡ cond (beq (bit_at q k) v) (over_at (divides q v scale s front) scale (at k (entries_of s front))) None
    unfolding measured_state
    measured-at k =
        let d = divides q v scale s front in
        let K = kept_records q v s front in
        let e : records_of (measured_state q v s front) new_store ≡ divided_all d s.width scale K = ap₂ ◌++◌ (new-part false) (new-part true) ∙ sym (map-append (divided_if d s.width scale) (kept_of q v false s front) (kept_of q v true s front)) in
        ap (λ (rs : List (List ℕ)). at k (entries s.width rs)) e
        ∙ all-at d s.width scale k K (all_append (λ r. length r ≡ s.width + 2) (kept_of q v false s front) (kept_of q v true s front) (kept_whole false) (kept_whole true))
        ∙ ap (λ (rs : List (List ℕ)). over_at d scale (at k (entries s.width rs))) (sym (side-append s.width q v (part_of false s front) (part_of true s front)))
        ∙ ap (over_at d scale) (side-at s.width q v k (records_of s front))
        ∙ go (beq (bit_at q k) v) (at k (entries_of s front))
      where
        go : (b : Bool) (o : Option Complex) → over_at (divides q v scale s front) scale (cond b o None) ≡ cond b (over_at (divides q v scale s front) scale o) None
        go true o = refl
        go false o = refl
