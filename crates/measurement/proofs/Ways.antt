-- The three ways of a measurement against its one definition: by the tag, of all entries, of some.
-- For the proofs of `normalize`, `measure_by_tag`, `measure_copied`, `measure_fine`,
-- `measure_tested`, `measure_by_front` and `measure`. Assumes nothing.
use Rattle.std.specs.Prelude.{is_ok, Err, Ok, Result}
use mathlib.Core.Path.{◌≡◌, refl, sym, ap, ap₂, ◌∙◌, subst}
use Prim.Native.Nat.{ℕ, ◌+◌, ◌*◌, ◌/◌, ◌≤◌}
use native.Mathlib.Omega.{arith}
use native.Mathlib.Nat.{zero-add}
use mathlib.Core.List.{List, [], ◌∷◌, ◌++◌, map, map-append, append-nil}
use mathlib.Core.Bool.{Bool, true, false, not, cond, ◌&&◌, ◌||◌, not-not, and_assoc, or-true}
use borrow.Author.Tests.{eq-eqb, ne_eqb}
use lib.Dec.{ltb}
use lib.Ieee.{Float}
use lib.Ieee.Scale.{finite}
use lib.ListN.{length, length-append, length-map}
use lib.Seq.{sets}
use Rattle.amplitudes.specs.Amplitudes.{near_one}
use Rattle.keys.specs.Lists.{All}
use Rattle.merge.specs.Records.{capacity, part, flat, finite_record}
use Rattle.merge.specs.Laws.{capacity-is, part-append, part_length, side-whole, side-empty, side-full, side-fewer, all_append}
use Rattle.statevector.specs.declared.Refusal.{Refusal}
use Rattle.statevector.specs.declared.Refusal.TheVariants as no
use Rattle.statevector.specs.declared.Side.{Side}
use Rattle.statevector.specs.declared.State.{State}
use Rattle.measurement.specs.declared.Projection.{Projection}
use Rattle.measurement.specs.declared.Seen.{Seen}
use Rattle.measurement.specs.Passes.{normalized, divided_records, seen_of, Passed}
use Rattle.measurement.specs.Measurement.{kept_of, kept_records, divided, in_place, divides, measured, measure_tests, measured_state, written_to, measure_by_front, measure_call, measure_rows}
use Rattle.statevector.specs.Endings.{FrontEnding, by_front}
use Rattle.statevector.specs.Refusals.{first, if_fine, Tested}
use Rattle.statevector.specs.States.{front_of, back_of, other_side, part_of, tag_is, with_parts}
use Rattle.statevector.specs.Tests.{all_finite, qubit_tests}
use Rattle.statevector.specs.Laws.{tag-is, first-here, first-later, first-none, QubitReady, qubit-ready, qubit-rest, qubit-refused}

-- the records of the outcome, divided or not by whether they stay in place
pub measured-settled : (q : ℕ) (v : Bool) (scale : Float) (s : State) (front : List ℕ) → in_place q v s front ≡ true → measured q v scale s front ≡ normalized s.width scale (kept_records q v s front)
unfolding measured divides normalized
measured-settled q v scale s front e = rw e (go (near_one scale))
  where
    go : (b : Bool) → cond (not b) (map (divided s.width scale) (kept_records q v s front)) (kept_records q v s front) ≡ cond b (kept_records q v s front) (map (divided s.width scale) (kept_records q v s front))
    go true = refl
    go false = refl

pub measured-copied : (q : ℕ) (v : Bool) (scale : Float) (s : State) (front : List ℕ) → in_place q v s front ≡ false → measured q v scale s front ≡ map (divided s.width scale) (kept_records q v s front)
unfolding measured divides
measured-copied q v scale s front e = rw e

module _ (s : State) (q : ℕ) (v : Bool) (scale : Float) (front back : List ℕ) where
  abbrev Fine : Type 0
  Fine = first (qubit_tests s front q (finite scale) []) ≡ Ok tt

  -- what the call does where it goes on, and where it is refused
  gone-on : (t : Tested) → first (measure_rows q v scale s front back) ≡ t → Fine
      → measure_by_front s q v scale front back ≡ if_fine t (written_to (in_place q v s front) (flat (measured q v scale s front)) front back (Ok (measured_state q v s front))) (λ r. record { answer = Err r; front = front; back = back })
  unfolding measure_by_front measure_tests
  gone-on t e p =
      ap (λ (r : Tested). if_fine r (written_to (in_place q v s front) (flat (measured q v scale s front)) front back (Ok (measured_state q v s front))) (λ r. record { answer = Err r; front = front; back = back }))
      (qubit-rest s front q (finite scale) (measure_rows q v scale s front back) p ∙ e)

  pub refused : (r : Refusal) → first (qubit_tests s front q (finite scale) []) ≡ Err r → record { answer = Err r; front = front; back = back } ≡ measure_by_front s q v scale front back
  unfolding measure_by_front measure_tests
  refused r e =
      sym (ap (λ (t : Tested). if_fine t (written_to (in_place q v s front) (flat (measured q v scale s front)) front back (Ok (measured_state q v s front))) (λ r. record { answer = Err r; front = front; back = back }))
      (qubit-refused s front q (finite scale) (measure_rows q v scale s front back) r e))

  -- in place
  pub placed : Fine → in_place q v s front ≡ true → (r : Result State Refusal) (front' : List ℕ)
      → r ≡ cond (all_finite s.width (measured q v scale s front)) (Ok (measured_state q v s front)) (Err no.Overflow)
      → front' ≡ cond (all_finite s.width (measured q v scale s front)) (sets front 0 (flat (measured q v scale s front))) front
      → record { answer = r; front = front'; back = back } ≡ measure_by_front s q v scale front back
  unfolding measure_rows
  placed p i r front' a b = go (all_finite s.width (measured q v scale s front)) refl a b
    where
      go : (t : Bool) → all_finite s.width (measured q v scale s front) ≡ t → r ≡ cond t (Ok (measured_state q v s front)) (Err no.Overflow)
          → front' ≡ cond t (sets front 0 (flat (measured q v scale s front))) front
          → record { answer = r; front = front'; back = back } ≡ measure_by_front s q v scale front back
      go true f a b =
          ap₂ {C = FrontEnding (Result State Refusal)} (λ (m : Result State Refusal) (l : List ℕ). record { answer = m; front = l; back = back }) a b
          ∙ sym (gone-on (Ok tt) (first-later _ no.Overflow _ (ap not f) ∙ first-later _ no.Full _ (ap (λ (t : Bool). not t && ltb (capacity s.width back) (length (measured q v scale s front))) i) ∙ first-none) p ∙ ap (λ (t : Bool). written_to t (flat (measured q v scale s front)) front back (Ok (measured_state q v s front))) i)
      go false f a b =
          ap₂ {C = FrontEnding (Result State Refusal)} (λ (m : Result State Refusal) (l : List ℕ). record { answer = m; front = l; back = back }) a b
          ∙ sym (gone-on (Err no.Overflow) (first-here _ no.Overflow _ (ap not f)) p)

  -- copied: a part overflows, the back store is too small, or the records are written to it
  pub copied-overflow : Fine → all_finite s.width (measured q v scale s front) ≡ false → record { answer = Err no.Overflow; front = front; back = back } ≡ measure_by_front s q v scale front back
  unfolding measure_rows
  copied-overflow p f = sym (gone-on (Err no.Overflow) (first-here _ no.Overflow _ (ap not f)) p)

  pub copied-full : Fine → in_place q v s front ≡ false → all_finite s.width (measured q v scale s front) ≡ true → ltb (capacity s.width back) (length (measured q v scale s front)) ≡ true
      → record { answer = Err no.Full; front = front; back = back } ≡ measure_by_front s q v scale front back
  unfolding measure_rows
  copied-full p i f l =
      sym (gone-on (Err no.Full) (first-later _ no.Overflow _ (ap not f) ∙ first-here _ no.Full _ (ap₂ (λ (t u : Bool). not t && u) i l)) p)

  pub copied-done : Fine → in_place q v s front ≡ false → all_finite s.width (measured q v scale s front) ≡ true → ltb (capacity s.width back) (length (measured q v scale s front)) ≡ false
      → (m : Result State Refusal) (back' : List ℕ) → m ≡ Ok (measured_state q v s front) → back' ≡ sets back 0 (flat (measured q v scale s front))
      → record { answer = m; front = front; back = back' } ≡ measure_by_front s q v scale front back
  unfolding measure_rows
  copied-done p i f l m back' d b =
      ap₂ {C = FrontEnding (Result State Refusal)} (λ (x : Result State Refusal) (y : List ℕ). record { answer = x; front = front; back = y }) d b
      ∙ sym (gone-on (Ok tt) (first-later _ no.Overflow _ (ap not f) ∙ first-later _ no.Full _ (ap₂ (λ (t u : Bool). not t && u) i l) ∙ first-none) p ∙ ap (λ (t : Bool). written_to t (flat (measured q v scale s front)) front back (Ok (measured_state q v s front))) i)

-- ---- in place

-- what holds of every record of both parts holds of all
pub whole_part : (P : List ℕ → Type 0) (s : State) (front : List ℕ) → ((b : Bool) → All P (part_of b s front)) → All P (part s.width front 0 (s.n0 + s.n1))
whole_part P s front h =
    subst (All P) (part-append s.width front 0 s.n0 (s.n0 + s.n1) (omega arith) (omega arith)) (all_append P (part_of false s front) (part_of true s front) (h false) (h true))

-- the records from .. from + m of the front store are those of the outcome, and stay; the state is
-- then `new`
pub record Stays (s : State) (q : ℕ) (v : Bool) (front : List ℕ) (from m : ℕ) (new : State) : Type 0 where
  pub room : (from + m) * (s.width + 2) ≤ length front
  pub finites : All (λ r. finite_record s.width r ≡ true) (part s.width front from (from + m))
  pub kept : kept_records q v s front ≡ part s.width front from (from + m)
  pub here : in_place q v s front ≡ true
  pub state : new ≡ measured_state q v s front

-- what a division in place answers, by whether all is finite
abbrev pub answered : Bool → Tested
answered b = cond b (Ok tt) (Err no.Overflow)

went : (b : Bool) → is_ok (answered b) ≡ b
went true = refl
went false = refl

module _ (s : State) (q : ℕ) (v : Bool) (scale : Float) (front : List ℕ) (from m : ℕ) (new : State) (h : Stays s q v front from m new) where
  -- what is written
  stays-measured : measured q v scale s front ≡ normalized s.width scale (part s.width front from (from + m))
  stays-measured = measured-settled q v scale s front h.here ∙ ap (normalized s.width scale) h.kept

  -- whether it is finite once it is divided
  pub stays-fine : (b : Bool) → b ≡ all_finite s.width (map (divided s.width scale) (kept_records q v s front)) → b ≡ all_finite s.width (map (divided s.width scale) (part s.width front from (from + m)))
  stays-fine b e = e ∙ ap (λ (rs : List (List ℕ)). all_finite s.width (map (divided s.width scale) rs)) h.kept

  -- by what the division answers: all went well, or a part overflows
  pub stays-answer : (t : Tested) (z : State) → t ≡ answered (all_finite s.width (normalized s.width scale (part s.width front from (from + m)))) → z ≡ new
      → if_fine t (Ok z) (λ r. Err r) ≡ cond (all_finite s.width (measured q v scale s front)) (Ok (measured_state q v s front)) (Err no.Overflow)
  stays-answer t z e i =
      ap (λ (t : Tested). if_fine t (Ok z) (λ r. Err r)) (e ∙ ap (λ (rs : List (List ℕ)). answered (all_finite s.width rs)) (sym stays-measured))
      ∙ go (all_finite s.width (measured q v scale s front))
    where
      go : (b : Bool) → if_fine (answered b) (Ok z) (λ r. Err r) ≡ cond b (Ok (measured_state q v s front)) (Err no.Overflow)
      go true = ap Ok (i ∙ h.state)
      go false = refl

  pub stays-store : (t : Tested) (front' : List ℕ) → t ≡ answered (all_finite s.width (normalized s.width scale (part s.width front from (from + m))))
      → front' ≡ cond (is_ok t) (sets front 0 (flat (normalized s.width scale (part s.width front from (from + m))))) front
      → front' ≡ cond (all_finite s.width (measured q v scale s front)) (sets front 0 (flat (measured q v scale s front))) front
  stays-store t front' e f =
      f ∙ ap₂ (λ (t : Bool) (rs : List (List ℕ)). cond t (sets front 0 (flat rs)) front) (ap is_ok e ∙ went (all_finite s.width (normalized s.width scale (part s.width front from (from + m)))) ∙ ap (all_finite s.width) (sym stays-measured)) (sym stays-measured)

pub tag-here : (q : ℕ) (v : Bool) (s : State) (front : List ℕ) → tag_is s.tag q ≡ true → in_place q v s front ≡ true
unfolding in_place
tag-here q v s front e = rw e

in-place-state : (q : ℕ) (v : Bool) (s : State) (front : List ℕ) → in_place q v s front ≡ true → (k0 k1 : ℕ) → k0 ≡ length (kept_of q v false s front) → k1 ≡ length (kept_of q v true s front)
    → with_parts s s.front k0 k1 s.tag ≡ measured_state q v s front
unfolding measured_state
in-place-state q v s front e k0 k1 a b = rw (a, b, e)

module _ (s : State) (q : ℕ) (front : List ℕ) (h : QubitReady s front q) where
  -- the width
  abbrev w : ℕ
  w = s.width

  -- by the tag
  pub by-tag : (v : Bool) → tag_is s.tag q ≡ true → Stays s q v front (cond v s.n0 0) (cond v s.n1 s.n0) (with_parts s s.front (cond v 0 s.n0) (cond v s.n1 0) s.tag)
  by-tag false e =
      let a = (h.sound.sides q (tag-is s.tag q e)).1 in
      let x : kept_of q false false s front ≡ part_of false s front = side-whole w q false (part_of false s front) (a false) in
      let y : kept_of q false true s front ≡ [] = side-empty w q false (part_of true s front) (a true) in
      let z = zero-add s.n0 in
      record {
        room = rw z h.room0;
        finites = rw z (h.sound.finites false);
        kept = rw z (ap₂ ◌++◌ x y ∙ append-nil (part_of false s front));
        here = tag-here q false s front e;
        state = in-place-state q false s front (tag-here q false s front e) s.n0 0 (sym (ap length x ∙ part_length w front 0 s.n0 ∙ omega arith)) (sym (ap length y));
      }
  by-tag true e =
      let a = (h.sound.sides q (tag-is s.tag q e)).1 in
      let x : kept_of q true false s front ≡ [] = side-empty w q true (part_of false s front) (a false) in
      let y : kept_of q true true s front ≡ part_of true s front = side-whole w q true (part_of true s front) (a true) in
      record {
        room = h.sound.room;
        finites = h.sound.finites true;
        kept = ap₂ ◌++◌ x y;
        here = tag-here q true s front e;
        state = in-place-state q true s front (tag-here q true s front e) 0 s.n1 (sym (ap length x)) (sym (ap length y ∙ part_length w front s.n0 (s.n0 + s.n1) ∙ omega arith));
      }

-- ---- what was seen

-- the size of a part
pub part_size : (s : State) (front : List ℕ) (b : Bool) → length (part_of b s front) ≡ cond b s.n1 s.n0
part_size s front false = part_length s.width front 0 s.n0 ∙ omega arith
part_size s front true = part_length s.width front s.n0 (s.n0 + s.n1) ∙ omega arith

module _ (s : State) (p : Projection) (front : List ℕ) where
  -- what the tests gave
  pub ready : Passed s p front → QubitReady s front p.q
  ready = qubit-ready s front p.q _ _

  module _ (seen : Seen) (e : seen ≡ seen_of s p front) where
    -- how many have the outcome: no more than there are
    pub seen-many : length (kept_records p.q p.v s front) ≡ seen.k0 + seen.k1
    seen-many = length-append (kept_of p.q p.v false s front) (kept_of p.q p.v true s front) ∙ ap (λ (z : Seen). z.k0 + z.k1) (sym e)

    pub seen-most : seen.k0 + seen.k1 ≤ s.n0 + s.n1
    seen-most =
        rw e
        (omega (arith, side-fewer s.width p.q p.v (part_of false s front), side-fewer s.width p.q p.v (part_of true s front), part_size s front false, part_size s front true))

    -- all have it
    pub of-all : QubitReady s front p.q → seen.k0 + seen.k1 ≡ s.n0 + s.n1 → Stays s p.q p.v front 0 (s.n0 + s.n1) s
    unfolding in_place
    of-all h k =
        let sum = sym (ap (λ (z : Seen). z.k0 + z.k1) e) ∙ k in
        let f = side-fewer s.width p.q p.v (part_of false s front) in
        let g = side-fewer s.width p.q p.v (part_of true s front) in
        let i = part_size s front false in
        let j = part_size s front true in
        let x : kept_of p.q p.v false s front ≡ part_of false s front = side-full s.width p.q p.v (part_of false s front) (omega arith) in
        let y : kept_of p.q p.v true s front ≡ part_of true s front = side-full s.width p.q p.v (part_of true s front) (omega arith) in
        let z = zero-add (s.n0 + s.n1) in
        let here : in_place p.q p.v s front ≡ true = ap (λ (t : Bool). tag_is s.tag p.q || t) (eq-eqb _ _ (seen-many ∙ k)) ∙ or-true (tag_is s.tag p.q) in
        record {
          room = rw z h.sound.room;
          finites = rw z (whole_part (λ r. finite_record s.width r ≡ true) s front h.sound.finites);
          kept = rw z (ap₂ ◌++◌ x y ∙ part-append s.width front 0 s.n0 (s.n0 + s.n1) (omega arith) (omega arith));
          here = here;
          state = in-place-state p.q p.v s front here s.n0 s.n1 (omega arith) (omega arith);
        }

    -- some have it
    pub of_some : tag_is s.tag p.q ≡ false → (seen.k0 + seen.k1 ≡ s.n0 + s.n1 → ⊥) → in_place p.q p.v s front ≡ false
    unfolding in_place
    of_some t k = rw (t, seen-many) (ne_eqb _ _ k)

    -- some have it: whether what is copied is finite and fits, and the state after it
    pub copied-fine : in_place p.q p.v s front ≡ false → (b : Bool) → not seen.fine ≡ b → all_finite s.width (measured p.q p.v p.scale s front) ≡ not b
    copied-fine i b f = ap (all_finite s.width) (measured-copied p.q p.v p.scale s front i) ∙ sym (ap (λ (z : Seen). z.fine) e) ∙ sym (not-not seen.fine) ∙ ap not f

    pub copied-room : in_place p.q p.v s front ≡ false → (back : List ℕ) (b : Bool) → ltb (length back / (s.width + 2)) (seen.k0 + seen.k1) ≡ b
        → ltb (capacity s.width back) (length (measured p.q p.v p.scale s front)) ≡ b
    copied-room i back b f =
        ap₂ ltb (capacity-is s.width back) (ap length (measured-copied p.q p.v p.scale s front i) ∙ length-map (kept_records p.q p.v s front) (divided s.width p.scale) ∙ seen-many) ∙ f

    pub copied-state : in_place p.q p.v s front ≡ false → with_parts s (other_side s.front) seen.k0 seen.k1 s.tag ≡ measured_state p.q p.v s front
    unfolding measured_state
    copied-state i = rw (e, i) refl

-- what two passes saw, of part 0 and of part 1
all_both : (n : ℕ) (xs ys : List (List ℕ)) → all_finite n (xs ++ ys) ≡ (all_finite n xs && all_finite n ys)
unfolding all_finite
all_both n [] ys = refl
all_both n (x ∷ xs) ys = ap (λ (b : Bool). finite_record n x && b) (all_both n xs ys) ∙ sym (and_assoc (finite_record n x) (all_finite n xs) (all_finite n ys))

pub seen-both : (s : State) (p : Projection) (front : List ℕ) (k0 k1 : ℕ) (a b : Bool) → k0 ≡ length (kept_of p.q p.v false s front) → k1 ≡ length (kept_of p.q p.v true s front)
    → a ≡ all_finite s.width (map (divided s.width p.scale) (kept_of p.q p.v false s front)) → b ≡ all_finite s.width (map (divided s.width p.scale) (kept_of p.q p.v true s front))
    → record { k0 = k0; k1 = k1; fine = a && b } ≡ seen_of s p front
seen-both s p front k0 k1 a b i j x y =
    let n = s.width in
    let part : Bool → List (List ℕ) = λ b. map (divided n p.scale) (kept_of p.q p.v b s front) in
    let z : (a && b) ≡ all_finite n (divided_records s p front) = ap₂ ◌&&◌ x y ∙ sym (ap (all_finite n) (map-append (divided n p.scale) (kept_of p.q p.v false s front) (kept_of p.q p.v true s front)) ∙ all_both n (part false) (part true)) in
    rw (i, j, z) refl

-- ---- by left and right store

pub by-mark : (s : State) (q : ℕ) (v : Bool) (scale : Float) (left right : List ℕ) (m : Side) → s.front ≡ m → (r : Result State Refusal) (front back : List ℕ)
    → record { answer = r; front = front; back = back } ≡ measure_by_front s q v scale (front_of m left right) (back_of m left right)
    → record { answer = r; left = front_of m front back; right = back_of m front back } ≡ measure_call s q v scale left right
unfolding measure_call
by-mark s q v scale left right m e r front back h =
    ap (by_front m) h ∙ ap (λ (f : Side). by_front f (measure_by_front s q v scale (front_of f left right) (back_of f left right))) (sym e)
