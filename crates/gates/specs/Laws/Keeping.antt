-- After an accepted gate the state is accepted, and its records read back as the results. For the
-- layer above. Assumes nothing.
use Rattle.std.specs.declared.cmp.Ordering.TheVariants.{Less}
use Rattle.std.specs.Prelude.{◌≡◌, refl, ℕ, ◌+◌, ◌*◌, ◌^◌, ◌<◌, ◌≤◌, List, [], ◌∷◌, ◌++◌, map, Bool, not, ltb, length, Err, None, Ok, Result, Some}
use Rattle.std.proofs.Common.{sym, ◌∙◌, add-mul, arith, true≢false, ltb-false, length-append}
use Rattle.std.proofs.Math.Path.{ap, ap₂, subst}
use Rattle.std.proofs.Math.Bool.{true, false}
use Rattle.std.proofs.lemmas.List.{length-map}
use Rattle.std.proofs.lemmas.List.Edits.{sets}
use Rattle.std.proofs.Math.Seq.{length-sets}
use Rattle.amplitudes.specs.declared.U4.{U4}
use Rattle.amplitudes.specs.Amplitudes.{finite_c, finite_gate, FitsC}
use Rattle.keys.specs.Keys.{order, bit_at, Words, IsKey}
use Rattle.keys.specs.Lists.{All}
use Rattle.merge.specs.Laws.{capacity-room, key_in, entries-append, WholeRecords, encode-length, flat-length, read-part, encode-key, encode-finite, entries-encode, encode-words, flat-words, sets-words, all_map, all_append}
use Rattle.merge.specs.Records.{Entry, capacity, key_of, record_bit, finite_record, part, encode, entries, flat}
use Rattle.merge.specs.Sorting.{Rising, Apart, sort_key, parted_words}
use Rattle.gates.specs.declared.Gated.{Gated}
use Rattle.statevector.specs.declared.Refusal.{Refusal}
use Rattle.statevector.specs.declared.Side.{Side}
use Rattle.statevector.specs.declared.Side.TheVariants.{Left, Right}
use Rattle.statevector.specs.declared.State.{State}
use Rattle.gates.specs.Gate.{gate_part, gate_finite, gate_words, result_tests, gated, gate_by_front, gate_call}
use Rattle.statevector.specs.Endings.{FrontEnding, Ending, by_front}
use Rattle.statevector.specs.Refusals.{first, if_fine, Tested}
use Rattle.gates.specs.Laws.Results.{results, part-keys, part-rises, part-fits, part-finite}
use Rattle.statevector.specs.States.{front_of, back_of, other_side, part_of, records_of, entries_of, tag_is, with_parts}
use Rattle.statevector.specs.Tests.{Accepted, qubit_tests}
use Rattle.statevector.specs.Laws.{stored-keys, Sound, fine-first, accepted-sound, sound-accepted, qubit-accepts, side-words}
use Rattle.gates.specs.Passes.{over_back, over_front, after_repartition, by_tag, staged_gate}
use Rattle.gates.specs.Laws.Calls.{gate-staged}

-- ---- what is written is read back

-- a part written as records: its records are whole, rise and lie on their side as its entries do
module _ (n : ℕ) (es : List Entry) (keys : All (λ e. IsKey n e.key) es) (fits : All (λ e. FitsC e.amp) es) where
  long : All (λ e. length e.key ≡ n) es
  long = all_map es (λ e k. k.0) keys

  written-whole : WholeRecords n (map encode es)
  written-whole = go es long
    where
      go : (fs : List Entry) → All (λ e. length e.key ≡ n) fs → WholeRecords n (map encode fs)
      go [] h = tt
      go (f ∷ fs) h = (encode-length n f h.0, go fs h.1)

  -- what holds of each entry's key holds of the record's
  written-keys : (P : List ℕ → Type 0) → All (λ e. P e.key) es → All (λ r. P (key_of n r)) (map encode es)
  written-keys P = go es long
    where
      go : (fs : List Entry) → All (λ e. length e.key ≡ n) fs → All (λ e. P e.key) fs → All (λ r. P (key_of n r)) (map encode fs)
      go [] l h = tt
      go (f ∷ fs) l h = (subst P (sym (encode-key n f l.0)) h.0, go fs l.1 h.1)

  written-finite : All (λ e. finite_c e.amp ≡ true) es → All (λ r. finite_record n r ≡ true) (map encode es)
  written-finite = go es long fits
    where
      go : (fs : List Entry) → All (λ e. length e.key ≡ n) fs → All (λ e. FitsC e.amp) fs → All (λ e. finite_c e.amp ≡ true) fs → All (λ r. finite_record n r ≡ true) (map encode fs)
      go [] l f h = tt
      go (e ∷ fs) l f h = (encode-finite n e l.0 f.0 ∙ h.0, go fs l.1 f.1 h.1)

  written-words : Words (flat (map encode es))
  written-words = flat-words (map encode es) (go es keys fits)
    where
      go : (fs : List Entry) → All (λ e. IsKey n e.key) fs → All (λ e. FitsC e.amp) fs → All Words (map encode fs)
      go [] k f = tt
      go (e ∷ fs) k f = (encode-words e k.0.1 f.0, go fs k.1 f.1)

written-rises : (n : ℕ) (es : List Entry) → All (λ e. length e.key ≡ n) es → Rising key_in es → Rising (sort_key n None) (map encode es)
written-rises n [] l h = tt
written-rises n (e ∷ es) l h = (above es l.1 h.0, written-rises n es l.1 h.1)
  where
    above : (fs : List Entry) → All (λ f. length f.key ≡ n) fs → All (λ f. order e.key f.key ≡ Less) fs → All (λ r. order (sort_key n None (encode e)) (sort_key n None r) ≡ Less) (map encode fs)
    above [] k h = tt
    above (f ∷ fs) k h = (ap₂ order (encode-key n e l.0) (encode-key n f k.0) ∙ h.0, above fs k.1 h.1)

-- ---- an accepted gate

-- no test on the results applies
pub record Room (n q : ℕ) (g : U4) (es : List Entry) (target : List ℕ) : Type 0 where
  pub finite : gate_finite q g es ≡ true
  pub fits : (length (gate_part q g false es) + length (gate_part q g true es)) * (n + 2) ≤ length target

not-true : (b : Bool) → not b ≡ false → b ≡ true
not-true true e = refl
not-true false e = absurd (true≢false e)

pub fine-room : (n q : ℕ) (g : U4) (es : List Entry) (target : List ℕ) → first (result_tests n q g es target) ≡ Ok tt → Room n q g es target
unfolding result_tests
fine-room n q g es target e =
    let a = fine-first _ _ _ e in
    let b = fine-first _ _ _ a.1 in
    let c = length (gate_part q g false es) + length (gate_part q g true es) in
    record {
      finite = not-true (gate_finite q g es) a.0;
      fits = capacity-room n c target (ltb-false (capacity n target) c b.0);
    }

module _ (s : State) (q : ℕ) (g : U4) (es : List Entry) (some : 0 < s.width) (few : s.width < 63) (l : q < 64 * s.width)
    (keys : All (λ e. IsKey s.width e.key) es) (target : List ℕ) (r : Room s.width q g es target) (mark : Side) where
  abbrev new : Bool → List Entry
  new b = gate_part q g b es

  new-keys : (b : Bool) → All (λ e. IsKey s.width e.key) (new b)
  new-keys b = all_map (new b) (λ e k. k.0) (part-keys s.width q g es l keys b)

  whole : (b : Bool) → WholeRecords s.width (map encode (new b))
  whole b = written-whole s.width (new b) (new-keys b) (part-fits q g es b)

  -- the store after the gate, and the state
  abbrev words : List ℕ
  words = sets target 0 (gate_words q g es)

  abbrev after : State
  after = with_parts s mark (length (new false)) (length (new true)) (Some q)

  fits : length (flat (map encode (new false)) ++ flat (map encode (new true))) ≤ length target
  fits =
      let n = s.width in
      let a = flat-length n (map encode (new false)) (whole false) ∙ ap (λ (m : ℕ). m * (n + 2)) (length-map (new false) encode) in
      let b = flat-length n (map encode (new true)) (whole true) ∙ ap (λ (m : ℕ). m * (n + 2)) (length-map (new true) encode) in
      let c = add-mul (length (new false)) (length (new true)) (n + 2) in
      rw (length-append (flat (map encode (new false))) (flat (map encode (new true)))) (omega (arith, r.fits))

  read : (b : Bool) → part_of b after words ≡ map encode (new b)
  unfolding gate_words
  read false = ap (part s.width words 0) (sym (length-map (new false) encode)) ∙ read-part s.width (map encode (new false)) (map encode (new true)) target false (whole false) (whole true) fits
  read true =
      ap₂ (λ (i j : ℕ). part s.width words i (i + j)) (sym (length-map (new false) encode)) (sym (length-map (new true) encode))
      ∙ read-part s.width (map encode (new false)) (map encode (new true)) target true (whole false) (whole true) fits

  on-side : (b : Bool) → All (λ x. record_bit s.width q x ≡ b) (map encode (new b))
  on-side b = written-keys s.width (new b) (new-keys b) (part-fits q g es b) (λ k. bit_at q k ≡ b) (all_map (new b) (λ e k. k.1) (part-keys s.width q g es l keys b))

  apart : Apart (sort_key s.width None) (map encode (new false)) (map encode (new true))
  apart = all_map (map encode (new true)) (λ y t. all_map (map encode (new false)) (λ x f e. true≢false (sym t ∙ sym (ap (bit_at q) e) ∙ f)) (on-side false)) (on-side true)

  same_tag : (p : ℕ) → Some q ≡ Some p → q ≡ p
  same_tag p e = cc

  pub new-sound : Sound after words
  new-sound = record {
    some = some;
    few = few;
    room = rw (length-sets target 0 (gate_words q g es)) r.fits;
    rise = λ b. subst (Rising (sort_key s.width None)) (sym (read b)) (written-rises s.width (new b) (all_map (new b) (λ e k. k.0) (new-keys b)) (part-rises s.width q g es l keys b));
    apart = subst (λ (x : List (List ℕ)). Apart (sort_key s.width None) x (part_of true after words)) (sym (read false))
        (subst (Apart (sort_key s.width None) (map encode (new false))) (sym (read true)) apart);
    sides = λ p e. subst (λ (i : ℕ). (i < 64 * s.width) × ((b : Bool) → All (λ x. record_bit s.width i x ≡ b) (part_of b after words))) (same_tag p e)
        (l, λ b. subst (All (λ x. record_bit s.width q x ≡ b)) (sym (read b)) (on-side b));
    finites = λ b. subst (All (λ x. finite_record s.width x ≡ true)) (sym (read b)) (written-finite s.width (new b) (new-keys b) (part-fits q g es b) (part-finite q g es r.finite b));
  }

  pub new-entries : entries_of after words ≡ results q g es
  new-entries =
      let back : (b : Bool) → entries s.width (map encode (new b)) ≡ new b = (λ b. entries-encode s.width (new b) (all_map (new b) (λ e k. k.0) (new-keys b)) (part-fits q g es b)) in
      ap₂ (λ (x y : List (List ℕ)). entries s.width (x ++ y)) (read false) (read true)
      ∙ entries-append s.width (map encode (new false)) (map encode (new true))
      ∙ ap₂ (λ (x y : List Entry). x ++ y) (back false) (back true)

  pub new-words : Words target → Words words
  unfolding gate_words
  new-words w =
      sets-words target 0 (gate_words q g es) w
      (all_append (λ v. v < 2 ^ 64) (flat (map encode (new false))) (flat (map encode (new true)))
      (written-words s.width (new false) (new-keys false) (part-fits q g es false)) (written-words s.width (new true) (new-keys true) (part-fits q g es true)))

-- ---- a call that was done

front_same : {A : Type 0} (m : Side) (f b : A) → front_of m (front_of m f b) (back_of m f b) ≡ f
front_same Left f b = refl
front_same Right f b = refl

front-other : {A : Type 0} (m : Side) (f b : A) → front_of (other_side m) (front_of m f b) (back_of m f b) ≡ b
front-other Left f b = refl
front-other Right f b = refl

-- the front words after a call: the state's front mark chooses them
abbrev pub front_after : State → Ending (Result Gated Refusal) → List ℕ
front_after t o = front_of t.front o.left o.right

pub record GateKept (s : State) (q : ℕ) (g : U4) (front : List ℕ) (t : State) (words : List ℕ) : Type 0 where
  pub width : t.width ≡ s.width
  pub qubit : q < 64 * s.width
  pub accepted : Accepted t words
  pub results-in : entries_of t words ≡ results q g (entries_of s front)

done_inj : (a b : Gated) → ◌≡◌ {A = Result Gated Refusal} (Ok a) (Ok b) → a ≡ b
done_inj a b e = cc

refused≢done : (r : Refusal) (d : Gated) → ◌≡◌ {A = Result Gated Refusal} (Err r) (Ok d) → ⊥
refused≢done r d e = let z : ◌≡◌ {A = ℕ} 0 1 = cc in omega arith

module _ (s : State) (q : ℕ) (g : U4) (front back : List ℕ) (w : Words front) (passed : first (qubit_tests s front q (finite_gate g) []) ≡ Ok tt) where
  a : Accepted s front
  a = (qubit-accepts s front q (finite_gate g) [] passed).0

  pub sound : Sound s front
  sound = accepted-sound s front a

  pub below : q < 64 * s.width
  below = (qubit-accepts s front q (finite_gate g) [] passed).1

  es : List Entry
  es = entries_of s front

  pub keys : All (λ e. IsKey s.width e.key) (entries_of s front)
  keys = stored-keys s front w sound

  kept_at : (mark : Side) (target : List ℕ) → first (result_tests s.width q g (entries_of s front) target) ≡ Ok tt
      → GateKept s q g front (with_parts s mark (length (gate_part q g false (entries_of s front))) (length (gate_part q g true (entries_of s front))) (Some q)) (sets target 0 (gate_words q g (entries_of s front)))
  kept_at mark target f =
      let r = fine-room s.width q g (entries_of s front) target f in
      record {
        width = refl;
        qubit = below;
        accepted = sound-accepted _ _ a.width (new-sound s q g (entries_of s front) sound.some sound.few below keys target r mark);
        results-in = new-entries s q g (entries_of s front) sound.some sound.few below keys target r mark;
      }

  -- where the done state's mark points
  abbrev Points : FrontEnding (Result Gated Refusal) → Gated → Type 0
  Points o d = GateKept s q g front d.state (front_after d.state (by_front s.front o))

  straight-kept : (t : Tested) (d : Gated) → first (result_tests s.width q g (entries_of s front) back) ≡ t → (over_back t s q g (entries_of s front) front back).answer ≡ Ok d → Points (over_back t s q g (entries_of s front) front back) d
  unfolding gated
  straight-kept (Ok tt) d f e =
      subst (Points (over_back (Ok tt) s q g (entries_of s front) front back)) (done_inj _ d e)
      (subst (GateKept s q g front _) (sym (front-other s.front front _)) (kept_at (other_side s.front) back f))
  straight-kept (Err r) d f e = absurd (refused≢done r d e)

  through-kept : (t : Tested) (moved : List ℕ) (d : Gated) → first (result_tests s.width q g (entries_of s front) front) ≡ t → (over_front t s q g (entries_of s front) front moved).answer ≡ Ok d → Points (over_front t s q g (entries_of s front) front moved) d
  unfolding gated
  through-kept (Ok tt) moved d f e =
      subst (Points (over_front (Ok tt) s q g (entries_of s front) front moved)) (done_inj _ d e)
      (subst (GateKept s q g front _) (sym (front_same s.front _ moved)) (kept_at s.front front f))
  through-kept (Err r) moved d f e = absurd (refused≢done r d e)

  moved-kept : (full : Bool) (moved : List ℕ) (d : Gated) → (after_repartition full s q g (entries_of s front) front back moved).answer ≡ Ok d → Points (after_repartition full s q g (entries_of s front) front back moved) d
  moved-kept true moved d e = absurd (refused≢done _ d e)
  moved-kept false moved d e = through-kept _ moved d refl e

  by-tag-kept : (t : Bool) (moved : List ℕ) (d : Gated) → (by_tag t s q g (entries_of s front) front back moved).answer ≡ Ok d → Points (by_tag t s q g (entries_of s front) front back moved) d
  by-tag-kept true moved d e = straight-kept _ d refl e
  by-tag-kept false moved d e = moved-kept (ltb (capacity s.width back) (s.n0 + s.n1)) moved d e

staged-kept : (s : State) (q : ℕ) (g : U4) (front back : List ℕ) → Words front → (d : Gated) → (staged_gate s q g front back).answer ≡ Ok d → GateKept s q g front d.state (front_after d.state (by_front s.front (staged_gate s q g front back)))
unfolding staged_gate
staged-kept s q g front back w d e = go (first (qubit_tests s front q (finite_gate g) [])) refl e
  where
    rest : FrontEnding (Result Gated Refusal)
    rest = by_tag (tag_is s.tag q) s q g (entries_of s front) front back (sets back 0 (parted_words s.width q (records_of s front)))

    go : (t : Tested) → first (qubit_tests s front q (finite_gate g) []) ≡ t → (if_fine t rest (λ r. record { answer = Err r; front = front; back = back })).answer ≡ Ok d → GateKept s q g front d.state (front_after d.state (by_front s.front (if_fine t rest (λ r. record { answer = Err r; front = front; back = back }))))
    go (Ok _) p e = by-tag-kept s q g front back w p (tag_is s.tag q) (sets back 0 (parted_words s.width q (records_of s front))) d e
    go (Err r) p e = absurd (refused≢done r d e)

by-front-kept : (s : State) (q : ℕ) (g : U4) (front back : List ℕ) → Words front → (d : Gated) → (gate_by_front s q g front back).answer ≡ Ok d → GateKept s q g front d.state (front_after d.state (by_front s.front (gate_by_front s q g front back)))
by-front-kept s q g front back w d e =
    let p = gate-staged s q g front back in
    subst (λ (o : FrontEnding (Result Gated Refusal)). GateKept s q g front d.state (front_after d.state (by_front s.front o))) (sym p)
    (staged-kept s q g front back w d (sym (ap (λ (o : FrontEnding (Result Gated Refusal)). o.answer) p) ∙ e))

-- after an accepted gate call: the state that it gives is accepted, and its entries are the gate's
-- results
pub gate-kept : (s : State) (q : ℕ) (g : U4) (left right : List ℕ) → Words left → Words right → (d : Gated) → (gate_call s q g left right).answer ≡ Ok d
    → GateKept s q g (front_of s.front left right) d.state (front_after d.state (gate_call s q g left right))
unfolding gate_call
gate-kept s q g left right u v d e = by-front-kept s q g (front_of s.front left right) (back_of s.front left right) (side-words s.front left right u v).0 d e
