-- What a measurement answers and leaves, done or refused. For the layer above. Assumes nothing.
use Rattle.std.proofs.Math.Path.{◌≡◌, refl, sym}
use Rattle.std.proofs.Common.{ap, ◌∙◌, subst, arith}
use Rattle.std.specs.Prelude.{ℕ, ◌+◌, List, [], ◌∷◌, Bool, true, false, not, cond, ◌&&◌, ltb, Float, length, Err, Ok, Result}
use Rattle.std.specs.Float.Ieee.Scale.{finite}
use Rattle.std.proofs.lemmas.List.Edits.{sets}
use Rattle.std.proofs.Math.Seq.{length-sets}
use Rattle.std.proofs.lemmas.Bool.{not-false}
use Rattle.keys.specs.Keys.{Words}
use Rattle.keys.specs.Lists.{All}
use Rattle.merge.specs.Laws.{part-words, flat-words, sets-words, all-side, all_append}
use Rattle.merge.specs.Records.{capacity, flat}
use Rattle.statevector.specs.declared.Refusal.{Refusal}
use Rattle.statevector.specs.declared.Refusal.TheVariants as no
use Rattle.statevector.specs.declared.Side.{Side}
use Rattle.statevector.specs.declared.Side.TheVariants.{Left, Right}
use Rattle.statevector.specs.declared.State.{State}
use Rattle.measurement.specs.Measurement.{kept_of, in_place, divides, measured, measure_tests, measured_state, written_to, measure_by_front, measure_call, measure_response, measure_rows}
use Rattle.statevector.specs.Endings.{FrontEnding, Ending, by_front}
use Rattle.statevector.specs.Refusals.{first, if_fine, Tested}
use Rattle.statevector.specs.States.{front_of, back_of, other_side, part_of, SameLengths}
use Rattle.statevector.specs.Tests.{all_finite, Accepted, qubit_row}
use Rattle.statevector.specs.Laws.{sound-accepted, fine-first, not_finite_tested, not-finite-tests, not-finite-alike, qubit-accepts, same-lengths, accepts-qubit, first-none, side-words}
use Rattle.statevector.specs.Answers.{made-response, by}
use Rattle.measurement.specs.Laws.Divided.{all_words}
use Rattle.measurement.specs.Laws.Measurement.{new_store, new_part, measured-is, GoesOn, measured-sound}

-- ---- the call

goes_on : (s : State) (q : ℕ) (v : Bool) (scale : Float) (front back : List ℕ) → first (measure_tests q v scale s front back) ≡ Ok tt → GoesOn s q v scale front back
unfolding measure_tests measure_rows
goes_on s q v scale front back e =
    let a = qubit-accepts s front q (finite scale) (measure_rows q v scale s front back) e in
    let b = fine-first (not (all_finite s.width (measured q v scale s front))) no.Overflow _ a.3 in
    let c = fine-first (not (in_place q v s front) && ltb (capacity s.width back) (length (measured q v scale s front))) no.Full [] b.1 in
    record { passed = accepts-qubit s front q (finite scale) [] a.0 a.1 a.2 first-none; fits = not-false (all_finite s.width (measured q v scale s front)) b.0; room = c.0 }

-- what a finished measurement leaves: the new state and its front store, and the other store
pub record Measured (s : State) (q : ℕ) (v : Bool) (scale : Float) (left right : List ℕ) (new : State) (front back : List ℕ) : Type 0 where
  pub on : GoesOn s q v scale (front_of s.front left right) (back_of s.front left right)
  pub state : new ≡ measured_state q v s (front_of s.front left right)
  pub store : front ≡ new_store s q v scale (front_of s.front left right) (back_of s.front left right)
  pub other : back ≡ cond (in_place q v s (front_of s.front left right)) (back_of s.front left right) (front_of s.front left right)

-- which store is which after it
marks : (m : Side) (i : Bool) (ws front back : List ℕ) (a : Result State Refusal) → let o = by_front m (written_to i ws front back a) in let f = cond i m (other_side m) in
    (front_of f o.left o.right ≡ sets (cond i front back) 0 ws) × (back_of f o.left o.right ≡ cond i back front)
marks Left true ws front back a = (refl, refl)
marks Left false ws front back a = (refl, refl)
marks Right true ws front back a = (refl, refl)
marks Right false ws front back a = (refl, refl)

written-answer : (i : Bool) (ws front back : List ℕ) (a : Result State Refusal) → (written_to i ws front back a).answer ≡ a
written-answer true ws front back a = refl
written-answer false ws front back a = refl

-- words of 64 bits: of what is written, of a store that was written to
mark-words : (m : Side) (o : FrontEnding (Result State Refusal)) → Words o.front → Words o.back → Words (by_front m o).left × Words (by_front m o).right
mark-words Left o f b = (f, b)
mark-words Right o f b = (b, f)

write-words : (i : Bool) (ws front back : List ℕ) (a : Result State Refusal) → Words ws → Words front → Words back → Words (written_to i ws front back a).front × Words (written_to i ws front back a).back
write-words true ws front back a w f b = (sets-words front 0 ws f w, b)
write-words false ws front back a w f b = (f, sets-words back 0 ws b w)

measured-words : (s : State) (q : ℕ) (v : Bool) (scale : Float) (front back : List ℕ) → Words front → Words (flat (measured q v scale s front))
measured-words s q v scale front back f =
    flat-words (measured q v scale s front)
    (subst (All Words) (sym (measured-is s q v scale front back))
    (all_append Words (new_part s q v scale front back false) (new_part s q v scale front back true) (words false (part-words s.width front 0 s.n0 f)) (words true (part-words s.width front s.n0 (s.n0 + s.n1) f))))
  where
    words : (b : Bool) → All Words (part_of b s front) → All Words (new_part s q v scale front back b)
    words b h = all_words (divides q v scale s front) s.width scale (kept_of q v b s front) (all-side s.width q v Words (part_of b s front) h)

module _ (s : State) (q : ℕ) (v : Bool) (scale : Float) (left right : List ℕ) where
  abbrev F : List ℕ
  F = front_of s.front left right

  abbrev B : List ℕ
  B = back_of s.front left right

  abbrev laid : Tested → FrontEnding (Result State Refusal)
  laid t = if_fine t (written_to (in_place q v s F) (flat (measured q v scale s F)) F B (Ok (measured_state q v s F))) (λ r. record { answer = Err r; front = F; back = B })

  -- the call by what its tests said
  by_tests : measure_call s q v scale left right ≡ by_front s.front (laid (first (measure_tests q v scale s F B)))
  unfolding measure_call measure_by_front
  by_tests = refl

  pub measure-done : (new : State) → (measure_call s q v scale left right).answer ≡ Ok new
      → let o = measure_call s q v scale left right in Measured s q v scale left right new (front_of new.front o.left o.right) (back_of new.front o.left o.right)
  unfolding measured_state
  measure-done new e = rw by_tests (go (first (measure_tests q v scale s F B)) refl (sym (ap (λ (o : Ending (Result State Refusal)). o.answer) by_tests) ∙ e))
    where
      go : (t : Tested) → first (measure_tests q v scale s F B) ≡ t → (by_front s.front (laid t)).answer ≡ Ok new
          → let o = by_front s.front (laid t) in Measured s q v scale left right new (front_of new.front o.left o.right) (back_of new.front o.left o.right)
      go (Ok tt) f e =
          let n : Ok (measured_state q v s F) ≡ Ok new = sym (written-answer (in_place q v s F) (flat (measured q v scale s F)) F B (Ok (measured_state q v s F))) ∙ e in
          let m : measured_state q v s F ≡ new = cc in
          let k = marks s.front (in_place q v s F) (flat (measured q v scale s F)) F B (Ok (measured_state q v s F)) in
          rw (← m) (record { on = goes_on s q v scale F B f; state = refl; store = k.0; other = k.1 })
      go (Err r) f e = let z : ◌≡◌ {A = ℕ} 0 1 = cc in absurd (omega arith)

  -- refused, it leaves both stores as they were
  pub measure-refused : (r : Refusal) → (measure_call s q v scale left right).answer ≡ Err r
      → ((measure_call s q v scale left right).left ≡ left) × ((measure_call s q v scale left right).right ≡ right)
  measure-refused r e = rw by_tests (go (first (measure_tests q v scale s F B)) (sym (ap (λ (o : Ending (Result State Refusal)). o.answer) by_tests) ∙ e))
    where
      back-again : (m : Side) → (front_of m (front_of m left right) (back_of m left right) ≡ left) × (back_of m (front_of m left right) (back_of m left right) ≡ right)
      back-again Left = (refl, refl)
      back-again Right = (refl, refl)

      go : (t : Tested) → (by_front s.front (laid t)).answer ≡ Err r → ((by_front s.front (laid t)).left ≡ left) × ((by_front s.front (laid t)).right ≡ right)
      go (Ok tt) e =
          let n : Ok (measured_state q v s F) ≡ Err r = sym (written-answer (in_place q v s F) (flat (measured q v scale s F)) F B (Ok (measured_state q v s F))) ∙ e in
          let z : ◌≡◌ {A = ℕ} 0 1 = cc in absurd (omega arith)
      go (Err u) e = back-again s.front

  -- words stay words of 64 bits
  pub measure-words : Words left → Words right → Words (measure_call s q v scale left right).left × Words (measure_call s q v scale left right).right
  measure-words l r =
      let w = side-words s.front left right l r in
      let o = laid-words (first (measure_tests q v scale s F B)) w.0 w.1 in
      rw by_tests (mark-words s.front (laid (first (measure_tests q v scale s F B))) o.0 o.1)
    where
      laid-words : (t : Tested) → Words F → Words B → Words (laid t).front × Words (laid t).back
      laid-words (Ok tt) f b = write-words (in_place q v s F) (flat (measured q v scale s F)) F B (Ok (measured_state q v s F)) (measured-words s q v scale F B f) f b
      laid-words (Err r) f b = (f, b)

-- the new state is accepted over its front store
pub measured-accepted : (s : State) (q : ℕ) (v : Bool) (scale : Float) (left right : List ℕ) (new : State) (front back : List ℕ) → Measured s q v scale left right new front back → Accepted new front
unfolding measured_state
measured-accepted s q v scale left right new front back m =
    rw (m.state, m.store)
    (sound-accepted (measured_state q v s (front_of s.front left right)) (new_store s q v scale (front_of s.front left right) (back_of s.front left right))
    (qubit-accepts s (front_of s.front left right) q (finite scale) [] m.on.passed).0.width
    (measured-sound s q v scale (front_of s.front left right) (back_of s.front left right) m.on))

-- ---- its number and values

pub measure-response : (s : State) (q : ℕ) (v : Bool) (scale : Float) (left right : List ℕ)
    → made-response (measure_call s q v scale left right).answer ≡ measure_response s q v scale left right
unfolding measure_call measure_by_front
measure-response s q v scale left right = go (first (measure_tests q v scale s front back)) (flat (measured q v scale s front)) (in_place q v s front)
  where
    front : List ℕ
    front = front_of s.front left right

    back : List ℕ
    back = back_of s.front left right

    go : (t : Tested) (ws : List ℕ) (b : Bool) → made-response (if_fine t (written_to b ws front back (Ok (measured_state q v s front))) (λ r. record { answer = Err r; front = front; back = back })).answer ≡ by t (measured_state q v s front)
    go (Ok tt) ws true = refl
    go (Ok tt) ws false = refl
    go (Err r) ws b = refl

-- a scale that is not finite matters only by that
scale-not-finite-by : (s : State) (front : List ℕ) (q : ℕ) (back : List ℕ) (v : Bool) (x : Float) (r : Refusal) → finite x ≡ false → not_finite_tested s front (qubit_row s q ∷ []) ≡ Err r
    → measure_by_front s q v x front back ≡ record { answer = Err r; front = front; back = back }
unfolding measure_by_front measure_tests
scale-not-finite-by s front q back v x r a e = rw (not-finite-tests s front (qubit_row s q ∷ []) (finite x) (measure_rows q v x s front back) a ∙ e)

pub scale-not-finite : (s : State) (q : ℕ) (v : Bool) (x y : Float) (left right : List ℕ) → finite x ≡ false → finite y ≡ false → measure_call s q v x left right ≡ measure_call s q v y left right
unfolding measure_call
scale-not-finite s q v x y left right a b =
    let f = front_of s.front left right in
    let k = back_of s.front left right in
    ap (by_front s.front) (not-finite-alike s f (qubit_row s q ∷ []) (measure_by_front s q v x f k) (measure_by_front s q v y f k) (λ r e. scale-not-finite-by s f q k v x r a e ∙ sym (scale-not-finite-by s f q k v y r b e)))

-- both stores keep their lengths
pub measure-lengths : (s : State) (q : ℕ) (v : Bool) (scale : Float) (left right : List ℕ) → let o = measure_call s q v scale left right in SameLengths left right o.left o.right
unfolding measure_call measure_by_front
measure-lengths s q v scale left right =
    same-lengths s.front (measure_by_front s q v scale front back) left right (go (first (measure_tests q v scale s front back)) (in_place q v s front) (flat (measured q v scale s front)) (Ok (measured_state q v s front)))
  where
    front : List ℕ
    front = front_of s.front left right

    back : List ℕ
    back = back_of s.front left right

    go : (t : Tested) (b : Bool) (ws : List ℕ) (m : Result State Refusal)
        → let o = if_fine t (written_to b ws front back m) (λ r. record { answer = Err r; front = front; back = back }) in SameLengths front back o.front o.back
    go (Ok tt) true ws m = (length-sets front 0 ws, refl)
    go (Ok tt) false ws m = (refl, length-sets back 0 ws)
    go (Err r) b ws m = (refl, refl)
