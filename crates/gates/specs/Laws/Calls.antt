-- What a gate's answer says, what a refused one leaves, and that the steps that the code takes come
-- to the definition. For the proofs of gates, and the layer above. Assumes nothing.
use Rattle.std.specs.Prelude.{◌≡◌, ℕ, ◌+◌, List, ◌∷◌, [], Bool, cond, ◌&&◌, ltb, length, Err, Ok, Result}
use Rattle.std.proofs.Math.Path.{refl, ap₂}
use Rattle.std.proofs.Common.{sym, ap, ◌∙◌, subst, arith}
use Rattle.std.proofs.Math.Bool.{true, false, not}
use Rattle.amplitudes.specs.declared.U4.{U4}
use Rattle.amplitudes.specs.Amplitudes.{finite_gate}
use Rattle.merge.specs.Records.{Entry, capacity}
use Rattle.statevector.specs.declared.Refusal.TheVariants as no
use Rattle.statevector.specs.declared.State.{State}
use Rattle.gates.specs.Gate.{gate_call, gate_by_front, result_tests, late_tests, gate_tests, gated, performed-response, gate_response, repartitions, repartitioned_back, gate_words}
use Rattle.statevector.specs.Endings.{FrontEnding, by_front}
use Rattle.statevector.specs.Refusals.{first, if_fine, Tested}
use Rattle.statevector.specs.States.{front_of, back_of, other_side, entries_of, tag_is, records_of, SameLengths}
use Rattle.statevector.specs.Laws.{stores-marked, not_finite_tested, not-finite-tests, not-finite-alike, qubit-rest, qubit-refused, same-lengths, qubit-accepts}
use Rattle.statevector.specs.Tests.{qubit_row, qubit_tests, Accepted}
use Rattle.statevector.specs.Answers.{by, by_table}
use Rattle.std.proofs.lemmas.List.Edits.{sets}
use Rattle.std.proofs.Math.Seq.{length-sets}
use Rattle.merge.specs.Sorting.{parted_words}
use Rattle.statevector.specs.declared.Refusal.{Refusal}
use Rattle.gates.specs.Passes.{over_back, over_front, after_repartition, by_tag, staged_gate}
use Rattle.gates.specs.declared.Gated.{Gated}

module _ (s : State) (q : ℕ) (g : U4) (front back : List ℕ) where
  abbrev es : List Entry
  es = entries_of s front

  abbrev moved : List ℕ
  moved = sets back 0 (parted_words s.width q (records_of s front))

  abbrev full : Bool
  full = ltb (capacity s.width back) (s.n0 + s.n1)

  -- the definition by what the table says, whether the tag is q, and whether the records were
  -- repartitioned
  abbrev formed : Tested → Bool → Bool → FrontEnding (Result Gated Refusal)
  formed t tag far =
      if_fine t
      (cond tag
      (record { answer = Ok (gated s (other_side s.front) q g es); front = front; back = sets back 0 (gate_words q g es) })
      (record { answer = Ok (gated s s.front q g es); front = sets front 0 (gate_words q g es); back = cond far moved back }))
      (λ r. record { answer = Err r; front = front; back = cond far moved back })

  is-formed : gate_by_front s q g front back ≡ formed (first (gate_tests s q g front back)) (tag_is s.tag q) (repartitions s q g front back)
  unfolding gate_by_front
  is-formed = refl

  -- ---- step by step

  straight-formed : (t : Tested) → formed t true false ≡ over_back t s q g es front back
  straight-formed (Ok _) = refl
  straight-formed (Err r) = refl

  through-formed : (t : Tested) → formed t false true ≡ over_front t s q g es front moved
  through-formed (Ok _) = refl
  through-formed (Err r) = refl

  moved-formed : (f : Bool) → formed (first ((f, no.Full) ∷ result_tests s.width q g es front)) false (not f) ≡ after_repartition f s q g es front back moved
  unfolding first
  moved-formed true = refl
  moved-formed false = through-formed (first (result_tests s.width q g es front))

  tag-formed : (b : Bool) → formed (first (cond b (result_tests s.width q g es back) ((full, no.Full) ∷ result_tests s.width q g es front))) b (not b && not full)
      ≡ by_tag b s q g es front back moved
  tag-formed true = straight-formed (first (result_tests s.width q g es back))
  tag-formed false = moved-formed full

  pub gate-staged : gate_by_front s q g front back ≡ staged_gate s q g front back
  unfolding staged_gate repartitions
  gate-staged = is-formed ∙ go (first (qubit_tests s front q (finite_gate g) [])) refl
    where
      go : (t : Tested) → first (qubit_tests s front q (finite_gate g) []) ≡ t
          → formed (first (gate_tests s q g front back)) (tag_is s.tag q) (repartitions s q g front back)
          ≡ if_fine t (by_tag (tag_is s.tag q) s q g es front back moved) (λ r. record { answer = Err r; front = front; back = back })
      go (Ok tt) e =
          ap₂ (λ (t u : Tested). formed t (tag_is s.tag q) (if_fine u true (λ r. false) && (not (tag_is s.tag q) && not full)))
          (qubit-rest s front q (finite_gate g) (late_tests s q g front back) e) e
          ∙ tag-formed (tag_is s.tag q)
      go (Err r) e =
          ap₂ (λ (t u : Tested). formed t (tag_is s.tag q) (if_fine u true (λ r. false) && (not (tag_is s.tag q) && not full)))
          (qubit-refused s front q (finite_gate g) (late_tests s q g front back) r e) e

  -- ---- its number and values

  by-front-response : performed-response (gate_by_front s q g front back).answer ≡ by_table (gate_tests s q g front back) (gated s (cond (tag_is s.tag q) (other_side s.front) s.front) q g es).state
  by-front-response = ap (λ (o : FrontEnding (Result Gated Refusal)). performed-response o.answer) is-formed ∙ go (first (gate_tests s q g front back)) (tag_is s.tag q) (repartitions s q g front back)
    where
      go : (t : Tested) (tag far : Bool) → performed-response (formed t tag far).answer ≡ by t (gated s (cond tag (other_side s.front) s.front) q g es).state
      go (Ok _) true far = refl
      go (Ok _) false far = refl
      go (Err r) tag far = refl

  -- ---- what a refused one leaves

  by-front-refused : (r : Refusal) → (gate_by_front s q g front back).answer ≡ Err r
      → ((gate_by_front s q g front back).front ≡ front) × ((gate_by_front s q g front back).back ≡ repartitioned_back s q g front back)
  by-front-refused r e = subst Left-as (sym is-formed) (go (first (gate_tests s q g front back)) (tag_is s.tag q) (repartitions s q g front back)) e
    where
      Left-as : FrontEnding (Result Gated Refusal) → Type 0
      Left-as o = o.answer ≡ Err r → (o.front ≡ front) × (o.back ≡ repartitioned_back s q g front back)

      go : (t : Tested) (tag far : Bool) → (formed t tag far).answer ≡ Err r → ((formed t tag far).front ≡ front) × ((formed t tag far).back ≡ cond far moved back)
      go (Ok _) true far e = let z : ◌≡◌ {A = ℕ} 0 1 = cc in absurd (omega arith)
      go (Ok _) false far e = let z : ◌≡◌ {A = ℕ} 0 1 = cc in absurd (omega arith)
      go (Err x) tag far e = (refl, refl)

  -- ---- what was done had an accepted state

  by-front-accepted : (d : Gated) → (gate_by_front s q g front back).answer ≡ Ok d → Accepted s front
  by-front-accepted d e =
      go (first (gate_tests s q g front back)) refl (tag_is s.tag q) (repartitions s q g front back) (sym (ap (λ (o : FrontEnding (Result Gated Refusal)). o.answer) is-formed) ∙ e)
    where
      go : (t : Tested) → first (gate_tests s q g front back) ≡ t → (tag far : Bool) → (formed t tag far).answer ≡ Ok d → Accepted s front
      go (Ok _) f tag far e = (qubit-accepts s front q (finite_gate g) (late_tests s q g front back) f).0
      go (Err r) f tag far e = let z : ◌≡◌ {A = ℕ} 0 1 = cc in absurd (omega arith)

  -- ---- the stores' lengths

  back-length : (far : Bool) → length (cond far moved back) ≡ length back
  back-length true = length-sets back 0 (parted_words s.width q (records_of s front))
  back-length false = refl

  by-front-lengths : SameLengths front back (gate_by_front s q g front back).front (gate_by_front s q g front back).back
  by-front-lengths = subst (λ (o : FrontEnding (Result Gated Refusal)). SameLengths front back o.front o.back) (sym is-formed) (go (first (gate_tests s q g front back)) (tag_is s.tag q) (repartitions s q g front back))
    where
      go : (t : Tested) (tag far : Bool) → SameLengths front back (formed t tag far).front (formed t tag far).back
      go (Ok _) true far = (refl, length-sets back 0 (gate_words q g es))
      go (Ok _) false far = (length-sets front 0 (gate_words q g es), back-length far)
      go (Err x) tag far = (refl, back-length far)

-- ---- the call

pub gate-response : (s : State) (q : ℕ) (g : U4) (left right : List ℕ)
    → performed-response (gate_call s q g left right).answer ≡ gate_response s q g left right
unfolding gate_call
gate-response s q g left right = by-front-response s q g (front_of s.front left right) (back_of s.front left right)

pub gate-accepted : (s : State) (q : ℕ) (g : U4) (left right : List ℕ) (d : Gated) → (gate_call s q g left right).answer ≡ Ok d → Accepted s (front_of s.front left right)
unfolding gate_call
gate-accepted s q g left right d e = by-front-accepted s q g (front_of s.front left right) (back_of s.front left right) d e

-- the front store stays, and the back store but for the repartitioned records
pub gate-refused : (s : State) (q : ℕ) (g : U4) (left right : List ℕ) (r : Refusal) → (gate_call s q g left right).answer ≡ Err r
    → let o = gate_call s q g left right in
    let front = front_of s.front left right in
    let back = back_of s.front left right in (front_of s.front o.left o.right ≡ front) × (back_of s.front o.left o.right ≡ repartitioned_back s q g front back)
unfolding gate_call
gate-refused s q g left right r e =
    let front = front_of s.front left right in
    let back = back_of s.front left right in
    let h = by-front-refused s q g front back r e in
    let m = stores-marked s.front (gate_by_front s q g front back) in (m.0 ∙ h.0, m.1 ∙ h.1)

-- a gate that is not finite matters only by that: two of them are answered alike and leave the same
-- words
gate-not-finite-by : (s : State) (front : List ℕ) (q : ℕ) (back : List ℕ) (g : U4) (r : Refusal) → finite_gate g ≡ false → not_finite_tested s front (qubit_row s q ∷ []) ≡ Err r
    → gate_by_front s q g front back ≡ record { answer = Err r; front = front; back = back }
unfolding staged_gate
gate-not-finite-by s front q back g r a e =
    gate-staged s q g front back
    ∙ refused-staged (not-finite-tests s front (qubit_row s q ∷ []) (finite_gate g) [] a ∙ e)
  where
    refused-staged : first (qubit_tests s front q (finite_gate g) []) ≡ Err r → staged_gate s q g front back ≡ record { answer = Err r; front = front; back = back }
    refused-staged d = rw d

pub gate-not-finite : (s : State) (q : ℕ) (g h : U4) (left right : List ℕ) → finite_gate g ≡ false → finite_gate h ≡ false → gate_call s q g left right ≡ gate_call s q h left right
unfolding gate_call
gate-not-finite s q g h left right a b =
    let f = front_of s.front left right in
    let k = back_of s.front left right in
    ap (by_front s.front) (not-finite-alike s f (qubit_row s q ∷ []) (gate_by_front s q g f k) (gate_by_front s q h f k) (λ r e. gate-not-finite-by s f q k g r a e ∙ sym (gate-not-finite-by s f q k h r b e)))

-- both stores keep their lengths
pub gate-lengths : (s : State) (q : ℕ) (g : U4) (left right : List ℕ) → let o = gate_call s q g left right in SameLengths left right o.left o.right
unfolding gate_call
gate-lengths s q g left right =
    same-lengths s.front (gate_by_front s q g (front_of s.front left right) (back_of s.front left right)) left right
    (by-front-lengths s q g (front_of s.front left right) (back_of s.front left right))
