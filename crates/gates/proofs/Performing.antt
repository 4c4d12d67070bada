-- The whole call from its steps: tests, repartition, results. For the proofs of the functions that
-- make a gate call. Assumes nothing.
use Rattle.gates.specs.declared.Gated.{Gated}
use Rattle.std.specs.Prelude.{Err, Ok, Result}
use mathlib.Core.Path.{◌≡◌, sym, ap, ap₂, ◌∙◌}
use Prim.Native.Nat.{ℕ, ◌+◌, ◌*◌, ◌/◌, ◌<◌, ◌≤◌}
use native.Mathlib.Nat.{le_trans}
use mathlib.Core.List.{List, [], ◌∷◌, ◌++◌}
use mathlib.Core.Bool.{Bool, true, false}
use borrow.Author.Tests.{lt-ltb}
use lib.Dec.{ltb}
use lib.ListN.{length}
use lib.Seq.{sets}
use Rattle.amplitudes.specs.declared.U4.{U4}
use Rattle.amplitudes.specs.Amplitudes.{finite_gate}
use Rattle.amplitudes.specs.Moderate.{moderate_gate}
use Rattle.merge.specs.Laws.{capacity-is, fewer-records, moderate-finite-gate}
use Rattle.merge.specs.Records.{capacity}
use Rattle.merge.specs.Sorting.{parted_words}
use Rattle.statevector.specs.declared.Refusal.{Refusal}
use Rattle.statevector.specs.declared.Refusal.TheVariants as no
use Rattle.statevector.specs.declared.Side.{Side}
use Rattle.statevector.specs.declared.State.{State}
use Rattle.gates.specs.Gate.{result_tests, gate_by_front}
use Rattle.gates.specs.Laws.{gate-staged}
use Rattle.statevector.specs.Laws.{Sound, accepted-sound, head-fine, head-refused, qubit-accepts, first-after, row-finite}
use Rattle.statevector.specs.Endings.{FrontEnding}
use Rattle.gates.specs.Passes.{Into, written_into, after_repartition, by_tag, staged_gate}
use Rattle.statevector.specs.Refusals.{first, if_fine, Tested}
use Rattle.statevector.specs.States.{records_of, entries_of, other_side, tag_is}
use Rattle.statevector.specs.Scans.{QuickFine}
use Rattle.statevector.specs.Tests.{head_rows, record_rows, qubit_tests, qubit_row, finite_row}
use Rattle.gates.proofs.Stored.{straight-into}
use Rattle.gates.proofs.Parting.{e, moved}

-- ---- the whole call

pub parted-full : (s : State) (q : ℕ) (g : U4) (front back moved : List ℕ) → length back / (s.width + 2) < s.n0 + s.n1
    → ◌≡◌ {A = FrontEnding (Result Gated Refusal)} (record { answer = Err no.Full; front = front; back = back }) (after_repartition (ltb (capacity s.width back) (s.n0 + s.n1)) s q g (entries_of s front) front back moved)
parted-full s q g front back moved l =
    ap (λ (b : Bool). after_repartition b s q g (entries_of s front) front back moved) (sym (ap (λ (k : ℕ). ltb k (s.n0 + s.n1)) (capacity-is s.width back) ∙ lt-ltb (length back / (s.width + 2)) (s.n0 + s.n1) l))

module _ (s : State) (q : ℕ) (g : U4) (front back : List ℕ) where
  abbrev tested : Tested
  tested = first (qubit_tests s front q (finite_gate g) [])

  abbrev parted-back : List ℕ
  parted-back = sets back 0 (parted_words s.width q (records_of s front))

  module _ (h : first (head_rows s front (qubit_row s q ∷ [])) ≡ Ok tt) where
    -- what the code was told by the rows that read the records
    pub told : (t u : Tested) (f : Bool) → f ≡ finite_gate g → u ≡ first (record_rows s front ++ (finite_row f ∷ [])) → u ≡ t → t ≡ tested
    told t u f e d i =
        sym i ∙ d ∙ ap (λ (b : Bool). first (record_rows s front ++ (finite_row b ∷ []))) e
        ∙ sym (head-fine s front (qubit_row s q ∷ []) (finite_row (finite_gate g) ∷ []) [] h)

    -- or by a look at them, with a gate of moderate size
    pub seen : (k0 k1 : ℕ) → moderate_gate g ≡ true → QuickFine s front q k0 k1 → Ok tt ≡ tested
    seen k0 k1 m z =
        sym (head-fine s front (qubit_row s q ∷ []) (finite_row (finite_gate g) ∷ []) [] h
        ∙ first-after (record_rows s front) (finite_row (finite_gate g) ∷ []) z.fine
        ∙ row-finite (finite_gate g) (moderate-finite-gate g m))

  pub head-refusal : (r : Refusal) (t : Tested) → t ≡ first (head_rows s front (qubit_row s q ∷ [])) → t ≡ Err r → Err r ≡ tested
  head-refusal r t e f = sym (head-refused s front (qubit_row s q ∷ []) (finite_row (finite_gate g) ∷ []) [] r (sym e ∙ f))

  by-front-staged : gate_by_front s q g front back
      ≡ if_fine tested (by_tag (tag_is s.tag q) s q g (entries_of s front) front back parted-back) (λ r. record { answer = Err r; front = front; back = back })
  unfolding staged_gate
  by-front-staged = gate-staged s q g front back

  pub accepted : Ok tt ≡ tested → Sound s front × (q < 64 * s.width)
  accepted e = let a = qubit-accepts s front q (finite_gate g) [] (sym e) in (accepted-sound s front a.0, a.1)

  -- so many records are fewer than words
  pub few-records : Ok tt ≡ tested → s.n0 + s.n1 ≤ length front
  few-records e = le_trans (fewer-records s.width (s.n0 + s.n1)) (accepted e).0.room

  pub by-front-refused : (r : Refusal) → Err r ≡ tested → ◌≡◌ {A = FrontEnding (Result Gated Refusal)} (record { answer = Err r; front = front; back = back }) (gate_by_front s q g front back)
  by-front-refused r e =
      sym (by-front-staged
      ∙ ap (λ (t : Tested). if_fine t (by_tag (tag_is s.tag q) s q g (entries_of s front) front back parted-back) (λ r. record { answer = Err r; front = front; back = back })) (sym e))

  by-tag-is : Ok tt ≡ tested → (b : Bool) → tag_is s.tag q ≡ b → by_tag b s q g (entries_of s front) front back parted-back ≡ gate_by_front s q g front back
  by-tag-is e b t =
      sym (by-front-staged
      ∙ ap₂ (λ (u : Tested) (c : Bool). if_fine u (by_tag c s q g (entries_of s front) front back parted-back) (λ r. record { answer = Err r; front = front; back = back })) (sym e) t)

  pub by-front-straight : Ok tt ≡ tested → tag_is s.tag q ≡ true → (mark : Side) → mark ≡ other_side s.front → (answer : Result Gated Refusal) (out : List ℕ)
      → ◌≡◌ {A = Into} (record { answer = answer; store = out }) (written_into (first (result_tests s.width q g (entries_of s front) back)) s mark q g (entries_of s front) back)
      → ◌≡◌ {A = FrontEnding (Result Gated Refusal)} (record { answer = answer; front = front; back = out }) (gate_by_front s q g front back)
  by-front-straight e t mark m answer out f =
      ap {B = FrontEnding (Result Gated Refusal)} (λ (o : Into). record { answer = o.answer; front = front; back = o.store }) f
      ∙ straight-into s mark q g (entries_of s front) back (first (result_tests s.width q g (entries_of s front) back)) front m
      ∙ by-tag-is e true t

  pub by-front-parted : Ok tt ≡ tested → tag_is s.tag q ≡ false
      → after_repartition (ltb (capacity s.width back) (s.n0 + s.n1)) s q g (entries_of s front) front back (sets back 0 (parted_words s.width q (records_of s front))) ≡ gate_by_front s q g front back
  by-front-parted e t = by-tag-is e false t
