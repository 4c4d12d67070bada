-- Textbook at every key, for a reader of the calls: a lookup after an accepted gate call gives the
-- combination of the two amplitudes before it, for floats of any kind, pruned by the verdict, and
-- after an accepted measurement the amplitude of the outcome, divided. Assumes nothing.
use Rattle.std.specs.Prelude.{◌≡◌, refl, ℕ, ◌*◌, ◌<◌, Bool, true, false, cond, Float, length, None, Ok, Option}
use Rattle.std.proofs.Math.Path.{sym, ap}
use Rattle.std.proofs.Common.{ap₂, ◌∙◌}
use mathlib.Core.List.{List}
use Rattle.std.specs.Bool.{beq}
use Rattle.amplitudes.specs.declared.Complex.{Complex}
use Rattle.amplitudes.specs.declared.U4.{U4}
use Rattle.keys.specs.Keys.{bit_at, clear, toggle, Words, IsKey}
use Rattle.keys.specs.Laws.{toggle-toggle, bit-clear, clear-on, clear-off, clear-key, qubit-word}
use Rattle.merge.specs.Laws.{Address}
use Rattle.merge.specs.Records.{Entry, at}
use Rattle.gates.specs.declared.Gated.{Gated}
use Rattle.statevector.specs.declared.Side.{Side}
use Rattle.statevector.specs.declared.Side.TheVariants.{Left, Right}
use Rattle.statevector.specs.declared.State.{State}
use Rattle.gates.specs.Gate.{gate_call, new_at, pruned, key_for}
use Rattle.state.specs.Laws.{gate-kept, front_after, results, gate-at, new_is, stored-keys, side-words, accepted-sound, measure-done, measured-accepted, measured-at, over_at, gate-accepted, lookup-accepted}
use Rattle.state.specs.Lookup.{lookup_call}
use Rattle.measurement.specs.Measurement.{divides, measured_state, measure_call}
use Rattle.statevector.specs.States.{front_of, back_of, entries_of}

-- every key is an address (bit q clear) or the partner of one
pub address-is-key : (n q : ℕ) (k : List ℕ) → q < 64 * n → IsKey n k
    → Address n q (clear q k) × (key_for q (bit_at q k) (clear q k) ≡ k)
address-is-key n q k l i = ((clear-key n q k i, bit-clear q k (qubit-word n q k l i)), go (bit_at q k) refl)
  where
    go : (b : Bool) → bit_at q k ≡ b → key_for q b (clear q k) ≡ k
    go false e = clear-off q k e
    go true e = ap (toggle q) (clear-on q k e) ∙ toggle-toggle q k (qubit-word n q k l i)

module _ (s : State) (q : ℕ) (g : U4) (left right : List ℕ) (w : Words left × Words right) (d : Gated) (done : (gate_call s q g left right).answer ≡ Ok d) where
  abbrev before : List Entry
  before = entries_of s (front_of s.front left right)

  -- x at the key with bit q clear and y at its partner before the call
  abbrev combined : List ℕ → Option Complex
  combined k = pruned (new_at g (bit_at q k) (at (clear q k) before) (at (toggle q (clear q k)) before))

  pub gate-entry : (k : List ℕ) → IsKey s.width k
      → at k (entries_of d.state (front_after d.state (gate_call s q g left right))) ≡ combined k
  gate-entry k i =
      let kept = gate-kept s q g left right w.0 w.1 d done in
      let keys = stored-keys s (front_of s.front left right) (side-words s.front left right w.0 w.1).0 (accepted-sound s (front_of s.front left right) (gate-accepted s q g left right d done)) in
      let a = address-is-key s.width q k kept.qubit i in
      ap (at k) kept.results-in
      ∙ sym (ap (λ (j : List ℕ). at j (results q g before)) a.1)
      ∙ gate-at s.width q g before kept.qubit keys (bit_at q k) (clear q k) a.0
      ∙ ap pruned (new_is q g (bit_at q k) before (clear q k))

  -- THE LAW: by the call `lookup`
  pub gate-lookup : (k : List ℕ) → IsKey s.width k
      → let o = gate_call s q g left right in
      lookup_call d.state k o.left o.right ≡ Ok (combined k)
  gate-lookup k i =
      let kept = gate-kept s q g left right w.0 w.1 d done in
      lookup-accepted d.state (gate_call s q g left right).left (gate_call s q g left right).right k kept.accepted (i.0 ∙ sym kept.width) ∙ ap Ok (gate-entry k i)

-- ---- a lookup after an accepted measurement: of the outcome alone, divided where the call divides

module _ (s : State) (q : ℕ) (v : Bool) (scale : Float) (left right : List ℕ) (new : State) (done : (measure_call s q v scale left right).answer ≡ Ok new) where
  abbrev front : List ℕ
  front = front_of s.front left right

  pub measure-lookup : (k : List ℕ) → length k ≡ s.width
      → let o = measure_call s q v scale left right in
      let x = at k (entries_of s front) in
      let y = over_at (divides q v scale s front) scale x in
      lookup_call new k o.left o.right ≡ Ok (cond (beq (bit_at q k) v) y None)
  unfolding measured_state
  measure-lookup k l =
      let o = measure_call s q v scale left right in
      let m = measure-done s q v scale left right new done in
      let w : new.width ≡ s.width = ap (λ (t : State). t.width) m.state in
      lookup-accepted new o.left o.right k (measured-accepted s q v scale left right new _ _ m) (l ∙ sym w)
      ∙ ap Ok (ap₂ (λ (t : State) (f : List ℕ). at k (entries_of t f)) m.state m.store ∙ measured-at s q v scale front (back_of s.front left right) m.on k)
