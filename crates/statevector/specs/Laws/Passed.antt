-- What a call of a qubit goes on with once the tests found nothing: sizes that fit, a qubit inside
-- a key, finite records. For the proofs of the calls. Assumes nothing.
use Rattle.std.specs.Prelude.{◌≡◌, ℕ, ◌+◌, ◌*◌, ◌/◌, ◌<◌, ◌≤◌, List, [], ◌∷◌, length, Ok}
use Rattle.std.proofs.Common.{arith, mul-le-mul_right, le_trans}
use Rattle.merge.specs.Laws.{fewer-records}
use Rattle.statevector.specs.declared.State.{State}
use Rattle.statevector.specs.Refusals.{Test, first}
use Rattle.statevector.specs.Tests.{qubit_row, state_tests}
use Rattle.statevector.specs.Laws.Accepting.{Sound, accepted-sound}
use Rattle.statevector.specs.Laws.Tests.{fine-accepts, qubit-within}

pub record QubitReady (s : State) (front : List ℕ) (q : ℕ) : Type 0 where
  pub sound : Sound s front
  pub inside : q / 64 < s.width
  pub room0 : s.n0 * (s.width + 2) ≤ length front
  pub few : s.n0 + s.n1 ≤ length front

pub qubit-ready : (s : State) (front : List ℕ) (q : ℕ) (brought rest : List Test) → first (state_tests s front (qubit_row s q ∷ []) brought rest) ≡ Ok tt → QubitReady s front q
qubit-ready s front q brought rest e =
    let f = fine-accepts s front (qubit_row s q ∷ []) brought rest e in
    let h = accepted-sound s front f.0 in
    let w = qubit-within s q f.1 in
    record {
      sound = h;
      inside = omega arith;
      room0 = le_trans (mul-le-mul_right (s.width + 2) (omega arith)) h.room;
      few = le_trans (fewer-records s.width (s.n0 + s.n1)) h.room;
    }
