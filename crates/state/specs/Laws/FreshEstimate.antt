-- An estimate of a fresh state is 2, whatever the qubit, the gate and the index. For the crates
-- above. Assumes nothing.
use Rattle.std.specs.Prelude.{◌≡◌, ℕ, ◌*◌, ◌<◌, List, [], true, pos, Ok}
use Rattle.std.proofs.Common.{sym, ap, ◌∙◌, subst, arith}
use Rattle.amplitudes.specs.declared.U4.{U4}
use Rattle.amplitudes.specs.Amplitudes.{finite_gate}
use Rattle.keys.specs.Keys.{listed}
use Rattle.merge.specs.Laws.{length-index}
use Rattle.statevector.specs.declared.Side.{Side}
use Rattle.statevector.specs.declared.State.{State}
use Rattle.estimates.specs.Estimates.{collapse_call}
use Rattle.state.specs.Fresh.{fresh_state, fresh_call}
use Rattle.state.specs.Laws.Fresh.{fresh_entry, fresh-made, fresh-sound, fresh-entries}
use Rattle.statevector.specs.Laws.{sound-accepted, accepts-qubit, first-none}
use Rattle.statevector.specs.States.{front_of, entries_of}
use Rattle.statevector.specs.Refusals.{first}
use Rattle.statevector.specs.Tests.{qubit_tests}
use Rattle.estimates.specs.Laws.{single-estimate}

pub fresh-estimate : (n q : ℕ) (g : U4) (i : ℕ) (left right : List ℕ) (s : State) → (fresh_call n left).answer ≡ Ok s → q < 64 * n → finite_gate g ≡ true
    → collapse_call s q g i (fresh_call n left).left right ≡ Ok (pos 2)
unfolding fresh_state
fresh-estimate n q g i left right s e h f =
    let ws = (fresh_call n left).left in
    let d = fresh-made n left s e in
    let w : n ≡ s.width = sym (ap (λ (s : State). s.width) d.is) in
    let front : front_of s.front ws right ≡ ws = ap (λ (m : Side). front_of m ws right) (ap (λ (s : State). s.front) d.is) in
    let fine = accepts-qubit s ws q (finite_gate g) [] (sound-accepted s ws (subst (λ (k : ℕ). listed k ≡ true) w d.width) (fresh-sound n left s e)) (subst (λ (k : ℕ). q < 64 * k) w h) f first-none in
    let l = length-index n 0 in
    single-estimate s q g i ws right (fresh_entry n) (ap (λ (x : List ℕ). first (qubit_tests s x q (finite_gate g) [])) front ∙ fine) (ap (entries_of s) front ∙ fresh-entries n left s e) (omega arith)
