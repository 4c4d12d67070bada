-- `gates::perform_u4` meets its contract: it is the gate over the front and the back store, by the
-- front mark. Assumes nothing.
use Rattle.statevector.specs.declared.Refusal.{Refusal}
use Rattle.gates.specs.declared.Gated.{Gated}
use Rattle.std.specs.Prelude.{Result}
use Prim.Native.Nat.{ℕ}
use mathlib.Core.Path.{◌≡◌, sym, ap, ◌∙◌}
use mathlib.Core.List.{List}
use Rattle.amplitudes.specs.declared.U4.{U4}
use Rattle.statevector.specs.declared.Side.{Side}
use Rattle.statevector.specs.declared.Side.TheVariants.{Left, Right}
use Rattle.statevector.specs.declared.State.{State}
use Rattle.gates.specs.Gate.{gate_by_front, gate_call, performed-response}
use Rattle.statevector.specs.Endings.{FrontEnding, Ending, by_front}
use Rattle.statevector.specs.States.{front_of, back_of}
use Rattle.statevector.specs.Laws.{both-clauses}
use Rattle.gates.specs.Laws.{gate-response}
use Rattle.gates.proofs.perform_u4.Goals as goal

-- by the front mark
called : (s : State) (q : ℕ) (g : U4) (left right : List ℕ) (m : Side) → s.front ≡ m → (answer : Result Gated Refusal) (front back : List ℕ)
    → ◌≡◌ {A = FrontEnding (Result Gated Refusal)} (record { answer = answer; front = front; back = back }) (gate_by_front s q g (front_of m left right) (back_of m left right))
    → ◌≡◌ {A = Ending (Result Gated Refusal)} (record { answer = answer; left = front_of m front back; right = back_of m front back }) (gate_call s q g left right)
unfolding gate_call
called s q g left right m e answer front back h =
    ap (by_front m) h ∙ ap (λ (m : Side). by_front m (gate_by_front s q g (front_of m left right) (back_of m left right))) (sym e)

pub returns-in-Left : goal.returns-in-Left
returns-in-Left c =
    let a = c.args in
    let h = both-clauses (λ (o : Ending (Result Gated Refusal)). performed-response o.answer) (called a.s a.q a.g a.left.now a.right.now Left c.in-Left.is _ _ _ c.gate_by_front.ensures) (gate-response _ _ _ _ _) in
    record { right_after = h.0; result_value = h.1 }

pub returns-in-Right : goal.returns-in-Right
returns-in-Right c =
    let a = c.args in
    let h = both-clauses (λ (o : Ending (Result Gated Refusal)). performed-response o.answer) (called a.s a.q a.g a.left.now a.right.now Right c.in-Right.is _ _ _ c.gate_by_front-in-Right.ensures) (gate-response _ _ _ _ _) in
    record { right_after = h.0; result_value = h.1 }
