-- `state::calls::check` meets its contract: by the front mark. Assumes nothing.
use mathlib.Core.Path.{sym, ap, ◌∙◌}
use mathlib.Core.List.{List, []}
use Prim.Native.Nat.{ℕ}
use Rattle.state.proofs.Calling.{check-at}
use Rattle.statevector.specs.Laws.{both-clauses, check-response, first-none}
use Rattle.statevector.specs.Answers.{tested}
use Rattle.statevector.specs.Refusals.{first}
use Rattle.statevector.specs.Tests.{state_tests}
use Rattle.state.proofs.calls.check.Goals as goal

pub returns : goal.returns
returns c =
    let a = c.args in
    let h = both-clauses tested (c.test_state.ensures [] [] (sym first-none) (sym first-none) ∙ ap (λ (ws : List ℕ). first (state_tests a.s ws [] [] [])) c.store.ensures.words ∙ check-at a.s a.left.now a.right.now) (check-response _ _ _) in
    record { value = h.0; result_value = h.1 }
