-- A list of steps of all three kinds that goes on after a refused step, as the program `trial` does
-- (SPECIFICATION 9.1). For the layer above. Assumes nothing.
use Rattle.std.specs.Prelude.{ℕ, List, [], ◌∷◌}
use Rattle.statevector.specs.declared.State.{State}
use Rattle.run.specs.declared.Step.{Step}
use Rattle.run.specs.declared.Taken.{Taken}
use Rattle.run.specs.Steps.{Answer, step_of}

-- what a step reports: its answer, and the sizes after it
pub record Report : Type 0 where
  pub answer : Answer
  pub n0 : ℕ
  pub n1 : ℕ

-- the reports in order, and the state and the stores after the last step
pub record Reported : Type 0 where
  pub reports : List Report
  pub state : State
  pub left : List ℕ
  pub right : List ℕ

abbrev pub report_of : Taken → Report
report_of t = record { answer = t.answer; n0 = t.state.n0; n1 = t.state.n1 }

abbrev pub report_first : Report → Reported → Reported
report_first p t = record { reports = p ∷ t.reports; state = t.state; left = t.left; right = t.right }

unfoldable pub trial_of : List Step → State → List ℕ → List ℕ → Reported
unfolding step_of
trial_of [] s left right = record { reports = []; state = s; left = left; right = right }
trial_of (x ∷ xs) s left right =
    let o = step_of s x left right in
    report_first (report_of o.answer) (trial_of xs o.answer.state o.left o.right)
