-- A step of a list is the call that its words are read as. Assumes nothing.
use Rattle.std.specs.Prelude.{◌≡◌, refl, ℕ, List, Bool, true, false, cond, eqb, Err}
use Rattle.statevector.specs.declared.Refusal.TheVariants as no
use Rattle.statevector.specs.declared.State.{State}
use Rattle.run.specs.declared.Step.{Step}
use Rattle.run.specs.Laws.{step-as-read}
use Rattle.run.specs.Reading.{read_call}
use Rattle.run.specs.Steps.{refused_step, ending, by_call, step_of, list_step_of}

pub list-step-as-read : (s : State) (x : Step) (left right : List ℕ) → by_call s x.qubit (cond (eqb x.kind 3) (Err no.Step) (read_call x)) left right ≡ list_step_of s x left right
unfolding list_step_of
list-step-as-read s x left right = go (eqb x.kind 3)
  where
    go : (b : Bool) → by_call s x.qubit (cond b (Err no.Step) (read_call x)) left right ≡ cond b (ending (refused_step s) left right) (step_of s x left right)
    go true = refl
    go false = step-as-read s x left right
