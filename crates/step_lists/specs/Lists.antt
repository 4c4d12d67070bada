-- A run of steps that stand in lent words, ten to a step. What the clauses of src/lib.rt cite.
-- Assumes nothing.
use Rattle.std.specs.Prelude.{ℕ, zero, suc, ◌+◌, ◌-◌, ◌*◌, ◌/◌, List, [], ◌∷◌, cond, ◌&&◌, leb, length, replicate}
use Rattle.std.proofs.lemmas.List.Edits.{sets}
use Rattle.statevector.specs.Endings.{Ending}
use Rattle.statevector.specs.Answers.{tested}
use Rattle.run.specs.declared.Ran.{Ran}
use Rattle.run.specs.declared.Step.{Step}
use Rattle.run.specs.Run.{run_of}
use Rattle.run.specs.Steps.{step_from}
use Rattle.words.specs.Words.{state_size, state_of, state_words, AfterBoth, wrong_length, has_words}

-- a step of a kind that no call has: 10
abbrev pub no_step : Step
no_step = record { kind = 0; qubit = 0; words = replicate 8 0 }

-- step i, ten words. Where fewer are left they are no step
unfoldable pub step_at : List ℕ → ℕ → Step
step_at ws i =
    cond (leb 10 (length ws - 10 * i))
    (step_from ws (10 * i))
    no_step

-- n steps from step i on, and the steps that words stand for: one for every ten, and one for those
-- left over
abbrev pub steps_from : List ℕ → ℕ → ℕ → List Step
steps_from ws i zero = []
steps_from ws i (suc n) = step_at ws i ∷ steps_from ws (i + 1) n

unfoldable pub steps_of : List ℕ → List Step
steps_of ws = steps_from ws 0 ((length ws + 9) / 10)

-- what a run leaves: the number of what stopped it, 0 where nothing did, the words of the state
-- after the steps that were done, both stores, and how many were done
abbrev pub ran_as : Ending Ran → List ℕ → List ℕ → AfterBoth
ran_as o state out =
    record {
      answer = (tested o.answer.stopped).number;
      state = sets state 0 (state_words o.answer.state);
      left = o.left;
      right = o.right;
      out = sets out 0 (o.answer.done ∷ []);
    }

unfoldable pub run_at : List ℕ → List ℕ → List ℕ → List ℕ → List ℕ → AfterBoth
run_at state steps left right out =
    cond (has_words state_size state && has_words 1 out)
    (ran_as (run_of (steps_of steps) (state_of state) left right) state out)
    (record { answer = wrong_length; state = state; left = left; right = right; out = out })
