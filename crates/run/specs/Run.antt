-- A run: the steps of a list in order, to the first that is refused (SPECIFICATION 8.3). What the
-- clause of `run` cites. Assumes nothing.
use Rattle.statevector.specs.Refusals.{Tested}
use Rattle.std.specs.Prelude.{ℕ, ◌+◌, List, [], ◌∷◌, cond, eqb, Err, Ok}
use Rattle.statevector.specs.declared.State.{State}
use Rattle.statevector.specs.Endings.{Ending}
use Rattle.statevector.specs.Tests.{check_call}
use Rattle.run.specs.declared.Ran.{Ran}
use Rattle.run.specs.declared.Step.{Step}
use Rattle.run.specs.declared.Taken.{Taken}
use Rattle.run.specs.Steps.{Answer, ending, answered, list_step_of}

-- the refusal that stops a run, if there is one
abbrev pub tested_as : Answer → Tested
tested_as (Ok sums) = Ok tt
tested_as (Err r) = Err r

-- the state with nothing done
abbrev pub none_done : State → Tested → Ran
none_done s t = record { done = 0; state = s; stopped = t }

-- with n more steps done before
abbrev pub after_more : ℕ → Ran → Ran
after_more n r = record { done = n + r.done; state = r.state; stopped = r.stopped }

-- after a step: the rest, with one more done; a refused step ends the run, with the state and the
-- stores that it leaves
abbrev pub onward : Tested → Ending Taken → Ending Ran → Ending Ran
onward (Ok _) o rest = answered (after_more 1) rest
onward (Err r) o rest = ending (none_done o.answer.state (Err r)) o.left o.right

-- the steps in order, to the first that is refused
unfoldable pub run_from : List Step → State → List ℕ → List ℕ → Ending Ran
unfolding list_step_of
run_from [] s left right = ending (none_done s (Ok tt)) left right
run_from (x ∷ xs) s left right =
    let o = list_step_of s x left right in
    onward (tested_as o.answer.answer) o (run_from xs o.answer.state o.left o.right)

-- a run of n steps before the first: with none, the state is tested
unfoldable pub begun : ℕ → State → List ℕ → List ℕ → Ran
begun n s left right = none_done s (cond (eqb n 0) (check_call s left right) (Ok tt))

-- a run: the starting state is tested even for an empty list
unfoldable pub run_of : List Step → State → List ℕ → List ℕ → Ending Ran
unfolding run_from
run_of [] s left right = ending (none_done s (check_call s left right)) left right
run_of (x ∷ xs) s left right = run_from (x ∷ xs) s left right
