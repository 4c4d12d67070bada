-- An accepted state stays accepted, step by step, along a run and along the list that goes on after
-- a refusal. For the layer above. Assumes nothing.
use Rattle.statevector.specs.Refusals.{Tested}
use Rattle.gates.specs.declared.Gated.{Gated}
use Rattle.statevector.specs.declared.Refusal.{Refusal}
use Rattle.std.specs.Prelude.{◌≡◌, refl, ℕ, List, [], ◌∷◌, ◌++◌, Bool, cond, eqb, Err, Ok, Result}
use Rattle.std.proofs.Common.{sym, ap, ◌∙◌, subst}
use Rattle.std.proofs.Math.Bool.{true, false}
use Rattle.keys.specs.Keys.{Words}
use Rattle.state.specs.declared.Squares.{Squares}
use Rattle.statevector.specs.declared.State.{State}
use Rattle.gates.specs.Gate.{gate_call}
use Rattle.state.specs.Laws.{gate-kept, gate-refused, gate-words, measure-done, measure-refused, measure-words, measured-accepted, accepted-check}
use Rattle.measurement.specs.Measurement.{measure_call}
use Rattle.statevector.specs.Endings.{Ending}
use Rattle.statevector.specs.States.{front_of}
use Rattle.state.specs.Sums.{premeasure_call}
use Rattle.statevector.specs.Tests.{Accepted}
use Rattle.run.specs.declared.Ran.{Ran}
use Rattle.run.specs.declared.Step.{Step}
use Rattle.run.specs.declared.Taken.{Taken}
use Rattle.run.specs.declared.steps.StepCall.{StepCall}
use Rattle.run.specs.declared.steps.StepCall.TheVariants.{Gate, Measure, Premeasure}
use Rattle.run.specs.Laws.Lists.{go_on, steps-append}
use Rattle.run.specs.Run.{tested_as, none_done, onward, run_from, run_of}
use Rattle.run.specs.Steps.{gate_taken, measure_taken, sums_taken, refused_step, ending, by_call, call_of, step_of, list_step_of}
use Rattle.run.specs.Trial.{trial_of}

-- an accepted state over stores of 64-bit words
pub record Good (s : State) (left right : List ℕ) : Type 0 where
  pub accepted : Accepted s (front_of s.front left right)
  pub lefts : Words left
  pub rights : Words right

abbrev GoodTaken : Ending Taken → Type 0
GoodTaken o = Good o.answer.state o.left o.right

abbrev GoodRan : Ending Ran → Type 0
GoodRan o = Good o.answer.state o.left o.right

module _ (s : State) (left right : List ℕ) (h : Good s left right) where
  by-call-kept : (q : ℕ) (c : Result StepCall Refusal) → GoodTaken (by_call s q c left right)
  by-call-kept q (Ok (Gate g)) = go (gate_call s q g left right).answer refl
    where
      go : (p : Result Gated Refusal) → (gate_call s q g left right).answer ≡ p → Good (gate_taken s p).state (gate_call s q g left right).left (gate_call s q g left right).right
      go (Ok d) e = record { accepted = (gate-kept s q g left right h.lefts h.rights d e).accepted; lefts = (gate-words s q g left right h.lefts h.rights).0; rights = (gate-words s q g left right h.lefts h.rights).1 }
      go (Err r) e = record { accepted = subst (Accepted s) (sym (gate-refused s q g left right r e).0) h.accepted; lefts = (gate-words s q g left right h.lefts h.rights).0; rights = (gate-words s q g left right h.lefts h.rights).1 }
  by-call-kept q (Ok (Measure v scale)) = go (measure_call s q v scale left right).answer refl
    where
      words : Words (measure_call s q v scale left right).left × Words (measure_call s q v scale left right).right
      words = measure-words s q v scale left right h.lefts h.rights

      go : (m : Result State Refusal) → (measure_call s q v scale left right).answer ≡ m → Good (measure_taken s m).state (measure_call s q v scale left right).left (measure_call s q v scale left right).right
      go (Ok t) e = record { accepted = measured-accepted s q v scale left right t _ _ (measure-done s q v scale left right t e); lefts = words.0; rights = words.1 }
      go (Err r) e =
          let same = measure-refused s q v scale left right r e in
          rw (same.0, same.1) h
  by-call-kept q (Ok Premeasure) = go (premeasure_call s q left right)
    where
      go : (p : Result Squares Refusal) → Good (sums_taken s p).state left right
      go (Ok x) = h
      go (Err r) = h
  by-call-kept q (Err r) = h

  -- one step, done or refused
  pub step_kept : (x : Step) → GoodTaken (step_of s x left right)
  unfolding step_of
  step_kept x = by-call-kept x.qubit (call_of x)

  pub list-step-kept : (x : Step) → GoodTaken (list_step_of s x left right)
  unfolding list_step_of
  list-step-kept x = go (eqb x.kind 3)
    where
      go : (b : Bool) → GoodTaken (cond b (ending (refused_step s) left right) (step_of s x left right))
      go true = h
      go false = step_kept x

-- the steps in order, stopped or not; a run
pub run-kept : (xs : List Step) (s : State) (left right : List ℕ) → Good s left right → GoodRan (run_from xs s left right)
unfolding run_from
run-kept [] s left right h = h
run-kept (x ∷ xs) s left right h =
    let o = list_step_of s x left right in
    let k = list-step-kept s left right h x in
    go (tested_as o.answer.answer) o k (run_from xs o.answer.state o.left o.right) (run-kept xs o.answer.state o.left o.right k)
  where
    go : (t : Tested) (o : Ending Taken) → GoodTaken o → (rest : Ending Ran) → GoodRan rest → GoodRan (onward t o rest)
    go (Ok _) o k rest g = g
    go (Err r) o k rest g = k

pub run-of-kept : (xs : List Step) (s : State) (left right : List ℕ) → Good s left right → GoodRan (run_of xs s left right)
unfolding run_of
run-of-kept [] s left right h = h
run-of-kept (x ∷ xs) s left right h = run-kept (x ∷ xs) s left right h

-- a list that goes on after a refusal
pub trial-kept : (xs : List Step) (s : State) (left right : List ℕ) → Good s left right → let t = trial_of xs s left right in Good t.state t.left t.right
unfolding trial_of
trial-kept [] s left right h = h
trial-kept (x ∷ xs) s left right h = trial-kept xs _ _ _ (step_kept s left right h x)

-- from an accepted state an empty list is no exception: a run of any two lists is that of the first
-- and then, if nothing stopped it, the second
pub accepted-run : (xs : List Step) (s : State) (left right : List ℕ) → Accepted s (front_of s.front left right) → run_of xs s left right ≡ run_from xs s left right
unfolding run_of run_from
accepted-run [] s left right h = ap (λ (t : Tested). ending (none_done s t) left right) (accepted-check s left right h)
accepted-run (x ∷ xs) s left right h = refl

pub accepted-append : (xs ys : List Step) (s : State) (left right : List ℕ) → Accepted s (front_of s.front left right)
    → run_of (xs ++ ys) s left right ≡ go_on (run_of xs s left right).answer.stopped (run_of xs s left right) ys
accepted-append xs ys s left right h =
    accepted-run (xs ++ ys) s left right h ∙ steps-append xs ys s left right ∙ ap (λ (o : Ending Ran). go_on o.answer.stopped o ys) (sym (accepted-run xs s left right h))
