-- Laws for the layer above: what a run of two lists is, and that a refused step of no call changes
-- nothing. Assumes nothing.
use Rattle.statevector.specs.Refusals.{Tested}
use Rattle.std.specs.Prelude.{◌≡◌, refl, ℕ, ◌+◌, ◌≤◌, List, [], ◌∷◌, ◌++◌, Bool, true, false, cond, eqb, length, Err, Ok, Result}
use Rattle.std.proofs.Common.{sym, ap, ◌∙◌, arith, true≢false, eq-eqb, ne_eqb}
use Rattle.statevector.specs.declared.Refusal.{Refusal}
use Rattle.statevector.specs.declared.Refusal.TheVariants as no
use Rattle.statevector.specs.declared.State.{State}
use Rattle.statevector.specs.Endings.{Ending}
use Rattle.statevector.specs.Tests.{check_call}
use Rattle.run.specs.declared.Ran.{Ran}
use Rattle.run.specs.declared.Step.{Step}
use Rattle.run.specs.declared.Taken.{Taken}
use Rattle.run.specs.declared.steps.StepCall.{StepCall}
use Rattle.run.specs.Run.{tested_as, none_done, after_more, onward, run_from, run_of}
use Rattle.run.specs.Steps.{refused_step, ending, answered, call_of, by_call, step_of, list_step_of}
use Rattle.run.specs.Trial.{report_of, report_first, trial_of}

-- ---- two lists, one after the other

-- a run that goes on with more steps, if nothing stopped it, the counts added
abbrev pub go_on : Tested → Ending Ran → List Step → Ending Ran
go_on (Ok _) o ys = answered (after_more o.answer.done) (run_from ys o.answer.state o.left o.right)
go_on (Err r) o ys = o

-- counts
pub more-none : (w : Ending Ran) → answered (after_more 0) w ≡ w
more-none w = ap (λ (n : ℕ). ending (record { done = n; state = w.answer.state; stopped = w.answer.stopped }) w.left w.right) (omega arith)

pub more-more : (m n : ℕ) (w : Ending Ran) → answered (after_more (m + n)) w ≡ answered (after_more m) (answered (after_more n) w)
more-more m n w = ap (λ (k : ℕ). ending (record { done = k; state = w.answer.state; stopped = w.answer.stopped }) w.left w.right) (omega arith)

-- the steps of xs ++ ys are those of xs and then, if nothing stopped them, those of ys
pub steps-append : (xs ys : List Step) (s : State) (left right : List ℕ)
    → run_from (xs ++ ys) s left right ≡ go_on (run_from xs s left right).answer.stopped (run_from xs s left right) ys
unfolding run_from
steps-append [] ys s left right = sym (more-none (run_from ys s left right))
steps-append (x ∷ xs) ys s left right =
    let o = list_step_of s x left right in
    go (tested_as o.answer.answer) o (run_from xs o.answer.state o.left o.right) (run_from (xs ++ ys) o.answer.state o.left o.right) (steps-append xs ys o.answer.state o.left o.right)
  where
    later : (t : Tested) (o : Ending Ran) → answered (after_more 1) (go_on t o ys) ≡ go_on t (answered (after_more 1) o) ys
    later (Ok _) o = sym (more-more 1 o.answer.done (run_from ys o.answer.state o.left o.right))
    later (Err r) o = refl

    go : (t : Tested) (o : Ending Taken) (part whole : Ending Ran) → whole ≡ go_on part.answer.stopped part ys
        → onward t o whole ≡ go_on (onward t o part).answer.stopped (onward t o part) ys
    go (Ok _) o part whole h = ap (answered (after_more 1)) h ∙ later part.answer.stopped part
    go (Err r) o part whole h = refl

-- only an empty list has its state tested by itself: a run of some steps is those steps
pub run-some : (x : Step) (xs : List Step) (s : State) (left right : List ℕ) → run_of (x ∷ xs) s left right ≡ run_from (x ∷ xs) s left right
unfolding run_of
run-some x xs s left right = refl

pub run_none : (s : State) (left right : List ℕ) → run_of [] s left right ≡ ending (none_done s (check_call s left right)) left right
unfolding run_of
run_none s left right = refl

-- so a run of some steps and then more is the run of the first and then, if nothing stopped it, the
-- rest
pub run-append : (x : Step) (xs ys : List Step) (s : State) (left right : List ℕ)
    → run_of (x ∷ xs ++ ys) s left right ≡ go_on (run_of (x ∷ xs) s left right).answer.stopped (run_of (x ∷ xs) s left right) ys
unfolding run_of
run-append x xs ys s left right = steps-append (x ∷ xs) ys s left right

-- never more are done than the list has, and all of them where nothing stopped the run
steps-within : (xs : List Step) (s : State) (left right : List ℕ) → (run_from xs s left right).answer.done ≤ length xs
unfolding run_from
steps-within [] s left right = omega arith
steps-within (x ∷ xs) s left right =
    let o = list_step_of s x left right in
    go (tested_as o.answer.answer) o (run_from xs o.answer.state o.left o.right) (steps-within xs o.answer.state o.left o.right)
  where
    go : (t : Tested) (o : Ending Taken) (rest : Ending Ran) → rest.answer.done ≤ length xs → (onward t o rest).answer.done ≤ length (x ∷ xs)
    go (Ok _) o rest h = omega arith
    go (Err r) o rest h = omega arith

steps_all : (xs : List Step) (s : State) (left right : List ℕ) → (run_from xs s left right).answer.stopped ≡ Ok tt → (run_from xs s left right).answer.done ≡ length xs
unfolding run_from
steps_all [] s left right e = refl
steps_all (x ∷ xs) s left right e =
    let o = list_step_of s x left right in
    go (tested_as o.answer.answer) o (run_from xs o.answer.state o.left o.right) (steps_all xs o.answer.state o.left o.right) e
  where
    go : (t : Tested) (o : Ending Taken) (rest : Ending Ran) → (rest.answer.stopped ≡ Ok tt → rest.answer.done ≡ length xs) → (onward t o rest).answer.stopped ≡ Ok tt → (onward t o rest).answer.done ≡ length (x ∷ xs)
    go (Ok _) o rest h e = let d = h e in omega arith
    go (Err r) o rest h e = let z : ◌≡◌ {A = ℕ} 0 1 = cc in absurd (omega arith)

pub run-within : (xs : List Step) (s : State) (left right : List ℕ) → (run_of xs s left right).answer.done ≤ length xs
unfolding run_of
run-within [] s left right = omega arith
run-within (x ∷ xs) s left right = steps-within (x ∷ xs) s left right

pub run-all : (xs : List Step) (s : State) (left right : List ℕ) → (run_of xs s left right).answer.stopped ≡ Ok tt → (run_of xs s left right).answer.done ≡ length xs
unfolding run_of
run-all [] s left right e = refl
run-all (x ∷ xs) s left right e = steps_all (x ∷ xs) s left right e

-- a run of one step that is refused has none done
pub one-stopped : (x : Step) (s : State) (left right : List ℕ) (n : Refusal) → (run_of (x ∷ []) s left right).answer.stopped ≡ Err n → (run_of (x ∷ []) s left right).answer.done ≡ 0
unfolding run_of run_from
one-stopped x s left right n = go (tested_as o.answer.answer)
  where
    o : Ending Taken
    o = list_step_of s x left right

    go : (t : Tested) → let u = onward t o (ending (none_done o.answer.state (Ok tt)) o.left o.right) in u.answer.stopped ≡ Err n → u.answer.done ≡ 0
    go (Ok _) e = let z : ◌≡◌ {A = ℕ} 0 1 = cc in absurd (omega arith)
    go (Err r) e = refl

-- the list that goes on after a refused step
pub trial-append : (xs ys : List Step) (s : State) (left right : List ℕ)
    → let t = trial_of xs s left right in let u = trial_of ys t.state t.left t.right in
    trial_of (xs ++ ys) s left right ≡ record { reports = t.reports ++ u.reports; state = u.state; left = u.left; right = u.right }
unfolding trial_of
trial-append [] ys s left right = refl
trial-append (x ∷ xs) ys s left right =
    let o = step_of s x left right in ap (report_first (report_of o.answer)) (trial-append xs ys o.answer.state o.left o.right)

-- ---- 10

-- a step of unknown kind is refused with 10 whatever the state, and changes nothing
pub unknown-refused : (s : State) (x : Step) (left right : List ℕ) → (x.kind ≡ 1 → ⊥) → (x.kind ≡ 2 → ⊥) → (x.kind ≡ 3 → ⊥)
    → step_of s x left right ≡ ending (refused_step s) left right
unfolding step_of call_of
unknown-refused s x left right h₁ h₂ h₃ = rw (ne_eqb _ _ h₁, ne_eqb _ _ h₂, ne_eqb _ _ h₃)

-- and so is any step whose words are no call
pub malformed-refused : (s : State) (x : Step) (left right : List ℕ) → call_of x ≡ Err no.Step → step_of s x left right ≡ ending (refused_step s) left right
unfolding step_of
malformed-refused s x left right e = ap (λ (c : Result StepCall Refusal). by_call s x.qubit c left right) e

-- and a premeasure in a list
pub premeasure-refused-in-list : (s : State) (x : Step) (left right : List ℕ) → x.kind ≡ 3 → list_step_of s x left right ≡ ending (refused_step s) left right
unfolding list_step_of
premeasure-refused-in-list s x left right e = ap (λ (k : ℕ). cond (eqb k 3) (ending (refused_step s) left right) (step_of s x left right)) e

-- so a step of unknown kind stops a run, and once the steps before it are done
unknown-stops : (s : State) (x : Step) (left right : List ℕ) → (x.kind ≡ 1 → ⊥) → (x.kind ≡ 2 → ⊥) → run_from (x ∷ []) s left right ≡ ending (none_done s (Err no.Step)) left right
unfolding run_from list_step_of
unknown-stops s x left right h₁ h₂ = go (eqb x.kind 3) refl
  where
    as_one : Ending Taken → Ending Ran
    as_one o = onward (tested_as o.answer.answer) o (ending (none_done o.answer.state (Ok tt)) o.left o.right)

    go : (b : Bool) → eqb x.kind 3 ≡ b → as_one (cond b (ending (refused_step s) left right) (step_of s x left right)) ≡ ending (none_done s (Err no.Step)) left right
    go true e = refl
    go false e = ap as_one (unknown-refused s x left right h₁ h₂ (λ d. true≢false (sym (eq-eqb x.kind 3 d) ∙ e)))

pub unknown-last : (xs : List Step) (x : Step) (s : State) (left right : List ℕ) → (x.kind ≡ 1 → ⊥) → (x.kind ≡ 2 → ⊥) → let o = run_from xs s left right in o.answer.stopped ≡ Ok tt
    → run_of (xs ++ (x ∷ [])) s left right ≡ ending (record { done = length xs; state = o.answer.state; stopped = Err no.Step }) o.left o.right
unknown-last xs x s left right h₁ h₂ e =
    let o = run_from xs s left right in
    let all = steps_all xs s left right e in
    some xs ∙ steps-append xs (x ∷ []) s left right ∙ ap (λ (t : Tested). go_on t o (x ∷ [])) e
    ∙ ap (answered (after_more o.answer.done)) (unknown-stops o.answer.state x o.left o.right h₁ h₂)
    ∙ ap (λ (n : ℕ). ending (record { done = n; state = o.answer.state; stopped = Err no.Step }) o.left o.right) (omega arith)
  where
    some : (ys : List Step) → run_of (ys ++ (x ∷ [])) s left right ≡ run_from (ys ++ (x ∷ [])) s left right
    some [] = run-some x [] s left right
    some (y ∷ ys) = run-some y (ys ++ (x ∷ [])) s left right
