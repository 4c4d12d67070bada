-- Laws of steps in words: how many there are, how they are cut, and that stray words after the last
-- whole step are refused with 10. Assumes nothing.
use Rattle.statevector.specs.Refusals.{Tested}
use Rattle.std.specs.Prelude.{◌≡◌, refl, ℕ, zero, suc, ◌+◌, ◌-◌, ◌*◌, ◌/◌, ◌%◌, List, [], ◌∷◌, ◌++◌, false, leb, length, Err, Ok}
use Rattle.std.proofs.Common.{sym, ap, ◌∙◌, arith}
use Rattle.std.proofs.lemmas.Bool.{lt-leb}
use Rattle.statevector.specs.declared.Refusal.TheVariants as no
use Rattle.statevector.specs.declared.State.{State}
use Rattle.statevector.specs.declared.Refusal.{Refusal}
use Rattle.run.specs.declared.Step.{Step}
use Rattle.run.specs.Run.{none_done, after_more, run_from, run_of}
use Rattle.run.specs.Steps.{ending, answered}
use Rattle.run.specs.Laws.{go_on, steps-append, run-some, unknown-last}
use Rattle.step_lists.specs.Lists.{no_step, step_at, steps_from, steps_of}

pub steps-length : (ws : List ℕ) (i n : ℕ) → length (steps_from ws i n) ≡ n
steps-length ws i zero = refl
steps-length ws i (suc n) = ap suc (steps-length ws (i + 1) n)

pub steps-more : (ws : List ℕ) (i k m : ℕ) → steps_from ws i (k + m) ≡ steps_from ws i k ++ steps_from ws (i + k) m
steps-more ws i zero m =
    let e : zero + m ≡ m = omega arith in
    let d : i ≡ i + zero = omega arith in rw (e, ← d)
steps-more ws i (suc k) m =
    let e : suc k + m ≡ suc (k + m) = omega arith in
    let d : i + 1 + k ≡ i + suc k = omega arith in
    rw (e, ← d) (ap (λ (xs : List Step). step_at ws i ∷ xs) (steps-more ws (i + 1) k m))

-- the whole steps, and after them no step
pub stray-words : (ws : List ℕ) → (length ws % 10 ≡ 0 → ⊥) → steps_of ws ≡ steps_from ws 0 (length ws / 10) ++ (no_step ∷ [])
unfolding steps_of step_at
stray-words ws h =
    let e : (length ws + 9) / 10 ≡ length ws / 10 + 1 = omega arith in
    let d : leb 10 (length ws - 10 * (0 + length ws / 10)) ≡ false = lt-leb 10 (length ws - 10 * (0 + length ws / 10)) (omega arith) in
    ap (steps_from ws 0) e ∙ steps-more ws 0 (length ws / 10) 1 ∙ rw d

-- a refusal, or else another
abbrev pub refused_or : Tested → Refusal → Tested
refused_or (Ok _) r = Err r
refused_or (Err x) r = Err x

-- a step that is none is refused
pub no-step : (s : State) (left right : List ℕ) → run_from (no_step ∷ []) s left right ≡ ending (none_done s (Err no.Step)) left right
unfolding run_from
no-step s left right = sym (run-some no_step [] s left right) ∙ unknown-last [] no_step s left right (λ d. omega arith) (λ d. omega arith) refl

pub run-then : (xs : List Step) (s : State) (left right : List ℕ) → let o = run_from xs s left right in
    run_of (xs ++ (no_step ∷ [])) s left right
    ≡ ending (record { done = o.answer.done; state = o.answer.state; stopped = refused_or o.answer.stopped no.Step }) o.left o.right
run-then xs s left right = some xs ∙ steps-append xs (no_step ∷ []) s left right ∙ go (run_from xs s left right).answer.stopped refl
  where
    some : (ys : List Step) → run_of (ys ++ (no_step ∷ [])) s left right ≡ run_from (ys ++ (no_step ∷ [])) s left right
    some [] = run-some no_step [] s left right
    some (y ∷ ys) = run-some y (ys ++ (no_step ∷ [])) s left right

    go : (t : Tested) → let o = run_from xs s left right in o.answer.stopped ≡ t
        → go_on t o (no_step ∷ []) ≡ ending (record { done = o.answer.done; state = o.answer.state; stopped = refused_or t no.Step }) o.left o.right
    go (Ok tt) e =
        let o = run_from xs s left right in
        ap (answered (after_more o.answer.done)) (no-step o.answer.state o.left o.right)
        ∙ ap (λ (n : ℕ). ending (record { done = n; state = o.answer.state; stopped = Err no.Step }) o.left o.right) (omega arith)
    go (Err r) e =
        let o = run_from xs s left right in
        ap (λ (t : Tested). ending (record { done = o.answer.done; state = o.answer.state; stopped = t }) o.left o.right) e

-- words left over are a step that is refused with 10, unless a whole step before them is refused;
-- where there is none, the state stays untested
pub stray-run : (ws : List ℕ) (s : State) (left right : List ℕ) → (length ws % 10 ≡ 0 → ⊥) → let o = run_from (steps_from ws 0 (length ws / 10)) s left right in
    run_of (steps_of ws) s left right ≡ ending (record { done = o.answer.done; state = o.answer.state; stopped = refused_or o.answer.stopped no.Step }) o.left o.right
stray-run ws s left right h =
    ap (λ (ys : List Step). run_of ys s left right) (stray-words ws h) ∙ run-then (steps_from ws 0 (length ws / 10)) s left right
