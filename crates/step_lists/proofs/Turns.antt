-- A run over words, step by step: what is left of it from step i on, in the state and the stores of
-- then, gives the whole with i more done. Assumes nothing.
use Rattle.std.specs.Prelude.{◌≡◌, refl, ℕ, zero, suc, ◌+◌, ◌-◌, ◌*◌, ◌/◌, ◌%◌, ◌<◌, List, [], ◌∷◌, length, get_or, take, drop, leb, true, false, is_err, Err, Ok}
use Rattle.std.proofs.Common.{sym, ap, ◌∙◌, arith, true≢false, drop-drop}
use Rattle.std.proofs.lemmas.Bool.{lt-leb, le-leb}
use Rattle.std.specs.Simd.{first_chunks}
use Rattle.keys.specs.Laws.{key-first, key-word}
use Rattle.statevector.specs.declared.Refusal.TheVariants as no
use Rattle.statevector.specs.declared.State.{State}
use Rattle.statevector.specs.Endings.{Ending}
use Rattle.statevector.specs.Refusals.{Tested}
use Rattle.run.specs.declared.Ran.{Ran}
use Rattle.run.specs.declared.Step.{Step}
use Rattle.run.specs.Run.{after_more, run_from, run_of}
use Rattle.run.specs.Steps.{ending, answered, step_from}
use Rattle.run.specs.Laws.{go_on, more-none, more-more, steps-append, run-some, run-all, one-stopped}
use Rattle.step_lists.specs.Lists.{step_at, steps_from, steps_of}
use Rattle.step_lists.specs.Laws.{no-step}

-- what is left from step i on, with i done
abbrev pub left_over : List ℕ → ℕ → State → List ℕ → List ℕ → Ending Ran
left_over ws i s left right = answered (after_more i) (run_from (steps_from ws i ((length ws + 9) / 10 - i)) s left right)

pub begins : (ws : List ℕ) (s : State) (left right : List ℕ) → 0 < length ws → left_over ws 0 s left right ≡ run_of (steps_of ws) s left right
unfolding steps_of
begins ws s left right h =
    let e : (length ws + 9) / 10 - 0 ≡ (length ws + 9) / 10 = omega arith in
    rw e (more-none (run_from (steps_from ws 0 ((length ws + 9) / 10)) s left right) ∙ some ((length ws + 9) / 10) (omega arith))
  where
    some : (n : ℕ) → 0 < n → run_from (steps_from ws 0 n) s left right ≡ run_of (steps_from ws 0 n) s left right
    some zero g = absurd (omega arith)
    some (suc n) g = sym (run-some (step_at ws 0) (steps_from ws 1 n) s left right)

pub none : (ws : List ℕ) → length ws ≡ 0 → [] ≡ steps_of ws
unfolding steps_of
none [] h = refl
none (w ∷ ws) h = absurd (omega arith)

pub ends : (ws : List ℕ) (i n : ℕ) (s : State) (left right : List ℕ) → i ≡ n → n ≡ (length ws + 9) / 10
    → left_over ws i s left right ≡ ending (record { done = n; state = s; stopped = Ok tt }) left right
unfolding run_from
ends ws i n s left right h g =
    let e : (length ws + 9) / 10 - i ≡ 0 = omega arith in
    rw e (ap (λ (m : ℕ). ending (record { done = m; state = s; stopped = Ok tt }) left right) (omega arith))

-- the run of step i gave u and left l and r
module _ (ws : List ℕ) (i : ℕ) (s : State) (left right l r : List ℕ) (u : Ran) (h : i < (length ws + 9) / 10) (e : ending u l r ≡ run_of (step_at ws i ∷ []) s left right) where
  abbrev rest : List Step
  rest = steps_from ws (i + 1) ((length ws + 9) / 10 - (i + 1))

  here : run_from (steps_from ws i ((length ws + 9) / 10 - i)) s left right ≡ go_on u.stopped (ending u l r) rest
  here =
      let m : (length ws + 9) / 10 - i ≡ suc ((length ws + 9) / 10 - (i + 1)) = omega arith in
      rw m (steps-append (step_at ws i ∷ []) rest s left right ∙ ap (λ (o : Ending Ran). go_on o.answer.stopped o rest) (sym (run-some (step_at ws i) [] s left right) ∙ sym e))

  stopped : (run_of (step_at ws i ∷ []) s left right).answer.stopped ≡ u.stopped
  stopped = sym (ap (λ (o : Ending Ran). o.answer.stopped) e)

  done : u.done ≡ (run_of (step_at ws i ∷ []) s left right).answer.done
  done = ap (λ (o : Ending Ran). o.answer.done) e

  pub goes_on : is_err u.stopped ≡ false → left_over ws i s left right ≡ left_over ws (i + 1) u.state l r
  goes_on = go u.stopped refl
    where
      go : (t : Tested) → u.stopped ≡ t → is_err t ≡ false → left_over ws i s left right ≡ left_over ws (i + 1) u.state l r
      go (Ok tt) f h =
          ap (answered (after_more i)) (here ∙ ap (λ (t : Tested). go_on t (ending u l r) rest) f ∙ ap (λ (n : ℕ). answered (after_more n) (run_from rest u.state l r)) (done ∙ run-all (step_at ws i ∷ []) s left right (stopped ∙ f)))
          ∙ sym (more-more i 1 (run_from rest u.state l r))
      go (Err n) f h = absurd (true≢false h)

  pub stops : is_err u.stopped ≡ true → left_over ws i s left right ≡ ending (record { done = i; state = u.state; stopped = u.stopped }) l r
  stops = go u.stopped refl
    where
      go : (t : Tested) → u.stopped ≡ t → is_err t ≡ true → left_over ws i s left right ≡ ending (record { done = i; state = u.state; stopped = u.stopped }) l r
      go (Ok tt) f h = absurd (true≢false (sym h))
      go (Err n) f h =
          let d : u.done ≡ 0 = done ∙ one-stopped (step_at ws i) s left right n (stopped ∙ f) in
          ap (answered (after_more i)) (here ∙ ap (λ (t : Tested). go_on t (ending u l r) rest) f)
          ∙ ap (λ (n : ℕ). ending (record { done = n; state = u.state; stopped = u.stopped }) l r) (omega arith)

-- words left over are a step that is refused
pub stray : (ws : List ℕ) (i n : ℕ) (s : State) (left right : List ℕ) → i ≡ n → n ≡ length ws / 10 → 0 < length ws % 10
    → left_over ws i s left right ≡ ending (record { done = n; state = s; stopped = Err no.Step }) left right
unfolding step_at
stray ws i n s left right e h g =
    let m : (length ws + 9) / 10 - i ≡ 1 = omega arith in
    let d : leb 10 (length ws - 10 * i) ≡ false = lt-leb 10 (length ws - 10 * i) (omega arith) in
    rw (m, d) (ap (answered (after_more i)) (no-step s left right) ∙ ap (λ (n : ℕ). ending (record { done = n; state = s; stopped = Err no.Step }) left right) (omega arith))

-- the tens of words
ten : (k i : ℕ) (ws : List ℕ) → i < k → get_or (first_chunks 10 k ws) i [] ≡ take 10 (drop (10 * i) ws)
ten zero i ws h = absurd (omega arith)
ten (suc k) zero ws h = refl
ten (suc k) (suc i) ws h =
    let n : 10 + 10 * i ≡ 10 * suc i = omega arith in
    ten k i (drop 10 ws) (omega arith) ∙ ap (take 10) (drop-drop (10 * i) 10 ws ∙ ap (λ (j : ℕ). drop j ws) n)

-- a step read from them
pub step-in : (ws : List ℕ) (tens : List (List ℕ)) (i : ℕ) → tens ≡ first_chunks 10 (length ws / 10) ws → i < length ws / 10
    → step_from (get_or tens i []) 0 ≡ step_at ws i
unfolding step_at step_from
step-in ws tens i e h =
    let p : get_or tens i [] ≡ take 10 (drop (10 * i) ws) = ap (λ (ts : List (List ℕ)). get_or ts i []) e ∙ ten (length ws / 10) i ws h in
    let d : leb 10 (length ws - 10 * i) ≡ true = le-leb 10 (length ws - 10 * i) (omega arith) in
    let f : get_or (get_or tens i []) 0 0 ≡ get_or ws (10 * i) 0 = ap (λ (l : List ℕ). get_or l 0 0) p ∙ key-first 10 (10 * i) ws (omega arith) in
    let w : (k : ℕ) → k < 10 → get_or (get_or tens i []) k 0 ≡ get_or ws (10 * i + k) 0 = λ k g. ap (λ (l : List ℕ). get_or l k 0) p ∙ key-word 10 (10 * i) k ws g in
    rw (d, f, w 1 (omega arith), w 2 (omega arith), w 3 (omega arith), w 4 (omega arith), w 5 (omega arith), w 6 (omega arith), w 7 (omega arith), w 8 (omega arith), w 9 (omega arith))

-- where a list begins, and a list of none
pub ruleset turns = (begins, none)
