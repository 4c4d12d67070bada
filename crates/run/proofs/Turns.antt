-- What a turn of `run` does, said of the definitions of specs/ alone: what is left from step i on,
-- with i done, gives what the whole gives. Assumes nothing.
use Rattle.std.specs.Prelude.{◌≡◌, ℕ, ◌+◌, ◌<◌, ◌≤◌, List, [], ◌∷◌, length, get_or, drop, Err, Ok, Option}
use Rattle.std.proofs.Common.{sym, ap, ◌∙◌, arith, add-one, drop-cons}
use lib.ListN.{drop_of_length-le}
use Rattle.statevector.specs.declared.Refusal.{Refusal}
use Rattle.statevector.specs.declared.State.{State}
use Rattle.statevector.specs.Endings.{Ending}
use Rattle.statevector.specs.Refusals.{Tested}
use Rattle.statevector.specs.Tests.{check_call}
use Rattle.state.specs.declared.Squares.{Squares}
use Rattle.run.specs.declared.Ran.{Ran}
use Rattle.run.specs.declared.Step.{Step}
use Rattle.run.specs.declared.Taken.{Taken}
use Rattle.run.specs.Laws.{more-none, more-more, run-some, run_none}
use Rattle.run.specs.Run.{tested_as, none_done, after_more, onward, run_from, run_of}
use Rattle.run.specs.Steps.{Answer, ending, answered, list_step_of}

-- with i more steps done before
abbrev pub left_over : List Step → ℕ → State → List ℕ → List ℕ → Ending Ran
left_over xs i s l r = answered (after_more i) (run_from (drop i xs) s l r)

more-out : (i : ℕ) (s : State) (t : Tested) (l r : List ℕ) → answered (after_more i) (ending (none_done s t) l r) ≡ ending (record { done = i; state = s; stopped = t }) l r
more-out i s t l r = ap (λ (n : ℕ). ending (record { done = n; state = s; stopped = t }) l r) (omega arith)

-- before the first step, and where there is none
pub begins : (xs : List Step) (s : State) (l r : List ℕ) → 0 < length xs → left_over xs 0 s l r ≡ run_of xs s l r
begins [] s l r h = absurd (omega arith)
begins (x ∷ xs) s l r h = more-none (run_from (x ∷ xs) s l r) ∙ sym (run-some x xs s l r)

pub tested_alone : (xs : List Step) (s : State) (l r : List ℕ) → length xs ≡ 0 → run_of xs s l r ≡ ending (none_done s (check_call s l r)) l r
tested_alone [] s l r h = run_none s l r
tested_alone (x ∷ xs) s l r h = absurd (omega arith)

-- after the last
pub ends : (xs : List Step) (i : ℕ) (s : State) (l r : List ℕ) → i ≡ length xs → left_over xs i s l r ≡ ending (record { done = length xs; state = s; stopped = Ok tt }) l r
unfolding run_from
ends xs i s l r h =
    let e : length xs ≤ length xs = omega arith in
    rw (h, drop_of_length-le xs e) (more-out (length xs) s (Ok tt) l r)

-- step i gave t and left l' and r'
module _ (xs : List Step) (i : ℕ) (d : Step) (s : State) (l r l' r' : List ℕ) (t : Taken) (h : i < length xs) (e : ending t l' r' ≡ list_step_of s (get_or xs i d) l r) where
  abbrev rest : Ending Ran
  rest = run_from (drop (i + 1) xs) t.state l' r'

  here : (a : Answer) → t.answer ≡ a → run_from (drop i xs) s l r ≡ onward (tested_as a) (ending t l' r') rest
  unfolding run_from
  here a f = rw (drop-cons xs i d h, add-one i, ← e, f)

  pub goes_on : (sums : Option Squares) → t.answer ≡ Ok sums → left_over xs i s l r ≡ left_over xs (i + 1) t.state l' r'
  goes_on sums f = ap (answered (after_more i)) (here (Ok sums) f) ∙ sym (more-more i 1 rest)

  pub stops : (n : Refusal) → t.answer ≡ Err n → left_over xs i s l r ≡ ending (record { done = i; state = t.state; stopped = Err n }) l' r'
  stops n f = ap (answered (after_more i)) (here (Err n) f) ∙ more-out i t.state (Err n) l' r'

-- before the first turn and after the last
pub ruleset turns = (begins, tested_alone, ends)
