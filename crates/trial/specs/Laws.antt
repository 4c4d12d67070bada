-- What the proofs of src/ cite of the definitions: how long lines are, the fresh state, steps one
-- after the other. Assumes nothing.
use Rattle.std.specs.Prelude.{◌≡◌, refl, ℕ, ◌+◌, ◌*◌, ◌≤◌, List, [], ◌∷◌, ◌++◌, true, false, length, get_or, Option, None, Some, Ok, Err}
use Rattle.std.proofs.Common.{sym, ap, ◌∙◌, arith, ne_eqb}
use Rattle.std.specs.Float.{binary64}
use Rattle.std.specs.Float.Ieee.{to_bits}
use Rattle.merge.specs.Records.{capacity}
use Rattle.merge.specs.Laws.{room-capacity}
use Rattle.run.specs.declared.Step.{Step}
use Rattle.run.specs.declared.Taken.{Taken}
use Rattle.statevector.specs.declared.State.{State}
use Rattle.run.specs.Steps.{Answer, ending, step_of}
use Rattle.run.specs.Trial.{trial_of}
use Rattle.run.specs.Laws.{trial-append}
use Rattle.statevector.specs.Endings.{Ending}
use Rattle.state.specs.Fresh.{fresh_state, fresh_tests, fresh_call}
use Rattle.statevector.specs.Refusals.{number_of, first}
use Rattle.text.specs.Text.{Line}
use Rattle.text.specs.Laws.{step-length, sums-length, tag-length, record-line-length, line-front}
use Rattle.trial.specs.Session.{Front, sized, answer_line, tag_lines, record_text, Progress, next, Turn, turn, progress_of, Reached}

-- ---- lines fit the buffer

sized-length : (i n0 n1 : ℕ) (a : Answer) → length (sized i n0 n1 a) ≤ 160
sized-length i n0 n1 (Ok None) = omega (arith, step-length i 0 n0 n1)
sized-length i n0 n1 (Ok (Some x)) = omega (arith, sums-length i 0 n0 n1 (to_bits binary64 x.clear) (to_bits binary64 x.set))
sized-length i n0 n1 (Err r) = omega (arith, step-length i (number_of r) n0 n1)

pub answer-length : (i : ℕ) (t : Taken) → length (answer_line i t) ≤ 160
answer-length i t = sized-length i t.state.n0 t.state.n1 t.answer

pub tag-text-length : (t : Option ℕ) → length (tag_lines t) ≤ 160
tag-text-length None = omega (arith, tag-length false 0)
tag-text-length (Some q) = omega (arith, tag-length true q)

pub record-text-length : (ws : List ℕ) (r : ℕ) → length (record_text ws r) ≤ 160
record-text-length ws r = omega (arith, record-line-length (get_or ws (r * 3) 0) (get_or ws (r * 3 + 1) 0) (get_or ws (r * 3 + 2) 0))

pub front : {old text new : List ℕ} {n : ℕ} → Line old text new n → 160 ≤ length old → length text ≤ 160 → Front text new n
front p h l = record { bytes = line-front p (omega arith); small = let e = p.size in omega arith }

-- ---- the fresh state

-- one of width 1 is made wherever a record fits
pub fresh-fits : (l : List ℕ) → 3 ≤ length l → (fresh_call 1 l).answer ≡ Ok (fresh_state 1)
unfolding fresh_call fresh_tests first
fresh-fits l h = rw (ne_eqb (capacity 1 l) 0 (λ e. let k = room-capacity 1 1 l (omega arith) in omega arith))

-- ---- steps one after the other

-- a step that was taken, and its line
pub turned : {t : Taken} {m k text : List ℕ} (i : ℕ) (s : State) (x y : Step) (l r : List ℕ) → x ≡ y
    → ending t m k ≡ step_of s x l r → text ≡ answer_line i t
    → ◌≡◌ {A = Turn} (record { kept = record { state = t.state; left = m; right = k }; line = text }) (turn i (record { state = s; left = l; right = r }) y)
unfolding next turn
turned {t} {m} {k} i s x y l r e f p =
    ap (λ (z : List ℕ). record { kept = record { state = t.state; left = m; right = k }; line = z }) p
    ∙ ap (λ (o : Ending Taken). record { kept = record { state = o.answer.state; left = o.left; right = o.right }; line = answer_line i o.answer }) f
    ∙ ap (turn i (record { state = s; left = l; right = r })) e

pub turn-next : (i : ℕ) (x : Progress) (st : Step) → (turn i x st).kept ≡ next x st
unfolding turn
turn-next i x st = refl

pub reached-none : (x : Progress) → Reached x x
unfolding trial_of
reached-none x = record { steps = []; is = refl }

-- one more at the end
pub reached-more : {x y z : Progress} (st : Step) → Reached x y → z ≡ next y st → Reached x z
unfolding next trial_of
reached-more {x} st r e =
    record {
      steps = r.steps ++ (st ∷ []);
      is = e ∙ ap (λ (k : Progress). next k st) r.is ∙ sym (ap progress_of (trial-append r.steps (st ∷ []) x.state x.left x.right));
    }
