-- What the clauses of src/ cite: the step that 80 bytes hold, the lines of a trial, and what its
-- steps leave (SPECIFICATION 9). Assumes nothing.
use Rattle.std.specs.Prelude.{◌≡◌, ℕ, ◌+◌, ◌*◌, ◌≤◌, List, [], ◌∷◌, true, false, Float, Option, None, Some, get_or, take}
use Rattle.std.specs.Float.{binary64}
use Rattle.std.specs.Float.Ieee.{to_bits}
use Rattle.run.specs.declared.Step.{Step}
use Rattle.run.specs.declared.Taken.{Taken}
use Rattle.run.specs.Steps.{Answer, step_from, step_number, step_sums, step_of}
use Rattle.run.specs.Trial.{Report, Reported, report_of, trial_of}
use Rattle.statevector.specs.declared.State.{State}
use Rattle.text.specs.Words.{word_at, words_from}
use Rattle.text.specs.Text.{step_line, step_line_with_sums, tag_line, record_line}

-- the words of a store: 1,024 records of width 1, 3 words each
abbrev pub store_words : ℕ
store_words = 1024 * 3

-- ---- a step

-- that of the ten words
unfoldable pub step_in : List ℕ → Step
unfolding step_from word_at
step_in bs = step_from (words_from bs 0 10) 0

-- ---- lines

-- the first n bytes of the buffer are the line, and there are at most 160 of them
pub record Front (text buf : List ℕ) (n : ℕ) : Type 0 where
  pub bytes : take n buf ≡ text
  pub small : n ≤ 160

-- a number, the sizes after the step, and the sums where there are two
abbrev pub with_sums : ℕ → ℕ → ℕ → ℕ → List Float → List ℕ
with_sums i n n0 n1 [] = step_line i n n0 n1
with_sums i n n0 n1 (x ∷ []) = step_line i n n0 n1
with_sums i n n0 n1 (x ∷ y ∷ zs) = step_line_with_sums i n n0 n1 (to_bits binary64 x) (to_bits binary64 y)

-- an answer's number and sums
abbrev pub sized : ℕ → ℕ → ℕ → Answer → List ℕ
sized i n0 n1 a = with_sums i (step_number a) n0 n1 (step_sums a)

-- the line of step i
abbrev pub report_line : ℕ → Report → List ℕ
report_line i p = sized i p.n0 p.n1 p.answer

abbrev pub answer_line : ℕ → Taken → List ℕ
answer_line i t = report_line i (report_of t)

abbrev pub tag_lines : Option ℕ → List ℕ
tag_lines None = tag_line false 0
tag_lines (Some q) = tag_line true q

-- record r of width 1
abbrev pub record_text : List ℕ → ℕ → List ℕ
record_text ws r = record_line (get_or ws (r * 3) 0) (get_or ws (r * 3 + 1) 0) (get_or ws (r * 3 + 2) 0)

-- ---- steps one after the other

-- what a trial keeps from step to step
pub record Progress : Type 0 where
  pub state : State
  pub left : List ℕ
  pub right : List ℕ

unfoldable pub next : Progress → Step → Progress
unfolding step_of
next x st = let o = step_of x.state st x.left x.right in record { state = o.answer.state; left = o.left; right = o.right }

-- a step of number i: what it leaves, and its line
pub record Turn : Type 0 where
  pub kept : Progress
  pub line : List ℕ

unfoldable pub turn : ℕ → Progress → Step → Turn
unfolding next step_of
turn i x st = record { kept = next x st; line = answer_line i (step_of x.state st x.left x.right).answer }

-- after all steps of a list; a refused one is passed over
abbrev pub progress_of : Reported → Progress
progress_of t = record { state = t.state; left = t.left; right = t.right }

abbrev pub trial_from : Progress → List Step → Reported
trial_from x sts = trial_of sts x.state x.left x.right

-- y is what some steps leave of x
pub record Reached (x y : Progress) : Type 0 where
  pub steps : List Step
  pub is : y ≡ progress_of (trial_from x steps)
