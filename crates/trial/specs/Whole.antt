-- The whole text that a trial prints for the bytes of its input, and the example of SPECIFICATION
-- 9.3. No contract can say what a program writes: those of src/ give each line, its state and its
-- stores, and `take_steps` and `print_state` print them in the order of `output_of`.
-- Assumes nothing.
use Rattle.std.specs.Prelude.{◌≡◌, refl, ℕ, zero, suc, ◌+◌, ◌*◌, ◌/◌, ◌%◌, ◌≤◌, List, [], ◌∷◌, ◌++◌, Bool, true, cond, ltb, length, take, drop, replicate}
use Rattle.std.proofs.Common.{sym, subst, lit<, lit≤}
use Rattle.std.specs.Float.Ieee.{of_bits, to_bits, add}
use Rattle.amplitudes.specs.Amplitudes.{times, norm2}
use Rattle.amplitudes.specs.Pairs.{accumulated}
use Rattle.keys.specs.Laws.{zero-words}
use Rattle.keys.specs.Keys.{Words, index_key, toggle, clear, bit_at, order, same}
use Rattle.merge.specs.Addresses.{addresses}
use Rattle.merge.specs.Records.{part, counted, record_at, finite_record, decode, encode, flat, at, capacity}
use Rattle.merge.specs.Sorting.{side, only}
use Rattle.merge.specs.Laws.{sets-words}
use Rattle.run.specs.declared.Step.{Step}
use Rattle.run.specs.Steps.{step_from, zeros, call_of, refused_step, step_of}
use Rattle.run.specs.Trial.{Report, report_of, trial_of}
use Rattle.run.specs.Laws.{Good, trial-kept}
use Rattle.state.specs.Fresh.{fresh_state, fresh_record, fresh_call}
use Rattle.gates.specs.Gate.{gate_call, gated, gate_words, result_tests, gate_part, gate_finite}
use Rattle.state.specs.Laws.{fresh-made, fresh-sound, sound-accepted, export-accepted}
use Rattle.state.specs.Lookup.{export_call}
use Rattle.statevector.specs.States.{front_of}
use Rattle.statevector.specs.Refusals.{first}
use Rattle.state.specs.Sums.{sum_from, sum_for, premeasure_call}
use Rattle.statevector.specs.Tests.{state_tests}
use Rattle.text.specs.Words.{word_at, word_bytes, file_bytes}
use Rattle.text.specs.Text.{digit_of, places, decimal_of, hex_of, step_head, step_line, step_line_with_sums, tag_line, record_line}
use Rattle.trial.specs.declared.Trial.{Trial}
use Rattle.trial.specs.Laws.{fresh-fits}
use Rattle.trial.specs.Session.{store_words, step_in, report_line, tag_lines, record_text, Progress, progress_of, trial_from}

-- the first k steps of some bytes
abbrev pub steps_in : ℕ → List ℕ → List Step
steps_in zero bs = []
steps_in (suc k) bs = step_in bs ∷ steps_in k (drop 80 bs)

-- what a trial of src/ keeps
abbrev pub progress_in : Trial → Progress
progress_in t = record { state = t.state; left = t.left; right = t.right }

-- the fresh state in two stores that hold zeros
abbrev pub fresh_trial : Progress
fresh_trial = record { state = fresh_state 1; left = (fresh_call 1 (replicate store_words 0)).left; right = replicate store_words 0 }

-- the lines of reports, the first of which is of step i
abbrev pub lines : ℕ → List Report → List ℕ
lines i [] = []
lines i (p ∷ ps) = report_line i p ++ lines (i + 1) ps

abbrev pub records : ℕ → List ℕ → ℕ → List ℕ
records zero ws r = []
records (suc k) ws r = record_text ws r ++ records k ws (r + 1)

-- the tag and the records
abbrev pub closing : Progress → List ℕ
closing x = let ws = export_call x.state x.left x.right in tag_lines x.state.tag ++ records (length ws / 3) ws 0

-- stray bytes are one step more, refused with 10
abbrev pub last_lines : Bool → ℕ → Progress → List ℕ
last_lines stray i x = cond stray (report_line i (report_of (refused_step x.state))) [] ++ closing x

unfoldable pub output_of : List ℕ → List ℕ
unfolding step_in trial_of fresh_call fresh_state export_call
output_of bs =
    let n = length bs / 80 in
    let t = trial_from fresh_trial (steps_in n bs) in
    lines 1 t.reports ++ last_lines (ltb 0 (length bs % 80)) (n + 1) (progress_of t)

-- ---- every record of the state at the end is printed: the table accepts that state, so that its export is not empty

-- a fresh state in any store that has room for it
fresh-good : (l r : List ℕ) → 3 ≤ length l → Words l → Words r → Good (fresh_state 1) (fresh_call 1 l).left r
unfolding fresh_state fresh_record encode index_key to_bits
fresh-good l r h u v =
    let e = fresh-fits l h in
    let d = fresh-made 1 l (fresh_state 1) e in
    record {
      accepted = sound-accepted (fresh_state 1) (fresh_call 1 l).left d.width (fresh-sound 1 l (fresh_state 1) e);
      lefts = subst Words (sym d.store) (sets-words l 0 (fresh_record 1) u (lit< tt, (lit< tt, (lit< tt, tt))));
      rights = v;
    }

-- whatever the steps are
pub shows-all : (sts : List Step) → let t = trial_from fresh_trial sts in
    export_call t.state t.left t.right ≡ take ((t.state.n0 + t.state.n1) * (t.state.width + 2)) (front_of t.state.front t.left t.right)
shows-all sts =
    let t = trial_from fresh_trial sts in
    let g = trial-kept sts fresh_trial.state fresh_trial.left fresh_trial.right (fresh-good (replicate store_words 0) (replicate store_words 0) (lit≤ tt) (zero-words store_words) (zero-words store_words)) in
    export-accepted t.state t.left t.right g.accepted

-- ---- the example of SPECIFICATION 9.3, whole

-- the pattern of 1
abbrev one : ℕ
one = 0x3ff0_0000_0000_0000

-- gate 1 1 -1 1 on qubit 0, then premeasure 0
abbrev example_bytes : List ℕ
example_bytes =
    file_bytes (1 ∷ 0 ∷ one ∷ 0 ∷ one ∷ 0 ∷ 0xbff0_0000_0000_0000 ∷ 0 ∷ one ∷ 0 ∷ [])
    ++ file_bytes (3 ∷ 0 ∷ 0 ∷ 0 ∷ 0 ∷ 0 ∷ 0 ∷ 0 ∷ 0 ∷ 0 ∷ [])

example : output_of example_bytes ≡ step_line 1 0 1 1 ++ step_line_with_sums 2 0 1 1 one one ++ tag_line true 0 ++ record_line 0 one 0 ++ record_line 1 one 0
unfolding output_of word_bytes step_line step_line_with_sums step_head tag_line record_line decimal_of hex_of digit_of places trial_of step_from step_of call_of zeros gate_call gated gate_words result_tests gate_part gate_finite premeasure_call sum_for sum_from state_tests fresh_call fresh_state fresh_record export_call first part counted record_at finite_record decode encode flat at capacity side only addresses toggle clear bit_at order same of_bits to_bits times accumulated norm2 add word_at
example = refl
