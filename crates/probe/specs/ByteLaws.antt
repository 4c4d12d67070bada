-- Calls on bytes where a slice ends in stray bytes, which are no whole word (SPECIFICATION 14.2).
-- Those of a store stay, whatever the call; a key, a dense list or a list of steps that has them is
-- refused in its place of the table; a state has the wrong length. Assumes nothing.
use Rattle.std.specs.Prelude.{◌≡◌, ℕ, zero, suc, ◌+◌, ◌-◌, ◌*◌, ◌/◌, ◌%◌, ◌≤◌, Bool, not, cond, eqb, length, drop, Err, Ok, Option, Result}
use Rattle.std.proofs.Math.Path.{refl, ap₂}
use Rattle.std.proofs.Common.{ap, ◌∙◌, arith, eq-eqb, eqb-true, le-leb, length-append}
use mathlib.Core.List.{List, [], ◌∷◌, ◌++◌}
use Rattle.std.proofs.Math.Bool.{true, false}
use Rattle.std.proofs.lemmas.Bool.{eqb-false}
use Rattle.amplitudes.specs.declared.Complex.{Complex}
use Rattle.keys.specs.Keys.{listed}
use Rattle.merge.specs.Records.{at}
use Rattle.text.specs.Words.{Bytes, file_words, written}
use Rattle.text.specs.Laws.{file-words-length, written_back, stray-stay}
use Rattle.statevector.specs.declared.Refusal.{Refusal}
use Rattle.statevector.specs.declared.Refusal.TheVariants as no
use Rattle.statevector.specs.declared.Side.{Side}
use Rattle.statevector.specs.declared.Side.TheVariants.{Left, Right}
use Rattle.statevector.specs.declared.State.{State}
use Rattle.statevector.specs.Answers.{tested}
use Rattle.state.specs.Lookup.{found-response, lookup_in, lookup_call}
use Rattle.dense.specs.Dense.{finite_word, dense_from, dense_call}
use Rattle.statevector.specs.Endings.{Ending, by_front}
use Rattle.statevector.specs.Refusals.{Test, first, applies, if_fine, Tested}
use Rattle.statevector.specs.States.{front_of, back_of, entries_of}
use Rattle.statevector.specs.Tests.{all}
use Rattle.run.specs.declared.Ran.{Ran}
use Rattle.run.specs.declared.Step.{Step}
use Rattle.run.specs.Laws.{step-begins}
use Rattle.run.specs.Run.{run_from, run_of}
use Rattle.words.specs.Words.{state_size, side_of, state_of, state_words, amplitude_words, after_reading, wrong_length, has_words}
use Rattle.words.specs.Laws.{sets-whole}
use Rattle.calls.specs.Calls.{state_made, check_at, lookup_at, export_at, premeasure_at, collapse_at, forecast_at, fresh_at, gate_at, measure_at, dense_at}
use Rattle.step_lists.specs.Lists.{no_step, step_at, steps_from, steps_of, ran_as, run_at}
use Rattle.step_lists.specs.Laws.{refused_or, run-then, stray-words}
use Rattle.numbered.specs.declared.Numbers.{Numbers}
use Rattle.numbered.specs.Numbered.{AfterCall, making, reading, doing, call_at}
use Rattle.probe.specs.Files.{whole_words, exact_words, list_words, arg_words, all_fit, in_bytes, call_bytes}
use Rattle.numbered.specs.Lengths.{call-keeps}
use Rattle.probe.specs.StrayLaws.{key_rows, dense_rows, stray-exact, stray-key, stray-steps, stray-dense}
use Rattle.dense.specs.Passes.{dense_by}
use Rattle.state.specs.Laws.{fine-accepts}

-- ---- the stores: stray bytes are outside the capacity, and stay, whatever the call

-- after a call: the bytes behind the whole words that a store had are those that it had there
abbrev pub StrayStay : List ℕ → List ℕ → Type 0
StrayStay store after = drop (8 * (length store / 8)) after ≡ drop (8 * (length store / 8)) store

module _ (number : ℕ) (state : List ℕ) (ns : Numbers) (arg arg2 left right third out : List ℕ) where
  pub stray-stores : let o = call_bytes number state ns arg arg2 left right third out in StrayStay left o.left × StrayStay right o.right
  unfolding call_bytes
  stray-stores = go (all_fit state arg arg2 left right third out) refl
    where
      go : (t : Bool) → all_fit state arg arg2 left right third out ≡ t
          → let o = call_bytes number state ns arg arg2 left right third out in StrayStay left o.left × StrayStay right o.right
      go true e =
          let k = call-keeps (file_words left) (file_words right) (file_words third) number (exact_words state) ns (arg_words number arg) (exact_words arg2) (exact_words out) in
          let o = call_at number (exact_words state) ns (arg_words number arg) (exact_words arg2) (file_words left) (file_words right) (file_words third) (exact_words out) in
          rw e (stray-stay left o.left (k.0 ∙ file-words-length left), stray-stay right o.right (k.1 ∙ file-words-length right))
      go false e = rw e (refl, refl)

-- ---- arguments

-- what the first row that applies gives, and nothing changed
abbrev pub answers : List Test → List ℕ → List ℕ → List ℕ → List ℕ → List ℕ → AfterCall
answers rows state left right third out =
    record { answer = (tested (first rows)).number; state = state; left = left; right = right; third = third; out = out }

-- a last row that always applies refuses, if no row before it does
pub last-refuses : (rows : List Test) (r : Refusal) → first (rows ++ ((true, r) ∷ [])) ≡ Ok tt → ⊥
unfolding first
last-refuses [] r e = let z : ◌≡◌ {A = ℕ} 0 1 = cc in absurd (omega arith)
last-refuses (t ∷ rows) r e = go t.0 t.1 (first (rows ++ ((true, r) ∷ []))) (last-refuses rows r) e
  where
    go : (b : Bool) (x : Refusal) (rest : Tested) → (rest ≡ Ok tt → ⊥) → applies b x rest ≡ Ok tt → ⊥
    go true x rest h e = let z : ◌≡◌ {A = ℕ} 0 1 = cc in absurd (omega arith)
    go false x rest h e = h e

-- a slice of k whole words is lent as these
pub exact : (bs : List ℕ) (k : ℕ) → length bs ≡ 8 * k → exact_words bs ≡ file_words bs
unfolding exact_words
exact bs k e = rw (eq-eqb (length bs % 8) 0 (omega arith))

-- and one that no call changes stays, whatever its length
pub exact-back : (bs : List ℕ) → Bytes bs → written bs (exact_words bs) ≡ bs
unfolding exact_words
exact-back bs h = go (whole_words bs)
  where
    go : (t : Bool) → written bs (cond t (file_words bs) []) ≡ bs
    go true = written_back bs h
    go false = refl

pub exact-size : (bs : List ℕ) (k : ℕ) → length bs ≡ 8 * k → has_words k (file_words bs) ≡ true
exact-size bs k e = eq-eqb (length (file_words bs)) k (file-words-length bs ∙ omega arith)

-- a row that always applies
key-refuses : (s : State) (front : List ℕ) → first (key_rows s front) ≡ Ok tt → ⊥
key-refuses s front e = last-refuses [] no.Length (fine-accepts s front [] [] ((true, no.Length) ∷ []) e).3

-- the calls on words
lookup-refuses : (arg : List ℕ) → whole_words arg ≡ false → (state : List ℕ) (ns : Numbers) (arg2 left right third out : List ℕ) → has_words state_size state ≡ true → has_words 3 out ≡ true
    → let s = state_of state in
    call_at 7 state ns (exact_words arg) arg2 left right third out
    ≡ answers (key_rows s (front_of s.front left right)) state left right third out
unfolding call_at lookup_at lookup_call lookup_in
lookup-refuses arg stray state ns arg2 left right third out hs ho =
    let s = state_of state in
    let front = front_of s.front left right in
    let m = at (exact_words arg) (entries_of s front) in
    rw (hs, ho)
    (ap (λ (t : Tested). reading (after_reading amplitude_words (found-response (if_fine {A = Result (Option Complex) Refusal} t (Ok m) (λ r. Err r))) out) state left right third) (stray-key arg stray s front)
    ∙ go m (first (key_rows s front)) (key-refuses s front))
  where
    go : (m : Option Complex) (t : Tested) → (t ≡ Ok tt → ⊥)
        → reading (after_reading amplitude_words (found-response (if_fine {A = Result (Option Complex) Refusal} t (Ok m) (λ r. Err r))) out) state left right third ≡ record { answer = (tested t).number; state = state; left = left; right = right; third = third; out = out }
    go m (Ok _) h = absurd (h refl)
    go m (Err r) h = refl

dense-refuses : (arg : List ℕ) → whole_words arg ≡ false → (state : List ℕ) (ns : Numbers) (arg2 left right third out : List ℕ) → has_words state_size state ≡ true
    → call_at 5 state ns (list_words 2 arg) arg2 left right third out
    ≡ answers (dense_rows ns.a arg) state left right third out
unfolding call_at dense_at dense_call
dense-refuses arg stray state ns arg2 left right third out hs =
    let m = side_of ns.b in
    let target = front_of m left right in
    let rs = dense_from ns.a 0 (list_words 2 arg) in
    rw hs
    (ap (λ (t : Tested). making (state_made (by_front m (dense_by t ns.a m rs target (back_of m left right))) state) third out) (stray-dense arg stray ns.a target)
    ∙ go m rs (first (dense_rows ns.a arg))
    (last-refuses ((not (listed ns.a), no.Width) ∷ (not (all finite_word (file_words arg)), no.NotFinite) ∷ []) no.Length))
  where
    go : (m : Side) (rs : List (List ℕ)) (t : Tested) → (t ≡ Ok tt → ⊥)
        → making (state_made (by_front m (dense_by t ns.a m rs (front_of m left right) (back_of m left right))) state) third out
        ≡ record { answer = (tested t).number; state = state; left = left; right = right; third = third; out = out }
    go m rs (Ok _) h = absurd (h refl)
    go Left rs (Err r) h = refl
    go Right rs (Err r) h = refl

-- ---- a list of steps

-- the steps of 80 bytes
abbrev pub whole_steps : List ℕ → List Step
whole_steps bs = steps_from (file_words bs) 0 (length bs / 80)

one-begins : (ws zs : List ℕ) (i : ℕ) → 10 * i + 10 ≤ length ws → step_at (ws ++ zs) i ≡ step_at ws i
unfolding step_at
one-begins ws zs i h = rw (le-leb 10 (length (ws ++ zs) - 10 * i) (omega (arith, length-append ws zs)), le-leb 10 (length ws - 10 * i) (omega arith), step-begins ws zs (10 * i) h)

steps-begin : (ws zs : List ℕ) (i n : ℕ) → 10 * i + 10 * n ≤ length ws → steps_from (ws ++ zs) i n ≡ steps_from ws i n
steps-begin ws zs i zero h = refl
steps-begin ws zs i (suc n) h =
    ap₂ (λ (x : Step) (xs : List Step). x ∷ xs) (one-begins ws zs i (omega arith)) (steps-begin ws zs (i + 1) n (omega arith))

-- stray bytes are one malformed step after the whole ones
stray-list : (bs : List ℕ) → whole_words bs ≡ false → steps_of (list_words 10 bs) ≡ whole_steps bs ++ (no_step ∷ [])
unfolding list_words
stray-list bs stray =
    let e : steps_from (list_words 10 bs) 0 (length (list_words 10 bs) / 10) ≡ whole_steps bs = rw stray (go (eqb (length bs / 8 % 10) 0) (eqb-true (length bs / 8 % 10) 0)) in
    stray-words (list_words 10 bs) (stray-steps bs stray) ∙ ap (λ (xs : List Step). xs ++ (no_step ∷ [])) e
  where
    go : (t : Bool) → (t ≡ true → length bs / 8 % 10 ≡ 0) → let ws = cond t (file_words bs ++ (0 ∷ [])) (file_words bs) in steps_from ws 0 (length ws / 10) ≡ whole_steps bs
    go true y =
        let e : length (file_words bs ++ (0 ∷ [])) / 10 ≡ length bs / 80 = omega (arith, y refl, length-append (file_words bs) (0 ∷ []), file-words-length bs) in
        ap (steps_from (file_words bs ++ (0 ∷ [])) 0) e ∙ steps-begin (file_words bs) (0 ∷ []) 0 (length bs / 80) (omega (arith, file-words-length bs))
    go false y = let e : length (file_words bs) / 10 ≡ length bs / 80 = omega (arith, file-words-length bs) in ap (steps_from (file_words bs) 0) e

-- ---- the calls, where all slices fit and a state and results have the right length

module _ (ns : Numbers) (state arg arg2 left right third out : List ℕ) (stray : whole_words arg ≡ false)
    (fit : all_fit state arg arg2 left right third out ≡ true) (sized : length state ≡ 8 * state_size) where
  abbrev s : State
  s = state_of (file_words state)

  -- a key is not N words: 7, after the tests of the state; nothing changes
  pub stray-lookup : length out ≡ 24 → Bytes state → Bytes left → Bytes right → Bytes third → Bytes out
      → let front = front_of s.front (file_words left) (file_words right) in
      call_bytes 7 state ns arg arg2 left right third out
      ≡ answers (key_rows s front) state left right third out
  unfolding call_bytes arg_words
  stray-lookup three hs hl hr ht ho =
      rw (fit, exact state state_size sized, exact out 3 three)
      (ap (in_bytes state left right third out) (lookup-refuses arg stray (file_words state) ns (exact_words arg2) (file_words left) (file_words right) (file_words third) (file_words out) (exact-size state state_size sized) (exact-size out 3 three))
      ∙ rw (written_back state hs, written_back left hl, written_back right hr, written_back third ht, written_back out ho))

  -- a dense list is odd: 1, then 6 over its whole words, then 7; nothing changes
  pub stray-import : Bytes state → Bytes left → Bytes right → Bytes third → Bytes out
      → call_bytes 5 state ns arg arg2 left right third out
      ≡ answers (dense_rows ns.a arg) state left right third out
  unfolding call_bytes arg_words
  stray-import hs hl hr ht ho =
      rw (fit, exact state state_size sized)
      (ap (in_bytes state left right third out) (dense-refuses arg stray (file_words state) ns (exact_words arg2) (file_words left) (file_words right) (file_words third) (exact_words out) (exact-size state state_size sized))
      ∙ rw (written_back state hs, written_back left hl, written_back right hr, written_back third ht, exact-back out ho))

  -- a list of steps: its whole steps are run, and 10 comes after them where nothing stopped them
  pub stray-steps-run : length out ≡ 8 → Bytes third
      → let o = run_from (whole_steps arg) s (file_words left) (file_words right) in
      call_bytes 11 state ns arg arg2 left right third out
      ≡ record { answer = (tested (refused_or o.answer.stopped no.Step)).number; state = written state (state_words o.answer.state); left = written left o.left; right = written right o.right; third = third; out = written out (o.answer.done ∷ []) }
  unfolding call_bytes arg_words call_at run_at
  stray-steps-run one ht =
      let o = run_from (whole_steps arg) s (file_words left) (file_words right) in
      rw (fit, exact state state_size sized, exact out 1 one, exact-size state state_size sized, exact-size out 1 one)
      (ap (λ (o : Ending Ran). in_bytes state left right third out (doing (ran_as o (file_words state) (file_words out)) (file_words third)))
      (ap (λ (xs : List Step). run_of xs s (file_words left) (file_words right)) (stray-list arg stray) ∙ run-then (whole_steps arg) s (file_words left) (file_words right))
      ∙ ap₂ (λ (x y : List ℕ). record { answer = (tested (refused_or o.answer.stopped no.Step)).number; state = written state x; left = written left o.left; right = written right o.right; third = written third (file_words third); out = written out y })
      (sets-whole (file_words state) (state_words o.answer.state) (file-words-length state ∙ omega arith))
      (sets-whole (file_words out) (o.answer.done ∷ []) (file-words-length out ∙ omega arith))
      ∙ rw (written_back third ht))

-- ---- a state with stray bytes has the wrong length, whatever else applies

-- down the numbers, from the k-th on
picked : (number k : ℕ) {x y z : AfterCall} → k ≤ number → x ≡ z → (k + 1 ≤ number → y ≡ z) → cond (eqb number k) x y ≡ z
picked number k {x} {y} {z} h e next = go (eqb number k) (eqb-false number k)
  where
    go : (t : Bool) → (t ≡ false → number ≡ k → ⊥) → cond t x y ≡ z
    go true f = e
    go false f = next (omega (arith, f refl))

no-state : (number : ℕ) → 1 ≤ number → number ≤ 11 → (ns : Numbers) (arg arg2 left right third out : List ℕ)
    → call_at number [] ns arg arg2 left right third out ≡ record { answer = wrong_length; state = []; left = left; right = right; third = third; out = out }
unfolding call_at gate_at measure_at premeasure_at fresh_at dense_at check_at lookup_at export_at collapse_at forecast_at run_at
no-state number h k ns arg arg2 left right third out =
    picked number 1 h refl (λ h. picked number 2 h refl (λ h. picked number 3 h refl (λ h. picked number 4 h refl (λ h. picked number 5 h refl (λ h. picked number 6 h refl (λ h. picked number 7 h refl (λ h. picked number 8 h refl (λ h. picked number 9 h refl (λ h. picked number 10 h refl (λ h. picked number 11 h refl (λ h. absurd (omega arith))))))))))))

module _ (number : ℕ) (ns : Numbers) (state arg arg2 left right third out : List ℕ) (call : 1 ≤ number) (last : number ≤ 11) (stray : whole_words state ≡ false)
    (fit : all_fit state arg arg2 left right third out ≡ true) where
  pub stray-state : Bytes left → Bytes right → Bytes third → Bytes out
      → call_bytes number state ns arg arg2 left right third out ≡ record { answer = wrong_length; state = state; left = left; right = right; third = third; out = out }
  unfolding call_bytes
  stray-state hl hr ht ho =
      rw (fit, stray-exact state stray)
      (ap (in_bytes state left right third out)
      (no-state number call last ns (arg_words number arg) (exact_words arg2) (file_words left) (file_words right) (file_words third) (exact_words out))
      ∙ rw (written_back left hl, written_back right hr, written_back third ht, exact-back out ho))
