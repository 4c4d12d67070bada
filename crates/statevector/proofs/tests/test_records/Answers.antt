-- `statevector::tests::test_records` meets its contract: by what the quick passes find, or the full
-- ones. Assumes nothing.
use Rattle.std.specs.Prelude.{None}
use mathlib.Core.Path.{◌≡◌, sym, ap, ap₂, ◌∙◌, subst}
use mathlib.Core.Bool.{Bool, true, false}
use borrow.Author.Tests.{not-false, not-true}
use Rattle.merge.specs.Laws.{and-true-l, and_true_r}
use Rattle.statevector.specs.declared.tests.Scan.{Scan}
use mathlib.Core.List.{List, [], ◌∷◌}
use Prim.Native.Nat.{ℕ}
use Rattle.merge.specs.Walks.{records_left}
use Rattle.merge.specs.Sorting.{Rising, sort_key}
use Rattle.statevector.specs.declared.State.{State}
use Rattle.statevector.specs.States.{part_of}
use Rattle.statevector.specs.Refusals.{first}
use Rattle.statevector.specs.Tests.{rises, meets, finite_row}
use Rattle.statevector.specs.Laws.{rises-rising, scans, rows-not-rising, rows_settled, rows-meet, rows-off-side, rows-untagged}
use Rattle.statevector.specs.Scans.{scan_of, both_scans, settles}
use Rattle.statevector.proofs.tests.test_records.Goals.{After-both_scans-found, After-parts_meet, After-sides_settle, Else-not-found}
use Rattle.statevector.proofs.tests.test_records.Goals as goal

-- what both passes find together
found : (c : After-both_scans-found) → c.both_scans-found.result ≡ scans c.args.s c.args.front.now
found c =
    let a = c.args in
    let scanned : Bool → ℕ → List (List ℕ) → Scan = λ b m rs. scan_of m a.s.tag b rs in
    c.both_scans-found.ensures
    ∙ ap₂ both_scans (c.scan_part-in_zero.ensures ∙ ap₂ (scanned false) c.of-zero.ensures.n_value c.of-zero.ensures.part_value)
    (c.scan_part-in_one.ensures ∙ ap₂ (scanned true) c.of-one.ensures.n_value c.of-one.ensures.part_value)

-- whether they meet
meeting : (c : After-parts_meet) → let s = c.args.s in c.parts_meet.result ≡ meets s.width (part_of false s c.args.front.now) (part_of true s c.args.front.now)
meeting c =
    c.parts_meet.ensures ∙ ap₂ (λ (m : ℕ) (rs : List (List ℕ)). meets m rs (records_left c.of-one.result)) c.of-zero.ensures.n_value c.of-zero.ensures.part_value
    ∙ ap (meets c.args.s.width (part_of false c.args.s c.args.front.now)) c.of-one.ensures.part_value

-- both parts rise
rising : (c : Else-not-found) (found : c.both_scans-found.result ≡ scans c.args.s c.args.front.now) → (scans c.args.s c.args.front.now).rises ≡ true
rising c found = sym (ap (λ (x : Scan). x.rises) found) ∙ not-false _ c.if-not-found.false

part-rise : (s : State) (front : List ℕ) → (scans s front).rises ≡ true → (b : Bool) → Rising (sort_key s.width None) (part_of b s front)
unfolding scan_of
part-rise s front e false = rises-rising s.width (part_of false s front) (and-true-l (rises s.width (part_of false s front)) (rises s.width (part_of true s front)) e)
part-rise s front e true = rises-rising s.width (part_of true s front) (and_true_r (rises s.width (part_of false s front)) (rises s.width (part_of true s front)) e)

-- whether the sides settle it
settling : (c : After-sides_settle) (found : c.both_scans-found.result ≡ scans c.args.s c.args.front.now) → let a = c.args in c.sides_settle.result ≡ settles a.s.width a.s.tag (scans a.s a.front.now).sided
settling c found =
    let a = c.args in
    c.sides_settle.ensures ∙ ap (λ (x : Scan). settles a.s.width a.s.tag x.sided) found

pub returns-then-not-found : goal.returns-then-not-found
returns-then-not-found c =
    rows-not-rising c.args.s c.args.front.now (sym (ap (λ (x : Scan). x.rises) (found (goal.at.returns-then-not-found c).After-both_scans-found)) ∙ not-true _ c.if-not-found.true)

pub returns-then-sides_settle : goal.returns-then-sides_settle
returns-then-sides_settle c =
    let w = goal.at.returns-then-sides_settle c in
    let f = found w.After-both_scans-found in
    c.test_finite.ensures ∙ ap (λ (x : Scan). first (finite_row x.finite ∷ [])) f
    ∙ rows_settled c.args.s c.args.front.now (rising w.Else-not-found f) (sym (settling w.After-sides_settle f) ∙ c.if-sides_settle.true)

pub parts_meet-requires-clause-rising : goal.parts_meet-requires-clause-rising
parts_meet-requires-clause-rising c =
    let w = goal.at.parts_meet-requires-clause-rising c in
    let x = part-rise c.args.s c.args.front.now (rising w.Else-not-found (found w.After-both_scans-found)) in
    let rise : (rs : List (List ℕ)) (k : List (List ℕ)) → k ≡ rs → Rising (sort_key c.args.s.width None) rs → Rising (sort_key c.of-zero.result.n None) k =
    λ rs k e h. subst (λ (m : ℕ). Rising (sort_key m None) k) (sym c.of-zero.ensures.n_value) (subst (Rising (sort_key c.args.s.width None)) (sym e) h) in
    (rise _ _ c.of-zero.ensures.part_value (x false), rise _ _ c.of-one.ensures.part_value (x true))

pub returns-then-parts_meet : goal.returns-then-parts_meet
returns-then-parts_meet c =
    let w = goal.at.returns-then-parts_meet c in
    rows-meet c.args.s c.args.front.now (rising w.Else-not-found (found w.After-both_scans-found)) (sym (meeting w.After-parts_meet) ∙ c.if-parts_meet.true)

pub returns-then-is_some-2 : goal.returns-then-is_some-2
returns-then-is_some-2 c =
    let w = goal.at.returns-then-is_some-2 c in
    let f = found w.After-both_scans-found in
    rows-off-side c.args.s c.args.front.now (rising w.Else-not-found f) (sym (meeting w.After-parts_meet) ∙ c.if-parts_meet.false)
    (sym (settling w.After-sides_settle f) ∙ c.if-sides_settle.false) (sym c.is_some-2.ensures ∙ c.if-is_some-2.true)

pub returns : goal.returns
returns c =
    let w = goal.at.returns c in
    let f = found w.After-both_scans-found in
    c.test_finite-2.ensures ∙ ap (λ (x : Scan). first (finite_row x.finite ∷ [])) f
    ∙ rows-untagged c.args.s c.args.front.now (rising w.Else-not-found f) (sym (meeting w.After-parts_meet) ∙ c.if-parts_meet.false) (sym c.is_some-2.ensures ∙ c.if-is_some-2.false)
