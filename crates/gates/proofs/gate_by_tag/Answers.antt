-- `gates::gate_by_tag` meets its contract: what the counting pass found sound, the table finds
-- fine. Assumes nothing.
use Rattle.std.specs.Prelude.{Ok, Option, Some}
use Prim.Native.Nat.{ℕ, ◌+◌, ◌*◌, ◌<◌}
use mathlib.Core.Path.{◌≡◌, refl, sym, ap, ◌∙◌}
use mathlib.Core.Bool.{true, false}
use mathlib.Core.List.{List, [], ◌∷◌}
use borrow.Author.Tests.{lt-leb}
use native.Mathlib.Omega.{arith}
use lib.ListN.{length}
use Rattle.amplitudes.specs.Amplitudes.{finite_gate}
use Rattle.merge.specs.Laws.{fewer-records, and-true-l, and_true_r}
use Rattle.merge.specs.Sorting.{side}
use Rattle.gates.specs.Laws.{moderate-pairs}
use Rattle.gates.specs.Passes.{sound_parts, CountedAs}
use Rattle.statevector.specs.declared.State.{State}
use Rattle.statevector.specs.Laws.{head-facts, qubit-within, seen-fine, tag-is}
use Rattle.statevector.specs.Refusals.{first}
use Rattle.statevector.specs.Scans.{sound_part, QuickFine, mixed}
use Rattle.statevector.specs.States.{part_of, tag_is}
use Rattle.statevector.specs.Tests.{qubit_tests, qubit_row}
use Rattle.gates.proofs.Performing.{seen, accepted, by-front-straight}
use Rattle.gates.proofs.Parting.{by-tag}
use Rattle.gates.proofs.gate_by_tag.Goals.{In-Some}
use Rattle.gates.proofs.gate_by_tag.Goals as goal

-- sound parts by the tag's qubit are what the rows ask of the records: no key is in both parts
found : (s : State) (front : List ℕ) (q : ℕ) → q < 64 * s.width → tag_is s.tag q ≡ true → sound_parts s.width q (part_of false s front) (part_of true s front) ≡ true
    → QuickFine s front q (length (side s.width q true (part_of false s front))) (length (side s.width q true (part_of true s front)))
found s front q l t h =
    let d = tag-is s.tag q t in
    let n = s.width in
    seen-fine s front
    (ap (λ (t : Option ℕ). sound_part n t false (part_of false s front)) d ∙ and-true-l (sound_part n (Some q) false (part_of false s front)) _ h)
    (ap (λ (t : Option ℕ). sound_part n t true (part_of true s front)) d ∙ and_true_r (sound_part n (Some q) false (part_of false s front)) _ h)
    q
    _
    _
    (ap (λ (t : Option ℕ). mixed n t (part_of false s front) (part_of true s front)) d ∙ lt-leb (64 * n) q l)
    refl
    refl

-- what the pass found of the state's parts
counted : (c : In-Some) → let a = c.args in CountedAs a.s.width a.q a.g false (part_of false a.s a.front.now) (part_of true a.s a.front.now) (Some c.in-Some.c)
counted c = let e = c.new-pairs.ensures in rw (e.of.0, e.of.1, e.lhs_value, e.rhs_value) at c.in-Some.ensures

seen-here : (c : In-Some) → let a = c.args in QuickFine a.s a.front.now a.q (length (side a.s.width a.q true (part_of false a.s a.front.now))) (length (side a.s.width a.q true (part_of true a.s a.front.now)))
seen-here c =
    let a = c.args in
    let h = head-facts a.s a.front.now (qubit_row a.s a.q ∷ []) c.requires.q_value in
    found a.s a.front.now a.q (qubit-within a.s a.q h.names) c.requires.q_value_2.0 (sym (counted c).sound)

fine : (c : In-Some) → let a = c.args in Ok tt ≡ first (qubit_tests a.s a.front.now a.q (finite_gate a.g) [])
fine c = let a = c.args in seen a.s a.q a.g a.front.now a.back.now c.requires.q_value _ _ c.requires.q_value_2.1 (seen-here c)

pub overflow_add-s : goal.overflow_add-s
overflow_add-s c =
    let a = c.args in
    let h = head-facts a.s a.front.now (qubit_row a.s a.q ∷ []) c.requires.q_value in
    record { fits = omega (arith, fewer-records a.s.width (a.s.n0 + a.s.n1), h.room, c.well_formed) }

pub new-pairs-requires : goal.new-pairs-requires
new-pairs-requires c =
    let h = head-facts c.args.s c.args.front.now (qubit_row c.args.s c.args.q ∷ []) c.requires.q_value in
    record { n_in_bounds = (omega arith, h.room); n_bound = omega (arith, h.few) }

pub do_u4_count-requires-clause-q_bound : goal.do_u4_count-requires-clause-q_bound
do_u4_count-requires-clause-q_bound c =
    let a = c.args in
    let h = head-facts a.s a.front.now (qubit_row a.s a.q ∷ []) c.requires.q_value in
    rw (c.new-pairs.ensures.of.0, c.new-pairs.ensures.of.1) (omega (arith, qubit-within a.s a.q h.names))

pub write_results-requires : goal.write_results-requires
write_results-requires c =
    let a = c.args in
    let i = (goal.at.write_results-requires c).In-Some in
    let e = c.new-pairs.ensures in
    let h = accepted a.s a.q a.g a.front.now a.back.now (fine i) in
    let m = (seen-here i).moderate in
    rw (e.of.0, e.of.1, e.lhs_value, e.rhs_value)
    (record {
      parted = by-tag a.s a.front.now a.q h.0 c.requires.q_value_2.0;
      n_value = refl;
      finite = moderate-pairs a.s.width a.g c.requires.q_value_2.1 a.q _ _ (m false) (m true);
      sizes_counted = (counted i).sizes;
    })

pub returns-in-Some : goal.returns-in-Some
returns-in-Some c =
    let a = c.args in
    let e = c.new-pairs.ensures in
    by-front-straight a.s a.q a.g a.front.now a.back.now (fine (goal.at.returns-in-Some c).In-Some) c.requires.q_value_2.0 _ c.other.ensures _ _
    (rw (e.of.0, e.of.1, e.lhs_value, e.rhs_value) at c.write_results.ensures)
