-- `statevector::tests::quick_scan` meets its contract: by what the quick passes find. Assumes
-- nothing.
use Rattle.std.proofs.Common.{◌≡◌, ℕ, Bool, true, false, List, Option, None, length, sym, ap, ap₂, ◌∙◌, subst}
use Rattle.merge.specs.declared.record.Records.{Records}
use Rattle.merge.specs.Sorting.{Rising, sort_key, side}
use Rattle.merge.specs.Walks.{records_left}
use Rattle.statevector.specs.Scans.{sound_part, mixed}
use Rattle.statevector.specs.Laws.{rises-rising, sound-rises, seen-fine}
use Rattle.statevector.proofs.tests.quick_scan.Goals as goal

-- a part that is sound rises
risen : (p : Records) (tag : Option ℕ) (b : Bool) → sound_part p.n tag b (records_left p) ≡ true → Rising (sort_key p.n None) (records_left p)
risen p tag b e = rises-rising p.n (records_left p) (sound-rises p.n tag b (records_left p) e)

pub is_mixed-requires-clause-rising : goal.is_mixed-requires-clause-rising
is_mixed-requires-clause-rising c =
    let s = c.args.s in (
      risen c.of-part0.result s.tag false (sym c.in_ok-zero.ensures.fine_value),
      subst (λ (m : ℕ). Rising (sort_key m None) (records_left c.of-part1.result)) (c.of-part1.ensures.n_value ∙ sym c.of-part0.ensures.n_value) (risen c.of-part1.result s.tag true (sym c.in_ok-one.ensures.fine_value)),
    )

pub returns : goal.returns
returns c =
    let a = c.args in
    let t = a.s.tag in
    let n = a.s.width in
    let p = c.of-part0.ensures in
    let r = c.of-part1.ensures in
    let sound : (b : Bool) (m : ℕ) → List (List ℕ) → Bool = λ b m rs. sound_part m t b rs in
    let ones : ℕ → List (List ℕ) → ℕ = λ m rs. length (side m a.q true rs) in
    seen-fine a.s a.front.now (sym (ap₂ (sound false) p.n_value p.part_value) ∙ sym c.in_ok-zero.ensures.fine_value) (sym (ap₂ (sound true) r.n_value r.part_value) ∙ sym c.in_ok-one.ensures.fine_value) a.q _ _
    (sym (ap₂ (λ (m : ℕ) (rs : List (List ℕ)). mixed m t rs (records_left c.of-part1.result)) p.n_value p.part_value ∙ ap (mixed n t _) r.part_value) ∙ sym c.if-is_mixed.ensures)
    (c.in_ok-zero.ensures.ones_value ∙ ap₂ ones p.n_value p.part_value)
    (c.in_ok-one.ensures.ones_value ∙ ap₂ ones r.n_value r.part_value)
