-- `statevector::tests::quick_scan_part` meets its contract. The invariant: all was well with the
-- records before, and their bits are counted. Assumes nothing.
use Rattle.std.proofs.Common.{◌≡◌, ◌+◌, ℕ, List, Option, cond, Bool, true, false, sym, ap, ◌∙◌, arith}
use Rattle.merge.specs.Records.{record_bit, records}
use Rattle.merge.specs.Laws.{records-few}
use Rattle.merge.specs.Walks.{records_left}
use Rattle.statevector.specs.Laws.{one_if}
use Rattle.statevector.specs.Scans.{sound_one}
use Rattle.statevector.proofs.Scanning.{Seeing, seen_all, see-wrong, see-one, see-few}
use Rattle.statevector.proofs.tests.quick_scan_part.Goals.{After-from-ones}
use Rattle.statevector.proofs.tests.quick_scan_part.Goals as goal

-- what is said of a record by its own width, by that of all
sound : (n m : ℕ) (tag : Option ℕ) (b : Bool) (r rest : List ℕ) → m ≡ n → (x y : Bool) → x ≡ sound_one m tag b r (records m rest) → x ≡ y → sound_one n tag b r (records n rest) ≡ y
sound n m tag b r rest e x y f g = sym (f ∙ ap (λ (m : ℕ). sound_one m tag b r (records m rest)) e) ∙ g

-- a turn whose record is sound
turn : (c : After-from-ones) → let a = c.args in Seeing a.part.n a.q a.tag a.bit (records_left a.part) (records a.part.n c.in-Some.rest.now) (c.loop-r.ones + c.from-ones.result)
turn c =
    let a = c.args in
    let r = c.in-Some.r.words.now in
    let e = c.in-Some.ensures.some in
    see-one _ _ _ _ _ _ _ c.loop-r.invariant r _ e.1 (sound a.part.n _ a.tag a.bit r _ e.0 _ true c.is_sound.ensures c.if-not-is_sound.false) _
    (c.from-ones.ensures ∙ one_if c.bit.result ∙ ap (λ (b : Bool). cond b 1 0) (c.bit.ensures ∙ ap (λ (m : ℕ). record_bit m a.q r) e.0))

pub returns-then-not-is_sound-clause-fine_value : goal.returns-then-not-is_sound-clause-fine_value
returns-then-not-is_sound-clause-fine_value c =
    let a = c.args in
    let r = c.in-Some.r.words.now in
    let e = c.in-Some.ensures.some in
    see-wrong _ _ _ _ _ _ _ c.loop-r.invariant r _ e.1 (sound a.part.n _ a.tag a.bit r _ e.0 _ false c.is_sound.ensures c.if-not-is_sound.true)

pub overflow_add-ones : goal.overflow_add-ones
overflow_add-ones c = omega (arith, see-few _ _ _ _ _ _ _ (turn c), records-few c.args.part.n c.args.part.words.now, c.well_formed)

pub loop-r-preserved : goal.loop-r-preserved
loop-r-preserved c = turn (goal.at.loop-r-preserved c).After-from-ones

pub returns-clause-fine_value : goal.returns-clause-fine_value
returns-clause-fine_value c = (seen_all _ _ _ _ _ _ _ c.loop-r.invariant c.in_default.ensures.none).0

pub returns-clause-ones_value : goal.returns-clause-ones_value
returns-clause-ones_value c = (seen_all _ _ _ _ _ _ _ c.loop-r.invariant c.in_default.ensures.none).1
