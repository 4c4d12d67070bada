-- `measurement::do_measure_count` meets its contract: what is counted and tested, with those that
-- are left, is all that there is. Assumes nothing.
use Rattle.std.proofs.Common.{◌≡◌, refl, ◌+◌, ◌&&◌, subst, arith, ◌∙◌}
use Rattle.std.specs.Bool.{beq}
use Rattle.keys.specs.Lists.{All}
use Rattle.merge.specs.Laws.{record-width, records-few}
use Rattle.merge.specs.Walks.{Whole, records_left}
use Rattle.statevector.specs.Laws.{one_if}
use Rattle.measurement.proofs.Matches.{Matched, whole-left, matched-next, matched-end, matched-few}
use Rattle.measurement.proofs.do_measure_count.Goals.{In-Some, After-from-count}
use Rattle.measurement.proofs.do_measure_count.Goals as goal

-- the next record's own width is that of all
width : (c : In-Some) → c.in-Some.r.n ≡ c.args.part.n
width c = record-width c.args.part.n c.in-Some.r (subst (All (Whole c.args.part.n)) c.in-Some.ensures.steps c.loop-r.invariant.whole).0

-- with it seen, the others are left
turn : (c : After-from-count) → c.in-Some.r.n ≡ c.args.part.n → let a = c.args in
    Matched a.part.n a.q a.v a.scale (records_left a.part) (records_left c.next.new.self) (c.loop-r.count + c.from-count.result) (c.loop-r.fine && c.divides_finite-fine.result)
turn c w =
    let a = c.args in
    rw (c.from-count.ensures ∙ one_if (beq c.bit.result a.v), c.divides_finite-fine.ensures, c.bit.ensures, w)
    (matched-next a.part.n a.q a.v a.scale _ _ c.loop-r.count c.loop-r.fine c.loop-r.invariant c.in-Some.r.words.now (records_left c.next.new.self) c.in-Some.ensures.steps)

pub loop-r-init : goal.loop-r-init
loop-r-init c =
    rw c.into_iter-r-iterator.ensures.into_iter_gives
    (record { counted = omega arith; tested = refl; whole = whole-left c.args.part c.requires.all })

pub overflow_add-count : goal.overflow_add-count
overflow_add-count c =
    let a = c.args in
    let w = goal.at.overflow_add-count c in
    omega (arith, matched-few _ _ _ _ _ _ _ _ (turn w.After-from-count (width w.In-Some)), records-few a.part.n a.part.words.now, c.well_formed)

pub loop-r-preserved : goal.loop-r-preserved
loop-r-preserved c =
    let w = goal.at.loop-r-preserved c in
    turn w.After-from-count (width w.In-Some)

pub returns : goal.returns
returns c =
    let h = matched-end _ _ _ _ _ _ _ _ c.loop-r.invariant c.in-None.ensures.steps.0 in
    record { count_value = h.0; fine_value = h.1 }
