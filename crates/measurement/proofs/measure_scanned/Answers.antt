-- `measurement::measure_scanned` meets its contract. Assumes nothing.
use mathlib.Core.Path.{sym, ◌∙◌, subst}
use mathlib.Core.Bool.{true, false}
use Rattle.statevector.specs.Scans.{QuickFine, StateSeen}
use Rattle.measurement.proofs.Seeing.{few-set, head, inside, seen-passed, seen-quick}
use Rattle.measurement.proofs.measure_scanned.Goals.{In-Some}
use Rattle.measurement.proofs.measure_scanned.Goals as goal

-- what the quick pass saw
seen : (c : In-Some) → let a = c.args in QuickFine a.s a.front.now a.p.q c.in-Some.ones.zero c.in-Some.ones.one
seen c = let a = c.args in subst (StateSeen a.s a.front.now a.p.q) c.in-Some.is c.quick_scan.ensures

pub quick_scan-requires-clause-width_in_bounds : goal.quick_scan-requires-clause-width_in_bounds
quick_scan-requires-clause-width_in_bounds c =
    (head c.args.s c.args.p c.args.front.now c.requires).room

pub quick_scan-requires-clause-q_bound : goal.quick_scan-requires-clause-q_bound
quick_scan-requires-clause-q_bound c =
    let a = c.args in
    (inside a.s a.p a.front.now c.requires, (head a.s a.p a.front.now c.requires).few)

pub of_outcome-requires : goal.of_outcome-requires
of_outcome-requires c =
    few-set c.args.s c.args.p c.args.front.now false _ (seen (goal.at.of_outcome-requires c).In-Some).ones0

pub of_outcome-requires-2 : goal.of_outcome-requires-2
of_outcome-requires-2 c =
    few-set c.args.s c.args.p c.args.front.now true _ (seen (goal.at.of_outcome-requires-2 c).In-Some).ones1

pub measure_fine-requires-clause-passed : goal.measure_fine-requires-clause-passed
measure_fine-requires-clause-passed c =
    let a = c.args in
    seen-passed a.s a.p a.front.now c.requires _ _ (seen (goal.at.measure_fine-requires-clause-passed c).In-Some) (sym c.is_finite.ensures ∙ c.if-is_finite.true)

pub measure_fine-requires-clause-seen_value : goal.measure_fine-requires-clause-seen_value
measure_fine-requires-clause-seen_value c =
    let a = c.args in
    rw (c.of_outcome.ensures, c.of_outcome-2.ensures)
    (seen-quick a.s a.p a.front.now c.requires _ _ (seen (goal.at.measure_fine-requires-clause-seen_value c).In-Some) (sym c.is_away_from_zero.ensures ∙ c.if-is_away_from_zero.true))
