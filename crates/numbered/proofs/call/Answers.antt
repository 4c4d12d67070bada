-- `numbered::call` meets its contract, one branch a call. Written out, so that another call is
-- refused at once. Assumes nothing.
use Rattle.std.proofs.Common.{rules, ◌<◌}
use Rattle.numbered.specs.Numbered.{call_at}
use Rattle.numbered.proofs.Parts.{fresh-beside, no-such-call}
use Rattle.numbered.proofs.call.Goals as goal
use Rattle.numbered.proofs.call.Goals.{in-PerformU4, in-Measure, in-Premeasure, in-Fresh, in-ImportDense, in-Check, in-Lookup, in-Export, in-CollapseDelta, in-Forecast, in-Run, in-Compare}

pub returns-in_err-name : goal.returns-in_err-name
returns-in_err-name c =
    let h : 0 < c.args.number → 12 < c.args.number = search rules in
    rw (← no-such-call) (search rules)

pub returns : goal.returns
unfolding call_at
returns c =
    rw c.in_ok-name.ensures
    (elim c.match-name.branch [
      | in-PerformU4 w ↦ rw (w.in-PerformU4.is, w.result-is, w.state-is, w.left-is, w.right-is, w.out-is, ← w.perform_u4.ensures)
      | in-Measure w ↦ rw (w.in-Measure.is, w.result-is, w.state-is, w.left-is, w.right-is, w.out-is, ← w.measure.ensures)
      | in-Premeasure w ↦ rw (w.in-Premeasure.is, w.result-is, w.state-is, w.left-is, w.right-is, w.out-is, ← w.premeasure.ensures)
      | in-Fresh w ↦ rw (w.in-Fresh.is, w.result-is, w.state-is, w.left-is, w.right-is, w.out-is, ← fresh-beside, ← w.fresh.ensures)
      | in-ImportDense w ↦ rw (w.in-ImportDense.is, w.result-is, w.state-is, w.left-is, w.right-is, w.out-is, ← w.import_dense.ensures)
      | in-Check w ↦ rw (w.in-Check.is, w.result-is, w.state-is, w.left-is, w.right-is, w.out-is, ← w.check.ensures)
      | in-Lookup w ↦ rw (w.in-Lookup.is, w.result-is, w.state-is, w.left-is, w.right-is, w.out-is, ← w.lookup.ensures)
      | in-Export w ↦ rw (w.in-Export.is, w.result-is, w.state-is, w.left-is, w.right-is, w.out-is, ← w.export.ensures)
      | in-CollapseDelta w ↦ rw (w.in-CollapseDelta.is, w.result-is, w.state-is, w.left-is, w.right-is, w.out-is, ← w.collapse_delta.ensures)
      | in-Forecast w ↦ rw (w.in-Forecast.is, w.result-is, w.state-is, w.left-is, w.right-is, w.out-is, ← w.forecast.ensures)
      | in-Run w ↦ rw (w.in-Run.is, w.result-is, w.state-is, w.left-is, w.right-is, w.out-is, ← w.run_words.ensures)
      | in-Compare w ↦ rw (w.in-Compare.is, w.result-is, w.state-is, w.left-is, w.right-is, w.out-is, ← w.compare.ensures)
    ])
