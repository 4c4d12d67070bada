-- `statevector::tests::scan_part` meets its contract. The invariant: what is found, with what is
-- left to find, is all that there is to find. Assumes nothing.
use Rattle.std.proofs.Common.{ℕ, sym, ap, ◌∙◌}
use Rattle.merge.specs.Records.{records}
use Rattle.statevector.specs.declared.tests.Scan.{Scan}
use Rattle.statevector.specs.Scans.{scan_one, scan_of, both_scans}
use Rattle.statevector.proofs.Scanning.{scan-some, scan-none}
use Rattle.statevector.proofs.tests.scan_part.Goals as goal

pub loop-r-preserved : goal.loop-r-preserved
loop-r-preserved c =
    let a = c.args in
    let e = c.in-Some.ensures.some in
    ap (λ (x : Scan). both_scans x (scan_of a.part.n a.tag a.bit (records a.part.n c.in-Some.rest.now))) c.both_scans-found.ensures
    ∙ scan-some a.part.n a.tag a.bit _ _ _ e.1 c.loop-r.found c.scan_record.result (c.scan_record.ensures ∙ ap (λ (m : ℕ). scan_one m a.tag a.bit c.in-Some.r.words.now (records m c.in-Some.rest.now)) e.0)
    ∙ c.loop-r.invariant

pub returns : goal.returns
returns c =
    let a = c.args in
    sym (scan-none a.part.n a.tag a.bit _ c.in_default.ensures.none c.loop-r.found) ∙ c.loop-r.invariant
