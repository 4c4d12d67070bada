-- `estimates::Accepted::forecast` meets its contract. Assumes nothing.
use Rattle.std.specs.Prelude.{Ok}
use mathlib.Core.Path.{ap, ◌∙◌}
use native.Mathlib.Omega.{arith}
use lib.Dec.{lit<}
use lib.IntN.{pos}
use mir.Syntax.{w64}
use mir.Val.{SFits}
use Prim.Native.Nat.{◌+◌, ◌*◌, ◌≤◌}
use Rattle.std.proofs.Common.{rules}
use Rattle.std.proofs.lemmas.Int.{quot_is, quot_fits}
use Rattle.std.proofs.lemmas.Result.{err_from_is_err_and}
use Rattle.estimates.specs.Estimates.{halved}
use Rattle.estimates.specs.Laws.{forecast-overflow, forecast-of, few-totals}
use Rattle.estimates.proofs.Estimating.{ready, halved_is}
use Rattle.estimates.proofs.Accepted.forecast.Goals.{In_ok-change}
use Rattle.estimates.proofs.Accepted.forecast.Goals as goal

-- the counts are small
few : (c : In_ok-change) → let all = c.args.self.now.s.n0 + c.args.self.now.s.n1 in (c.in_ok-change.change.unpaired ≤ all) × (c.in_ok-change.change.dropped ≤ 2 * all)
few c = let a = c.args.self.now in few-totals a.s a.q a.g a.ws.now _ c.in_ok-change.ensures

pub returns-in_err-change : goal.returns-in_err-change
returns-in_err-change c =
    let p = err_from_is_err_and c.from_residual.result c.from_residual.ensures.1 in
    rw (p.1, p.2) (forecast-overflow _ _ _ _ c.args.self.now.fine _ c.in_err-change.ensures)

pub length-requires-clause-unpaired_bound : goal.length-requires-clause-unpaired_bound
length-requires-clause-unpaired_bound c =
    omega (arith, few (goal.at.length-requires-clause-unpaired_bound c).In_ok-change, (ready c.args.self.now).few)

pub length-requires-clause-dropped_bound : goal.length-requires-clause-dropped_bound
length-requires-clause-dropped_bound c =
    omega (arith, few (goal.at.length-requires-clause-dropped_bound c).In_ok-change, (ready c.args.self.now).few)

pub returns : goal.returns
returns c =
    let f : SFits w64 c.length.result = record { sfits = c.length.type_inv } in
    let two : SFits w64 (pos 2) = record { sfits = lit< tt } in
    let half = quot_is w64 c.length.result (pos 2) f two (quot_fits w64 c.length.result (pos 2) f (search rules)) in
    ap Ok (half ∙ halved_is c.length.result ∙ ap halved c.length.ensures) ∙ forecast-of _ _ _ _ c.args.self.now.fine _ c.in_ok-change.ensures
