-- `estimates::Accepted::estimate` meets its contract. Assumes nothing.
use Rattle.std.specs.Prelude.{Ok}
use Prim.Native.Nat.{◌%◌}
use mathlib.Core.Path.{◌≡◌, sym, ap, ◌∙◌}
use native.Mathlib.Omega.{arith}
use mir.Facts.{to_z-of_z}
use mir.Syntax.{w64}
use Rattle.std.proofs.lemmas.Result.{err_from_is_err_and}
use Rattle.merge.specs.Records.{record_at, decode}
use Rattle.statevector.specs.States.{entries_of}
use Rattle.estimates.specs.Estimates.{pair_at, collapse_in}
use Rattle.estimates.specs.Passes.{change_of, estimate_of}
use Rattle.estimates.specs.Laws.{collapse-empty, collapse-at}
use Rattle.estimates.proofs.Estimating.{narrow, key-room}
use Rattle.estimates.proofs.Accepted.estimate.Goals.{Else-all-eq0}
use Rattle.estimates.proofs.Accepted.estimate.Goals as goal

-- the change at that entry is the estimate
estimated : (c : Else-all-eq0) → let a = c.args.self.now in
    estimate_of (change_of (pair_at a.q a.g (entries_of a.s a.ws.now) (decode a.s.width (record_at a.s.width a.ws.now (c.args.i % c.len-all.result))))) ≡ collapse_in a.s a.q a.g c.args.i a.ws.now
estimated c =
    rw c.len-all.ensures (collapse-at _ _ _ _ _ c.args.self.now.fine (let h = c.if-all-eq0.false in let l = c.len-all.ensures in omega arith))

pub returns-then-all-eq0 : goal.returns-then-all-eq0
returns-then-all-eq0 c =
    collapse-empty _ _ _ _ _ c.args.self.now.fine (sym c.len-all.ensures ∙ c.if-all-eq0.true)

pub slice_bounds-words-end : goal.slice_bounds-words-end
slice_bounds-words-end c = narrow c.args.self.now

pub slice_bounds-change_at-end : goal.slice_bounds-change_at-end
slice_bounds-change_at-end c = key-room c.args.self.now

pub change_at-requires-clause-key_len : goal.change_at-requires-clause-key_len
change_at-requires-clause-key_len c = sym (key-room c.args.self.now)

pub returns-in_err-change : goal.returns-in_err-change
returns-in_err-change c =
    let p = err_from_is_err_and c.from_residual.result c.from_residual.ensures.1 in
    rw (p.1, p.2) (ap estimate_of c.in_err-change.ensures ∙ estimated (goal.at.returns-in_err-change c).Else-all-eq0)

pub returns : goal.returns
returns c =
    ap Ok (to_z-of_z {w = w64} (record { sfits = c.length.type_inv }) ∙ c.length.ensures) ∙ ap estimate_of c.in_ok-change.ensures ∙ estimated (goal.at.returns c).Else-all-eq0
