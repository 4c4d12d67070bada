-- `estimates::Accepted::total_changes` meets its contract. The invariant: the counts, and what is left, are
-- those that there are. Assumes nothing.
use mathlib.Core.Path.{sym, ◌∙◌}
use native.Mathlib.Omega.{arith}
use Rattle.std.proofs.lemmas.Result.{err_from_is_err_and}
use Rattle.estimates.proofs.Estimating.{ready, narrow, key-room, from-none, from-turn, few-here, from-overflow, from_all}
use Rattle.estimates.proofs.Accepted.total_changes.Goals as goal

pub slice_bounds-words-end : goal.slice_bounds-words-end
slice_bounds-words-end c = narrow c.args.self.now

pub slice_bounds-key-end : goal.slice_bounds-key-end
slice_bounds-key-end c = key-room c.args.self.now

pub loop-r-init : goal.loop-r-init
loop-r-init c = (omega arith, omega arith, from-none c.args.self.now)

pub change_at-requires-clause-key_len : goal.change_at-requires-clause-key_len
change_at-requires-clause-key_len c = c.loop-r.auto.key ∙ sym (key-room c.args.self.now)

pub returns-in_err-c : goal.returns-in_err-c
returns-in_err-c c =
    let p = err_from_is_err_and c.from_residual.result c.from_residual.ensures.1 in
    rw (p.1, p.2) (sym (from-overflow c.args.self.now _ _ _ c.loop-r.invariant.2 (rw (← c.len-r-end.ensures) c.loop-r-test.true) _ c.in_err-c.ensures))

pub overflow_add-dropped : goal.overflow_add-dropped
overflow_add-dropped c =
    let l = few-here c.args.self.now _ _ _ c.loop-r.invariant.2 (rw (← c.len-r-end.ensures) c.loop-r-test.true) _ c.in_ok-c.ensures in
    omega (arith, l, (ready c.args.self.now).few)

pub loop-r-preserved : goal.loop-r-preserved
loop-r-preserved c =
    let l = few-here c.args.self.now _ _ _ c.loop-r.invariant.2 (rw (← c.len-r-end.ensures) c.loop-r-test.true) _ c.in_ok-c.ensures in
    let n = from-turn c.args.self.now _ _ _ c.loop-r.invariant.2 (rw (← c.len-r-end.ensures) c.loop-r-test.true) _ c.in_ok-c.ensures in
    (omega (arith, l), omega (arith, l), n)

pub returns : goal.returns
returns c =
    sym (from_all c.args.self.now _ _ _ c.loop-r.invariant.2 (omega (arith, c.len-r-end.ensures)))
