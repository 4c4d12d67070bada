-- `step_lists::run_list` meets its contract, by `Turns`. Assumes nothing.
use Rattle.std.proofs.Common.{rules, ◌≡◌, ◌<◌, ◌/◌, length, ◌∙◌, sym, arith}
use Rattle.step_lists.proofs.Turns.{goes_on, stops, ends, stray, step-in}
use Rattle.step_lists.proofs.run_list.Goals as goal

pub loop-done-preserved : goal.loop-done-preserved
loop-done-preserved c =
    let ws = c.args.words.now in
    let i = c.loop-done.done in
    let more : i < length ws / 10 = omega (arith, c.as_chunks.ensures.front_len, c.loop-done-test.true) in
    let e = rw (c.read_step.ensures ∙ step-in ws _ i c.as_chunks.ensures.front more) at c.run-ran.ensures in
    sym (goes_on ws i _ _ _ _ _ _ (omega arith) e (sym c.if-is_err.ensures.value)) ∙ c.loop-done.invariant

pub returns-then-is_err : goal.returns-then-is_err
returns-then-is_err c =
    let ws = c.args.words.now in
    let i = c.loop-done.done in
    let more : i < length ws / 10 = omega (arith, c.as_chunks.ensures.front_len, c.loop-done-test.true) in
    let e = rw (c.read_step.ensures ∙ step-in ws _ i c.as_chunks.ensures.front more) at c.run-ran.ensures in
    sym (stops ws i _ _ _ _ _ _ (omega arith) e (sym c.if-is_err.ensures.value)) ∙ c.loop-done.invariant

pub returns-then-is_empty-2 : goal.returns-then-is_empty-2
returns-then-is_empty-2 c =
    let k : length c.as_chunks.result.1.now ≡ 0 = search rules in
    let n : c.loop-done.done ≡ length c.args.words.now / 10 = omega (arith, c.as_chunks.ensures.front_len, c.loop-done-test.false, c.loop-done.auto.done-end) in
    sym (ends c.args.words.now c.loop-done.done _ _ _ _ (search rules) (omega (arith, c.as_chunks.ensures.front_len, c.as_chunks.ensures.back_len))) ∙ c.loop-done.invariant

pub returns-else-is_empty-2 : goal.returns-else-is_empty-2
returns-else-is_empty-2 c =
    let k : 0 < length c.as_chunks.result.1.now = search rules in
    let n : c.loop-done.done ≡ length c.args.words.now / 10 = omega (arith, c.as_chunks.ensures.front_len, c.loop-done-test.false, c.loop-done.auto.done-end) in
    sym (stray c.args.words.now c.loop-done.done _ _ _ _ (search rules) c.as_chunks.ensures.front_len (omega (arith, c.as_chunks.ensures.back_len))) ∙ c.loop-done.invariant
