-- `replay::take_items` meets its contract. Assumes nothing.
use Rattle.std.proofs.Common.{subst, arith}
use Rattle.replay.specs.Items.{NextItem, tallied-more}
use Rattle.replay.proofs.take_items.Goals as goal

pub returns-then-eq : goal.returns-then-eq
returns-then-eq c =
    tallied-more c.loop.invariant.2 (subst NextItem c.in-Some.is c.next_item.ensures) c.with-c.ensures.value

pub loop-preserved : goal.loop-preserved
loop-preserved c = (
  omega (arith, c.loop.invariant.0, c.with-c.ensures.result_value.0),
  c.with-c.ensures.result_value.1,
  tallied-more c.loop.invariant.2 (subst NextItem c.in-Some.is c.next_item.ensures) c.with-c.ensures.value,
)
