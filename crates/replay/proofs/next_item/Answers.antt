-- `replay::next_item` meets its contract. Assumes nothing.
use Rattle.std.specs.Prelude.{[]}
use Rattle.replay.specs.Items.{not-whole, some_item}
use Rattle.replay.proofs.next_item.Goals as goal

pub returns-then-came-lt96 : goal.returns-then-came-lt96
returns-then-came-lt96 c =
    some_item (not-whole [])
