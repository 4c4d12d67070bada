-- `replay::take_item` meets its contract. Assumes nothing.
use Rattle.replay.specs.Items.{not-whole}
use Rattle.replay.proofs.take_item.Goals as goal

pub returns-in_default : goal.returns-in_default
returns-in_default c =
    not-whole _

pub returns-then-not-read_words : goal.returns-then-not-read_words
returns-then-not-read_words c =
    not-whole _
