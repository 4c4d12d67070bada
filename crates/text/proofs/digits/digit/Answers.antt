-- `text::digits::digit` meets its contract. Assumes nothing.
use Rattle.std.proofs.Common.{lt-ltb, le-ltb}
use Rattle.text.specs.Text.{digit_of}
use Rattle.text.proofs.digits.digit.Goals as goal

pub returns-then-d-lt10 : goal.returns-then-d-lt10
unfolding digit_of
returns-then-d-lt10 c =
    rw (lt-ltb c.args.d 10 c.if-d-lt10.true)

pub returns-else-d-lt10 : goal.returns-else-d-lt10
unfolding digit_of
returns-else-d-lt10 c =
    rw (le-ltb c.args.d 10 c.if-d-lt10.false)
