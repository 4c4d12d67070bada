-- `keys::bit` meets its contract. Assumes nothing.
use Rattle.keys.specs.Keys.{bit_at}
use Rattle.keys.specs.Laws.{and_one}
use Rattle.keys.proofs.bit.Goals as goal

pub returns : goal.returns
unfolding bit_at
returns c =
    rw and_one
