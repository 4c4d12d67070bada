-- `words::put` meets its contract. Assumes nothing.
use Rattle.std.proofs.Common.{sym, ◌∙◌, arith}
use Rattle.words.specs.Laws.{sets-whole}
use Rattle.words.proofs.put.Goals as goal

pub returns : goal.returns
returns g c =
    c.copy_from_slice.ensures.after ∙ sym (sets-whole c.args.out.now c.args.words (omega arith))
