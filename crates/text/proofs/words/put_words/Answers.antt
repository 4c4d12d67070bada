-- `text::words::put_words` meets its contract. Assumes nothing.
use Rattle.std.proofs.Common.{◌∙◌, arith}
use Rattle.text.specs.Laws.{bytes-step}
use Rattle.text.proofs.words.put_words.Goals as goal

pub loop-k-preserved : goal.loop-k-preserved
loop-k-preserved c =
    let l = c.loop-k in
    rw c.put_word.ensures (bytes-step c.args.words.now l.bytes l.k (omega arith) ∙ l.invariant)
