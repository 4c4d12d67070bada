-- `text::words::put_word` meets its contract. Assumes nothing.
use Rattle.std.proofs.Common.{◌∙◌, arith}
use Rattle.text.specs.Laws.{library_writes, eight_put}
use Rattle.text.proofs.words.put_word.Goals as goal

pub returns : goal.returns
returns c =
    let a = c.args in
    eight_put a.bytes.now _ a.at _ a.w c.requires (omega arith) (c.copy_from_slice.ensures.after ∙ c.to_le_bytes.ensures ∙ library_writes a.w)
