-- `text::parts::put_bytes` meets its contract. Assumes nothing.
use Rattle.std.proofs.Common.{length, ap, refl, ◌∙◌}
use Rattle.std.proofs.lemmas.List.Edits.{sets}
use Rattle.keys.specs.Laws.{part-back}
use Rattle.text.proofs.parts.put_bytes.Goals as goal

pub returns : goal.returns
returns c =
    let a = c.args in
    let put = c.copy_from_slice.ensures.after in
    record {
      bytes = part-back a.buf.now c.copy_from_slice.new.self a.at (length a.text.now) c.requires (ap length put) ∙ ap (sets a.buf.now a.at) put;
      after = refl;
    }
