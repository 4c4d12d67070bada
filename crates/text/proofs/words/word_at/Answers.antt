-- `text::words::word_at` meets its contract. Assumes nothing.
use Rattle.std.proofs.Common.{◌≡◌, ◌+◌, ◌-◌, ℕ, take, drop, ap, ◌∙◌, arith}
use Rattle.std.specs.Int.{w64, from_le_bytes}
use Rattle.text.specs.Laws.{library_reads}
use Rattle.text.proofs.words.word_at.Goals as goal

pub returns : goal.returns
returns c =
    let a = c.args in
    let n : a.at + 8 - a.at ≡ 8 = omega arith in
    c.from_le_bytes.ensures
    ∙ ap (from_le_bytes w64) (c.copy_from_slice.ensures.after ∙ ap (λ (k : ℕ). take k (drop a.at a.bytes.now)) n)
    ∙ library_reads a.bytes.now a.at c.requires
