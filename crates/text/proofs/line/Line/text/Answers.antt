-- `text::line::Line::text` meets its contract. Assumes nothing.
use Rattle.std.proofs.Common.{◌≡◌, ◌++◌, List, ℕ, length, sym, ap, ap₂, ◌∙◌, arith, length-take-le}
use Rattle.text.specs.Laws.{put-front}
use Rattle.text.proofs.line.Line.text.Goals as goal

pub returns-clause-value : goal.returns-clause-value
returns-clause-value c =
    let s = c.self.inside in
    let old : length c.args.self ≡ s.len = sym (ap length c.self.view_is) ∙ length-take-le s.len s.bytes (omega arith) in
    let text = c.as_bytes.ensures.value in
    let n = ap length text in
    put-front c.put_bytes-end.ensures (omega arith) ∙ ap₂ (λ (x y : List ℕ). x ++ y) c.self.view_is text
