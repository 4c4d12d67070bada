-- `text::line::Line::hex` meets its contract. Assumes nothing.
use Rattle.std.proofs.Common.{◌≡◌, ◌+◌, ◌++◌, List, ℕ, length, sym, ap, ◌∙◌, arith, length-take-le, length-append}
use Rattle.text.specs.Text.{hex_of}
use Rattle.text.specs.Laws.{put-front, hex-length}
use Rattle.text.proofs.line.Line.hex.Goals as goal

pub invariant_of-result : goal.invariant_of-result
invariant_of-result c =
    let s = c.self.inside in
    let old : length c.args.self ≡ s.len = sym (ap length c.self.view_is) ∙ length-take-le s.len s.bytes (omega arith) in
    omega (arith, hex-length, c.put_hex-end.ensures.after)

pub returns-clause-value : goal.returns-clause-value
returns-clause-value c =
    let a = c.args in
    let s = c.self.inside in
    let old : length a.self ≡ s.len = sym (ap length c.self.view_is) ∙ length-take-le s.len s.bytes (omega arith) in
    put-front c.put_hex-end.ensures (omega (arith, hex-length)) ∙ ap (λ (x : List ℕ). x ++ hex_of a.w) c.self.view_is

pub returns-clause-len : goal.returns-clause-len
returns-clause-len c =
    let a = c.args in
    let s = c.self.inside in
    let old : length a.self ≡ s.len = sym (ap length c.self.view_is) ∙ length-take-le s.len s.bytes (omega arith) in
    let value = put-front c.put_hex-end.ensures (omega (arith, hex-length)) ∙ ap (λ (x : List ℕ). x ++ hex_of a.w) c.self.view_is in
    ap length value ∙ length-append a.self (hex_of a.w) ∙ ap (λ (k : ℕ). length a.self + k) (hex-length a.w)
