-- `text::line::Line::decimal` meets its contract. Assumes nothing.
use Rattle.std.proofs.Common.{◌≡◌, ◌++◌, List, ℕ, length, sym, ap, ◌∙◌, arith, length-take-le, length-append}
use Rattle.text.specs.Text.{decimal_of}
use Rattle.text.specs.Laws.{put-front, decimal-length}
use Rattle.text.proofs.line.Line.decimal.Goals as goal

pub invariant_of-result : goal.invariant_of-result
invariant_of-result c =
    let s = c.self.inside in
    let old : length c.args.self ≡ s.len = sym (ap length c.self.view_is) ∙ length-take-le s.len s.bytes (omega arith) in
    omega (arith, decimal-length, c.put_decimal-end.ensures.after)

pub returns-clause-value : goal.returns-clause-value
returns-clause-value c =
    let a = c.args in
    let s = c.self.inside in
    let old : length a.self ≡ s.len = sym (ap length c.self.view_is) ∙ length-take-le s.len s.bytes (omega arith) in
    put-front c.put_decimal-end.ensures (omega (arith, decimal-length)) ∙ ap (λ (x : List ℕ). x ++ decimal_of a.n) c.self.view_is

pub returns-clause-len : goal.returns-clause-len
returns-clause-len c =
    let a = c.args in
    let s = c.self.inside in
    let old : length a.self ≡ s.len = sym (ap length c.self.view_is) ∙ length-take-le s.len s.bytes (omega arith) in
    let value = put-front c.put_decimal-end.ensures (omega (arith, decimal-length)) ∙ ap (λ (x : List ℕ). x ++ decimal_of a.n) c.self.view_is in
    omega (arith, ap length value ∙ length-append a.self (decimal_of a.n), decimal-length a.n)
