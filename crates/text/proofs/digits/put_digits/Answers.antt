-- `text::digits::put_digits` meets its contract. Assumes nothing.
use Rattle.std.proofs.Common.{◌≡◌, ℕ, suc, ◌-◌, ◌/◌, ◌%◌, length, set, zero-add, sym, ap, ◌∙◌, arith}
use Rattle.std.proofs.lemmas.List.Edits.{sets}
use Rattle.keys.specs.Laws.{sets-whole}
use Rattle.text.specs.Text.{digit_of, digits}
use Rattle.text.specs.Laws.{digits-length, digits_step}
use Rattle.text.proofs.digits.put_digits.Goals as goal

pub loop-i-init : goal.loop-i-init
loop-i-init c =
    let bs = c.args.bytes.now in
    sets-whole (digits c.args.base (length bs) c.args.n) bs (sym (digits-length c.args.base (length bs) c.args.n))

pub loop-i-preserved : goal.loop-i-preserved
loop-i-preserved c =
    let l = c.loop-i in
    let base = c.args.base in
    let rest = digits base (l.i - 1) (l.rest / base) in
    let s : suc (l.i - 1) ≡ l.i = omega arith in
    rw c.digit.ensures (ap (λ (j : ℕ). sets (set l.bytes j (digit_of (l.rest % base))) 0 rest) (sym (zero-add (l.i - 1)))
    ∙ digits_step l.bytes 0 base (l.i - 1) l.rest
    ∙ ap (λ (j : ℕ). sets l.bytes 0 (digits base j l.rest)) s
    ∙ l.invariant)
