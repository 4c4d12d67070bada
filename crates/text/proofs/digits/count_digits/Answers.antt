-- `text::digits::count_digits` meets its contract. Assumes nothing.
use Rattle.std.proofs.Common.{sym, ◌∙◌, arith, add-one}
use Rattle.text.specs.Laws.{places-less, places-at}
use Rattle.text.proofs.digits.count_digits.Goals as goal

pub returns-in-None : goal.returns-in-None
returns-in-None c =
    let z = c.in-None.ensures.none in
    sym (places-less 19 c.args.n (omega arith))

pub returns-in-Some : goal.returns-in-Some
returns-in-Some c =
    let e = c.in-Some.ensures in
    add-one c.in-Some.k ∙ sym (places-at 19 c.in-Some.k c.args.n e.power_le e.next_power_gt (omega arith))
