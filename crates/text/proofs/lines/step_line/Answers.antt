-- `text::lines::step_line` meets its contract. Assumes nothing.
use Rattle.std.proofs.Common.{rules, append_assoc}
use Rattle.text.specs.Text.{step_text_of, step_line, step_line_with_sums, step_head}
use Rattle.text.proofs.lines.step_line.Goals as goal

pub returns-in-None : goal.returns-in-None
unfolding step_text_of step_line step_head
returns-in-None c =
    search (rules, append_assoc)

pub returns-in-Some : goal.returns-in-Some
unfolding step_text_of step_line_with_sums step_head
returns-in-Some c =
    search (rules, append_assoc)
