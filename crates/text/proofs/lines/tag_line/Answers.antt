-- `text::lines::tag_line` meets its contract. Assumes nothing.
use Rattle.std.proofs.Common.{rules, append_assoc}
use Rattle.text.specs.Text.{tag_text_of, tag_line}
use Rattle.text.proofs.lines.tag_line.Goals as goal

pub returns-in-None : goal.returns-in-None
unfolding tag_text_of tag_line
returns-in-None c =
    search (rules, append_assoc)

pub returns-in-Some : goal.returns-in-Some
unfolding tag_text_of tag_line
returns-in-Some c =
    search (rules, append_assoc)
