-- `text::lines::record_line` meets its contract. Assumes nothing.
use Rattle.std.proofs.Common.{rules, append_assoc}
use Rattle.text.specs.Text.{record_line}
use Rattle.text.proofs.lines.record_line.Goals as goal

pub returns : goal.returns
unfolding record_line
returns c =
    search (rules, append_assoc)
