-- `calls::export` meets its contract. Written out, so that another call is refused at once.
-- Assumes nothing.
use Rattle.calls.specs.Calls.{export_at}
use Rattle.calls.proofs.export.Goals as goal

pub returns : goal.returns
unfolding export_at
returns c =
    rw (c.put.ensures, c.part_words.ensures, c.in_ok-s.ensures.0, c.in_ok-expect_len.ensures.0, ← c.in_ok-s.ensures.1, c.export-part.ensures.result_value)
