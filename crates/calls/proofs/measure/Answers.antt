-- `calls::measure` meets its contract. Written out, so that another call is refused at once.
-- Assumes nothing.
use Rattle.std.proofs.Common.{rules}
use Rattle.calls.specs.Calls.{measure_at}
use Rattle.run.specs.Laws.{scale-as-written}
use Rattle.calls.proofs.measure.Goals as goal

pub returns-in_err-after : goal.returns-in_err-after
unfolding measure_at
returns-in_err-after c =
    rw (c.in_ok-s.ensures.0, ← c.in_ok-s.ensures.1, ← scale-as-written, ← c.read_float-x.ensures, ← c.measure.ensures.right_after, c.in_err-after.was) (search rules)

pub returns : goal.returns
unfolding measure_at
returns c =
    rw (c.put.ensures, c.state_words.ensures, c.in_ok-s.ensures.0, ← c.in_ok-s.ensures.1, ← scale-as-written, ← c.read_float-x.ensures, ← c.measure.ensures.right_after, c.in_ok-after.was) (search rules)
