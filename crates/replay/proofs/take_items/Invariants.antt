use Rattle.std.proofs.Common.{◌≡◌, ◌≤◌}
use Rattle.replay.specs.Items.{Tallied}
use Rattle.replay.proofs.take_items.Given as goal

-- the count is that of the verdicts so far
abbrev pub invariant-loop : goal.invariant-loop
invariant-loop l = (l.c.items ≡ l.counter) × (l.c.differ ≤ l.c.items) × Tallied l.c
