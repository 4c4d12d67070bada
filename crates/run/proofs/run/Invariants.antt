-- What is left gives what the whole list gives (`Turns`).
use Rattle.std.proofs.Common.{◌≡◌}
use Rattle.run.specs.Run.{run_of}
use Rattle.run.proofs.Turns.{left_over}
use Rattle.run.proofs.run.Given as goal

abbrev pub invariant-loop-done : goal.invariant-loop-done
invariant-loop-done l = left_over l.steps l.done l.at l.left l.right ≡ run_of l.steps l.fn.s l.fn.left l.fn.right
