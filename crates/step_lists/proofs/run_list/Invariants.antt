-- What is left gives what the whole list gives (`Turns`).
use Rattle.std.proofs.Common.{◌≡◌}
use Rattle.run.specs.Run.{run_of}
use Rattle.step_lists.specs.Lists.{steps_of}
use Rattle.step_lists.proofs.Turns.{left_over}
use Rattle.step_lists.proofs.run_list.Given as goal

abbrev pub invariant-loop-done : goal.invariant-loop-done
invariant-loop-done l = left_over l.words l.done l.at l.left l.right ≡ run_of (steps_of l.words) l.fn.s l.fn.left l.fn.right
