-- `estimates::Accepted::find` meets its contract. Assumes nothing.
use mathlib.Core.Bool.{true, false}
use native.Mathlib.Omega.{arith}
use Rattle.estimates.proofs.Estimating.{ready}
use Rattle.estimates.proofs.Accepted.find.Goals as goal

pub find-requires-clause-from_le_to : goal.find-requires-clause-from_le_to
find-requires-clause-from_le_to c = rw c.len.ensures (omega arith, (ready c.args.self.now).sound.room)

pub find-requires-clause-rising : goal.find-requires-clause-rising
find-requires-clause-rising c = rw c.len.ensures ((ready c.args.self.now).sound.rise true)

pub find-requires-else-part-clause-from_le_to : goal.find-requires-else-part-clause-from_le_to
find-requires-else-part-clause-from_le_to c = (omega arith, (ready c.args.self.now).room0)

pub find-requires-else-part-clause-rising : goal.find-requires-else-part-clause-rising
find-requires-else-part-clause-rising c = (ready c.args.self.now).sound.rise false
