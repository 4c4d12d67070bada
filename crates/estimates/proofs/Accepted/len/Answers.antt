-- `estimates::Accepted::len` meets its contract. Assumes nothing.
use native.Mathlib.Omega.{arith}
use Rattle.estimates.proofs.Estimating.{ready}
use Rattle.estimates.proofs.Accepted.len.Goals as goal

pub overflow_add-result : goal.overflow_add-result
overflow_add-result c =
    omega (arith, (ready c.args.self.now).few)
