-- `dense::is_wanted` meets its contract. Assumes nothing.
use mathlib.Core.Path.{ap}
use lib.Ieee.{le, of_bits}
use Rattle.amplitudes.specs.Amplitudes.{eps}
use Rattle.dense.specs.Dense.{wanted}
use Rattle.dense.proofs.is_wanted.Goals as goal

pub returns : goal.returns
unfolding wanted of_bits
returns c =
    ap (le eps) c.norm_inf.ensures
