-- `keys::toggle_bit` meets its contract. Assumes nothing.
use Prim.Native.Nat.{◌/◌, ◌%◌}
use native.Mathlib.Omega.{arith}
use lib.ListN.{get_or}
use Rattle.keys.specs.Keys.{toggle}
use Rattle.keys.specs.Laws.{xor-bit, one_shifted}
use Rattle.keys.proofs.toggle_bit.Goals as goal

pub returns : goal.returns
unfolding toggle
returns c =
    let p = c.args.q % 64 in
    rw (one_shifted p (omega arith), xor-bit (get_or c.args.key.now (c.args.q / 64) 0) p)
