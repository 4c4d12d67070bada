-- `gates::write_results` meets its contract: what was counted and is written are the textbook's
-- parts. Assumes nothing.
use mathlib.Core.Path.{refl}
use native.Mathlib.Omega.{arith}
use Rattle.gates.proofs.Parting.{finite-pairs, sizes-fit, fitting, into-full, into-done}
use Rattle.gates.proofs.write_results.Goals as goal

pub overflow_add-c : goal.overflow_add-c
overflow_add-c c =
    let a = c.args in
    record { fits = sizes-fit a.g a.pairs c.requires.parted _ c.requires.sizes_counted (omega arith) (omega arith) }

pub returns-then-dst-n : goal.returns-then-dst-n
returns-then-dst-n c =
    let a = c.args in
    into-full a.g a.pairs c.requires.parted _ c.requires.sizes_counted c.requires.finite a.s a.mark a.dst.now c.requires.n_value c.if-dst-n.true

pub do_u4_write-requires-clause-finite_pairs : goal.do_u4_write-requires-clause-finite_pairs
do_u4_write-requires-clause-finite_pairs c = finite-pairs c.args.g c.args.pairs c.requires.parted

pub do_u4_write-requires-clause-fitting : goal.do_u4_write-requires-clause-fitting
do_u4_write-requires-clause-fitting c =
    fitting c.args.g c.args.pairs c.requires.parted _ c.requires.sizes_counted c.requires.finite _ c.if-dst-n.false

pub returns : goal.returns
returns c =
    let a = c.args in
    into-done a.g a.pairs c.requires.parted _ c.requires.sizes_counted c.requires.finite a.s a.mark a.dst.now c.requires.n_value c.if-dst-n.false _ refl _ c.do_u4_write.ensures
