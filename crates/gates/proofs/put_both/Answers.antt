-- `gates::put_both` meets its contract: a sum in the lent tail of the store is one in the store.
-- Assumes nothing.
use Prim.Native.Nat.{ℕ, ◌+◌}
use mathlib.Core.Path.{ap, ◌∙◌}
use mathlib.Core.List.{List}
use native.Mathlib.Omega.{arith}
use Rattle.amplitudes.specs.Pairs.{is_kept}
use Rattle.gates.specs.Passes.{sum_record, put_sum}
use Rattle.gates.proofs.Newly.{tail-put}
use Rattle.gates.proofs.put_both.Goals as goal

pub returns-clause-back_after : goal.returns-clause-back_after
returns-clause-back_after c =
    let a = c.args in
    let k = is_kept a.p.flip.verdict in
    let r = λ (n : ℕ). sum_record n a.q a.y.words.now a.p.flip in
    let one = c.put_kept-o0 in
    let two = c.put_kept-o1 in
    tail-put k one.new.dst _ a.o.at a.o.o1 (r a.y.n) (omega (arith, c.requires.at_in_bounds.0, one.auto.dst)) two.ensures.dst_after
    ∙ ap (λ (l : List ℕ). put_sum k l (a.o.at + a.o.o1) (r a.y.n)) one.ensures.dst_after
    ∙ ap (λ (n : ℕ). put_sum k (put_sum (is_kept a.p.stay.verdict) a.back.now a.o.o0 (sum_record a.x.n a.q a.x.words.now a.p.stay)) (a.o.at + a.o.o1) (r n)) c.requires.q_bound.1
