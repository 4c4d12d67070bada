-- `keys::equals_masked` meets its contract. The invariant: the words before k agree. Assumes
-- nothing.
use mathlib.Core.Path.{sym}
use native.Mathlib.Omega.{arith}
use borrow.Author.Count.{below_more}
use Rattle.keys.proofs.Masks.{agree, disagree}
use Rattle.keys.proofs.equals_masked.Goals as goal

pub loop-k-init : goal.loop-k-init
loop-k-init c =
    λ m h. absurd (omega arith)

pub returns-then-key-k : goal.returns-then-key-k
returns-then-key-k c =
    let a = c.args in
    sym (disagree a.mask.now a.key.now c.requires.mask_len a.wanted.now c.requires.wanted_len c.loop-k.k (omega arith) c.if-key-k.true)

pub loop-k-preserved : goal.loop-k-preserved
loop-k-preserved c =
    below_more _ _ c.loop-k.invariant c.if-key-k.false

pub returns : goal.returns
returns c =
    let a = c.args in
    sym (agree a.mask.now a.key.now c.requires.mask_len a.wanted.now c.requires.wanted_len (λ m i. c.loop-k.invariant m (omega arith)))
