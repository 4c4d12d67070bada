-- `keys::flip` meets its contract. The invariant: the words before k are turned over, the others as
-- they were. Assumes nothing.
use mathlib.Core.Path.{refl, ◌∙◌}
use Prim.Native.Nat.{ℕ}
use native.Mathlib.Omega.{arith}
use lib.Bits.{bit_xor}
use lib.ListN.{get_or}
use lib.Seq.{get_or-set_other}
use Rattle.std.proofs.lemmas.List.Edits.{fill_by_more}
use Rattle.keys.proofs.Masks.{turned}
use Rattle.keys.proofs.flip.Goals as goal

pub loop-k-init : goal.loop-k-init
loop-k-init c =
    (λ m h. absurd (omega arith), λ m h. refl)

pub loop-k-preserved : goal.loop-k-preserved
loop-k-preserved c =
    let a = c.args in
    let k = c.loop-k.k in
    let h = c.loop-k.invariant in (
      rw (h.1 k (omega arith)) (fill_by_more (λ (m : ℕ). bit_xor (get_or a.key.now m 0) (get_or a.qubits.now m 0)) c.loop-k.key k 0 (omega arith) h.0),
      λ m i. get_or-set_other c.loop-k.key k m _ 0 (λ e. omega arith) ∙ h.1 m (omega arith),
    )

pub returns : goal.returns
returns c =
    let a = c.args in
    turned a.qubits.now a.key.now c.requires c.loop-k.key c.loop-k.auto.key (λ k h. c.loop-k.invariant.0 k (omega arith))
