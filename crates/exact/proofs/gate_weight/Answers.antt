-- `exact::gate_weight` meets its contract, by what its calls ensure: on a small gate the tests by
-- floats are those on the exact numbers. Assumes nothing.
use Rattle.std.specs.Prelude.{◌≡◌, true, false, ◌&&◌, Bool, Some}
use Rattle.std.proofs.Common.{sym, ap, ap₂, ◌∙◌}
use Rattle.amplitudes.specs.declared.U4.{U4}
use Rattle.exact.specs.Weighed.{small_whole, small_gate, balanced_f}
use Rattle.exact.proofs.WeighedLaws.{answer-exact}
use Rattle.exact.proofs.gate_weight.Goals.{else-all-via-then-all+else-is_balanced, else-all-via-else-all}
use Rattle.exact.proofs.gate_weight.Goals as goal

-- by both tests, or by the first alone
tested : (g : U4) (s b k l : Bool) → s ≡ small_gate g → b ≡ balanced_f g → s ≡ k → b ≡ l → small_gate g && balanced_f g ≡ (k && l)
tested g s b k l e f h i = ap₂ ◌&&◌ (sym e ∙ h) (sym f ∙ i)

not-small : (g : U4) (s : Bool) → s ≡ small_gate g → s ≡ false → small_gate g && balanced_f g ≡ false
not-small g s e h = ap (λ (t : Bool). t && balanced_f g) (sym e ∙ h)

pub returns-then-is_balanced : goal.returns-then-is_balanced
returns-then-is_balanced c =
    ap Some c.column.ensures ∙ answer-exact _ true (tested _ _ _ true true (c.all.ensures small_whole (λ x b e. e)) c.is_balanced.ensures c.if-all.true c.if-is_balanced.true)

pub returns-else-all : goal.returns-else-all
returns-else-all c =
    let s = c.all.ensures small_whole (λ x b e. e) in
    answer-exact _ false (elim c.else-all.branch [
      | else-all-via-then-all+else-is_balanced w ↦ tested _ _ _ true false s w.is_balanced.ensures w.if-all.true w.if-is_balanced.false
      | else-all-via-else-all w ↦ not-small _ _ s w.if-all.false
    ])
