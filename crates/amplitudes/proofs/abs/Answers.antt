-- `amplitudes::abs` meets its contract: each branch is a case of the law, and the format holds a
-- parameter. Assumes nothing.
use mathlib.Core.Path.{◌≡◌, sym, ap, ◌∙◌, subst}
use mathlib.Core.Bool.{Bool, cond}
use lib.Dec.{T}
use lib.IntN.{pos}
use lib.Ieee.{Float, fin, binary64, fits, lt, sub, of_bits}
use mathlib.Core.Bool.{true, false}
use Rattle.amplitudes.specs.Amplitudes.{absolute, larger}
use Rattle.amplitudes.proofs.Laws.{absolute-difference}
use Rattle.amplitudes.proofs.abs.Goals as goal

by-test : (x : Float) (b : Bool) → fits binary64 x ≡ true → lt (sub binary64 (fin false 0 (pos 0)) x) x ≡ b → cond b x (sub binary64 (fin false 0 (pos 0)) x) ≡ absolute x
unfolding larger
by-test x b h e = ap (λ (t : Bool). cond t x (sub binary64 (fin false 0 (pos 0)) x)) (sym e) ∙ absolute-difference x (subst T (sym h) tt)

pub returns-then-y-x : goal.returns-then-y-x
unfolding of_bits
returns-then-y-x c =
    by-test c.args.x true c.well_formed.0.1 c.if-y-x.true

pub returns-else-y-x : goal.returns-else-y-x
unfolding of_bits
returns-else-y-x c =
    by-test c.args.x false c.well_formed.0.1 c.if-y-x.false
