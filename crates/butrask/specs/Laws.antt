-- A gate that is not finite has no weight, however its patterns are read; and a weight is no NaN.
-- Assumes nothing.
use Rattle.std.specs.Prelude.{◌≡◌, refl, ℕ, List, Bool, true, false, Float, Option, None, Some}
use Rattle.std.proofs.Common.{sym, ap, ◌∙◌}
use Rattle.amplitudes.specs.declared.U4.{U4}
use Rattle.amplitudes.specs.Amplitudes.{finite_gate}
use Rattle.amplitudes.proofs.Laws.{whole-finite, finite-no-nan, gate-finite, gate_same}
use Rattle.amplitudes.specs.Readings.{written_gate, read_gate}
use Rattle.exact.specs.Weighed.{weighed_of}
use Rattle.exact.proofs.WeighedLaws.{weighed-admissible, not-finite-outside}
use Rattle.butrask.specs.Weights.{WeightNotNan}

pub weight-not-nan : (g : U4) → WeightNotNan (weighed_of g)
weight-not-nan g = go (weighed_of g) refl
  where
    go : (r : Option Float) → weighed_of g ≡ r → WeightNotNan r
    go (Some w) e = finite-no-nan w (whole-finite (weighed-admissible g w e).1.exact)
    go None e = tt

pub weight-as-written : (ws : List ℕ) → weighed_of (read_gate ws) ≡ weighed_of (written_gate ws)
weight-as-written ws = go (finite_gate (written_gate ws)) refl
  where
    go : (b : Bool) → finite_gate (written_gate ws) ≡ b → weighed_of (read_gate ws) ≡ weighed_of (written_gate ws)
    go true e = ap weighed_of (gate_same ws e)
    go false e = not-finite-outside _ (gate-finite ws ∙ e) ∙ sym (not-finite-outside _ e)

-- the two laws, for the function that hands a weight out
pub ruleset weight_laws = (weight-not-nan, weight-as-written)
