-- A gate that is not finite matters to an estimate only by that (as it does to the calls that make a
-- state, by run's laws). Assumes nothing.
use Rattle.std.specs.Prelude.{◌≡◌, refl, ℕ, List, Bool, true, false}
use Rattle.std.proofs.Common.{ap, ◌∙◌}
use Rattle.amplitudes.specs.declared.U4.{U4}
use Rattle.amplitudes.specs.Amplitudes.{finite_gate}
use Rattle.statevector.specs.declared.State.{State}
use Rattle.estimates.specs.Estimates.{collapse_call, forecast_call}
use Rattle.state.specs.Laws.{collapse-not-finite, forecast-not-finite}
use Rattle.amplitudes.specs.Readings.{written_gate, read_gate}
use Rattle.amplitudes.proofs.Laws.{gate-finite, gate_same}

-- what cannot tell gates apart that are not finite cannot tell that a pattern which is not finite
-- is read as an infinity
as_written : {A : Type 0} (F : U4 → A) → ((g h : U4) → finite_gate g ≡ false → finite_gate h ≡ false → F g ≡ F h) → (ws : List ℕ) → F (read_gate ws) ≡ F (written_gate ws)
as_written F same ws = go (finite_gate (written_gate ws)) refl
  where
    go : (b : Bool) → finite_gate (written_gate ws) ≡ b → F (read_gate ws) ≡ F (written_gate ws)
    go true e = ap F (gate_same ws e)
    go false e = same _ _ (gate-finite ws ∙ e) e

module _ (s : State) (q : ℕ) (left right : List ℕ) where
  pub collapse-as-written : (i : ℕ) (ws : List ℕ) → collapse_call s q (read_gate ws) i left right ≡ collapse_call s q (written_gate ws) i left right
  collapse-as-written i = as_written (λ g. collapse_call s q g i left right) (λ g h. collapse-not-finite s q left right g h i)

  pub forecast-as-written : (ws : List ℕ) → forecast_call s q (read_gate ws) left right ≡ forecast_call s q (written_gate ws) left right
  forecast-as-written = as_written (λ g. forecast_call s q g left right) (forecast-not-finite s q left right)
