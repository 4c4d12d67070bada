-- A pattern that is not finite is read as an infinity by the code, which makes no difference to a
-- call, and so to a step. Assumes nothing.
use Rattle.std.specs.Prelude.{◌≡◌, refl, ℕ, ◌+◌, ◌<◌, ◌≤◌, List, ◌++◌, Bool, true, false, cond, ◌&&◌, eqb, leb, length, get_or, drop, Float, Err, Ok, Result}
use Rattle.std.proofs.Common.{ap, ◌∙◌, arith, lit<}
use Rattle.std.proofs.Math.ListN.{get_or-append}
use Rattle.std.specs.Float.{binary64}
use Rattle.std.specs.Float.Ieee.{of_bits}
use Rattle.std.specs.Float.Ieee.Scale.{finite}
use Rattle.amplitudes.specs.declared.U4.{U4}
use Rattle.amplitudes.specs.Amplitudes.{finite_gate}
use Rattle.amplitudes.specs.Readings.{written_gate, read_float, read_gate}
use Rattle.statevector.specs.declared.Refusal.{Refusal}
use Rattle.statevector.specs.declared.Refusal.TheVariants as no
use Rattle.statevector.specs.declared.State.{State}
use Rattle.gates.specs.Gate.{gate_call}
use Rattle.measurement.specs.Measurement.{measure_call}
use Rattle.state.specs.Laws.{gate-not-finite, scale-not-finite, read-as-written, read-finite, gate-finite, gate_same}
use Rattle.run.specs.declared.Step.{Step}
use Rattle.run.specs.declared.steps.StepCall.{StepCall}
use Rattle.run.specs.declared.steps.StepCall.TheVariants.{Gate, Measure, Premeasure}
use Rattle.run.specs.Reading.{read_call}
use Rattle.run.specs.Steps.{step_from, zeros, measure_by, call_by, call_of, gate_taken, measure_taken, answered, by_call, step_of}

pub gate-as-written : (s : State) (q : ℕ) (ws left right : List ℕ) → gate_call s q (read_gate ws) left right ≡ gate_call s q (written_gate ws) left right
gate-as-written s q ws left right = go (finite_gate (written_gate ws)) refl
  where
    go : (b : Bool) → finite_gate (written_gate ws) ≡ b → gate_call s q (read_gate ws) left right ≡ gate_call s q (written_gate ws) left right
    go true e = ap (λ (g : U4). gate_call s q g left right) (gate_same ws e)
    go false e = gate-not-finite s q (read_gate ws) (written_gate ws) left right (gate-finite ws ∙ e) e

pub scale-as-written : (s : State) (q : ℕ) (v : Bool) (w : ℕ) (left right : List ℕ) → measure_call s q v (read_float w) left right ≡ measure_call s q v (of_bits binary64 w) left right
scale-as-written s q v w left right = go (finite (of_bits binary64 w)) refl
  where
    go : (b : Bool) → finite (of_bits binary64 w) ≡ b → measure_call s q v (read_float w) left right ≡ measure_call s q v (of_bits binary64 w) left right
    go true e = ap (λ (x : Float). measure_call s q v x left right) (read-as-written w e)
    go false e = scale-not-finite s q v (read_float w) (of_bits binary64 w) left right (read-finite w ∙ e) e

-- so a step as the code reads it is the step
pub step-as-read : (s : State) (x : Step) (left right : List ℕ) → by_call s x.qubit (read_call x) left right ≡ step_of s x left right
unfolding step_of call_of call_by measure_by
step-as-read s x left right = go (eqb x.kind 1) (eqb x.kind 2) (leb (get_or ws 0 0) 1 && zeros (drop 2 ws))
  where
    ws : List ℕ
    ws = x.words

    q : ℕ
    q = x.qubit

    v : Bool
    v = eqb (get_or ws 0 0) 1

    other : Result StepCall Refusal
    other = cond (eqb x.kind 3) (cond (zeros ws) (Ok Premeasure) (Err no.Step)) (Err no.Step)

    go : (gate measure fits : Bool)
        → by_call s q (cond gate (Ok (Gate (read_gate ws))) (cond measure (cond fits (Ok (Measure v (read_float (get_or ws 1 0)))) (Err no.Step)) other)) left right
        ≡ by_call s q (cond gate (Ok (Gate (written_gate ws))) (cond measure (cond fits (Ok (Measure v (of_bits binary64 (get_or ws 1 0)))) (Err no.Step)) other)) left right
    go true measure fits = ap (answered (gate_taken s)) (gate-as-written s q ws left right)
    go false true true = ap (answered (measure_taken s)) (scale-as-written s q v (get_or ws 1 0) left right)
    go false true false = refl
    go false false fits = refl

-- ten words are the same step whatever stands after them
pub step-begins : (ws zs : List ℕ) (i : ℕ) → i + 10 ≤ length ws → step_from (ws ++ zs) i ≡ step_from ws i
unfolding step_from
step-begins ws zs i h =
    let g : (k : ℕ) → k < 10 → get_or (ws ++ zs) (i + k) 0 ≡ get_or ws (i + k) 0 = (λ k l. get_or-append ws zs 0 (i + k) (omega arith)) in
    rw (
      get_or-append ws zs 0 i (omega arith),
      g 1 (lit< tt),
      g 2 (lit< tt),
      g 3 (lit< tt),
      g 4 (lit< tt),
      g 5 (lit< tt),
      g 6 (lit< tt),
      g 7 (lit< tt),
      g 8 (lit< tt),
      g 9 (lit< tt),
    )
