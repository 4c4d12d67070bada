-- How the code reads a step's words: as `Steps.antt` says, but that every pattern which is not
-- finite is read as one infinity (`read_float`). No call tells the two apart (`Laws/Reading.antt`);
-- the clauses of the calls cite `Steps.antt`. Assumes nothing.
use Rattle.std.specs.Prelude.{ℕ, List, Result}
use Rattle.statevector.specs.declared.Refusal.{Refusal}
use Rattle.amplitudes.specs.Readings.{read_float}
use Rattle.run.specs.declared.Step.{Step}
use Rattle.run.specs.declared.steps.StepCall.{StepCall}
use Rattle.run.specs.Steps.{measure_by, call_by}

abbrev pub read_measure : List ℕ → Result StepCall Refusal
read_measure ws = measure_by read_float ws

abbrev pub read_call : Step → Result StepCall Refusal
read_call x = call_by read_float x
