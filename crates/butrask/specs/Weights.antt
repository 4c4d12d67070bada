-- The weight of a gate at the C boundary (SPECIFICATION 14.3). What the clauses of src/ cite.
-- Assumes nothing.
use Rattle.std.specs.Prelude.{ℕ, List, [], ◌∷◌, cond, ◌&&◌, Float, Option, None, Some}
use Rattle.std.specs.Float.{binary64}
use Rattle.std.specs.Float.Ieee.{to_bits}
use Rattle.std.proofs.lemmas.List.Edits.{sets}
use Rattle.amplitudes.specs.Readings.{written_gate}
use Rattle.exact.specs.Weighed.{weighed_of}
use Rattle.words.specs.NotNan.{NotNan}
use Rattle.words.specs.Words.{gate_size, AfterReading, wrong_length, has_words}
use Rattle.calls.specs.Calls.{only_answered}

-- 1 and the weight's pattern, or two zeros for a gate that has none
abbrev pub weight_words : Option Float → List ℕ
weight_words (Some w) = 1 ∷ to_bits binary64 w ∷ []
weight_words None = 0 ∷ 0 ∷ []

-- what is written as a pattern is no NaN
abbrev pub WeightNotNan : Option Float → Type 0
WeightNotNan (Some w) = NotNan w
WeightNotNan None = Unit

unfoldable pub weight_at : List ℕ → List ℕ → AfterReading
weight_at gate out =
    cond (has_words gate_size gate && has_words 2 out)
    (record { answer = 0; out = sets out 0 (weight_words (weighed_of (written_gate gate))) })
    (only_answered wrong_length out)
