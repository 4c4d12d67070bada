-- `measurement::normalize_record` meets its contract: the key moves, and two patterns are stored
-- after it. Assumes nothing.
use mathlib.Core.Path.{◌≡◌, sym, ap, ◌∙◌}
use mathlib.Core.Bool.{true}
use Rattle.amplitudes.specs.declared.Complex.{Complex}
use Rattle.amplitudes.specs.Amplitudes.{over, finite_c}
use Rattle.merge.specs.Records.{record_from, amplitude_of}
use Rattle.merge.specs.Laws.{from-length}
use Rattle.measurement.proofs.Matches.{divided-finite, no-nans}
use Rattle.measurement.proofs.Normalizing.{moved-record}
use Rattle.measurement.proofs.normalize_record.Goals.{After-div-a}
use Rattle.measurement.proofs.normalize_record.Goals as goal

-- what is written is the amplitude divided, and finite
quotient : (c : After-div-a) → let a = c.args in c.div-a.result ≡ over (amplitude_of a.n (record_from a.n a.ws.now a.x)) a.scale
quotient c = let a = c.args in c.div-a.ensures ∙ ap (λ (z : Complex). over z a.scale) (rw (c.at.ensures.words_value, c.at.ensures.n_value) at c.amplitude.ensures)

finite-result : (c : After-div-a) → finite_c c.div-a.result ≡ true
finite-result c =
    let a = c.args in
    ap finite_c (quotient c) ∙ sym (divided-finite a.n a.scale (record_from a.n a.ws.now a.x) (from-length a.n a.x a.ws.now c.requires.at_le_x.1)) ∙ c.requires.x_value_2

pub to_bits-requires : goal.to_bits-requires
to_bits-requires c =
    (no-nans c.div-a.result (finite-result (goal.at.to_bits-requires c).After-div-a)).0

pub to_bits-requires-2 : goal.to_bits-requires-2
to_bits-requires-2 c =
    (no-nans c.div-a.result (finite-result (goal.at.to_bits-requires-2 c).After-div-a)).1

pub returns : goal.returns
returns c =
    let a = c.args in
    moved-record a.n a.scale a.ws.now _ a.x a.at _ _ c.div-a.result c.requires.at_le_x.1 c.move_words.ensures (quotient (goal.at.returns c).After-div-a) c.to_bits.ensures c.to_bits-2.ensures
