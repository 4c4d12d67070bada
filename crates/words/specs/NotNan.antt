-- What is written as a pattern is no NaN: what the clauses of src/ ask of what they write. Assumes
-- nothing.
use Rattle.std.specs.Prelude.{not, T, Float, None, Option, Some}
use Rattle.std.specs.Float.Ieee.{is_nan}
use Rattle.amplitudes.specs.declared.Complex.{Complex}
use Rattle.state.specs.declared.Squares.{Squares}

abbrev pub NotNan : Float → Type 0
NotNan x = T (not (is_nan x))

abbrev pub FoundNotNan : Option Complex → Type 0
FoundNotNan (Some a) = NotNan a.re × NotNan a.im
FoundNotNan None = Unit

abbrev pub SumsNotNan : Squares → Type 0
SumsNotNan x = NotNan x.clear × NotNan x.set
