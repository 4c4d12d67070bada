-- What a gate makes of one amplitude, and of two whose keys differ only in its qubit, with the
-- verdict on each sum. Definitions only.
use Rattle.std.specs.Prelude.{Bool, true, false, not}
use Rattle.std.specs.Float.{binary64}
use Rattle.std.specs.Float.Ieee.{mul, lt}
use Rattle.amplitudes.specs.declared.Complex.{Complex}
use Rattle.amplitudes.specs.declared.U4.{U4}
use Rattle.amplitudes.specs.declared.Verdict.{Verdict}
use Rattle.amplitudes.specs.declared.Verdict.TheVariants.{Kept, Dropped}
use Rattle.amplitudes.specs.declared.Accumulated.{Accumulated}
use Rattle.amplitudes.specs.declared.Applied.{Applied}
use Rattle.amplitudes.specs.declared.Combined.{Combined}
use Rattle.amplitudes.specs.Amplitudes.{times, plus, norm_inf, eps}

-- whether the norm_inf of a sum exceeds 2^-40 of the norm_inf of its first operand
unfoldable pub exceeds : Complex → Complex → Bool
unfolding norm_inf mul lt
exceeds sum first = lt (mul binary64 eps (norm_inf first)) (norm_inf sum)

-- the verdict on a sum, by whether it exceeds: `Kept` where it does, `Dropped` where it does not
abbrev pub judged : Bool → Verdict
judged true = Kept
judged false = Dropped

-- whether a sum with this verdict is an entry of the result
abbrev pub is_kept : Verdict → Bool
is_kept Kept = true
is_kept Dropped = false

-- the sum of a first operand and another, and the verdict on it
unfoldable pub accumulated : Complex → Complex → Accumulated
unfolding plus exceeds
accumulated first other = record { first = first; sum = plus first other; verdict = judged (exceeds (plus first other) first) }

-- stay and flip (SPECIFICATION 2.6): the gate's factors for an amplitude at its own key and at its
-- partner's, by `set`: whether the qubit's bit is set in its key
abbrev pub stay_of : U4 → Bool → Complex
stay_of g false = g.s0
stay_of g true = g.s1

abbrev pub flip_of : U4 → Bool → Complex
flip_of g false = g.f0
flip_of g true = g.f1

-- the two products of an amplitude
unfoldable pub applied : U4 → Bool → Complex → Applied
unfolding times
applied g set a = record { stay = times (stay_of g set) a; flip = times (flip_of g set) a }

-- a pair of entries, a and b. `set`: whether the bit is set in a's key; b's has the other value.
-- a's products are the first operands. Where a is the clear one, that is s0·a + f1·b at a's key and
-- f0·a + s1·b at b's
unfoldable pub combined : U4 → Bool → Complex → Complex → Combined
unfolding accumulated applied
combined g set a b = record {
  stay = accumulated (applied g set a).stay (applied g (not set) b).flip;
  flip = accumulated (applied g set a).flip (applied g (not set) b).stay;
}
