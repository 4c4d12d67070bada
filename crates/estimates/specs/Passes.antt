-- What the inner passes of an estimate give: what a gate does to the length at one entry, and the
-- counts over many. What the clauses of inner functions cite. Assumes nothing.
use Rattle.statevector.specs.declared.Refusal.{Refusal}
use Rattle.std.specs.Prelude.{ℕ, ◌+◌, ◌*◌, ◌^◌, ◌<◌, List, [], ◌∷◌, Bool, true, false, ℤ, pos, ◌-ℤ◌, Err, None, Ok, Option, Result, Some}
use Rattle.amplitudes.specs.declared.Combined.{Combined}
use Rattle.amplitudes.specs.declared.U4.{U4}
use Rattle.merge.specs.Records.{Entry}
use Rattle.estimates.specs.declared.Change.{Change}
use Rattle.statevector.specs.declared.Refusal.TheVariants as no
use Rattle.estimates.specs.Estimates.{dropped, pair_at, finite_sums}
use Rattle.statevector.specs.Tests.{all}

-- how many sums of a pair are dropped, and whether there is no pair
abbrev pub dropped_of : Option Combined → ℕ
dropped_of None = 0
dropped_of (Some p) = dropped p.stay.verdict + dropped p.flip.verdict

abbrev pub unpaired_of : Option Combined → ℕ
unpaired_of None = 1
unpaired_of (Some p) = 0

-- what was computed, if it is finite
abbrev pub if_finite : {A : Type 0} → Bool → A → Result A Refusal
if_finite true a = Ok a
if_finite false a = Err no.Overflow

-- what is found at an entry
abbrev pub change_of : Option Combined → Result Change Refusal
change_of o = if_finite (finite_sums o) (record { unpaired = unpaired_of o; dropped = dropped_of o })

-- how many sums of a pair are dropped
abbrev pub drops_of : Combined → Result ℕ Refusal
drops_of p = if_finite (finite_sums (Some p)) (dropped_of (Some p))

-- the same at two entries that are partners
abbrev pub both_of : Result ℕ Refusal → Result ℕ Refusal → Result ℕ Refusal
both_of (Ok k) (Ok l) = Ok (k + l)
both_of (Ok k) (Err r) = Err r
both_of (Err r) d = Err r

-- over entries `rest` of a state with the entries es
unfoldable pub unpaired_in : ℕ → U4 → List Entry → List Entry → ℕ
unfolding pair_at
unpaired_in q g es [] = 0
unpaired_in q g es (e ∷ rest) = unpaired_of (pair_at q g es e) + unpaired_in q g es rest

unfoldable pub dropped_in : ℕ → U4 → List Entry → List Entry → ℕ
unfolding pair_at
dropped_in q g es [] = 0
dropped_in q g es (e ∷ rest) = dropped_of (pair_at q g es e) + dropped_in q g es rest

unfoldable pub finite_in : ℕ → U4 → List Entry → List Entry → Bool
unfolding pair_at
finite_in q g es rest = all (λ (e : Entry). finite_sums (pair_at q g es e)) rest

unfoldable pub totals_of : ℕ → U4 → List Entry → Result Change Refusal
unfolding unpaired_in dropped_in finite_in
totals_of q g es = if_finite (finite_in q g es es) (record { unpaired = unpaired_in q g es es; dropped = dropped_in q g es es })

-- each unpaired entry adds 2 and each dropped sum takes 1
abbrev pub balance : ℕ → ℕ → ℤ
balance u d = pos (2 * u) -ℤ pos d

-- a change whose counts are small, as an estimate's are
abbrev pub SmallChange : Result Change Refusal → Type 0
SmallChange (Ok c) = (c.unpaired < 2 ^ 61) × (c.dropped < 2 ^ 62)
SmallChange (Err r) = Unit

-- a change as an estimate
abbrev pub estimate_of : Result Change Refusal → Result ℤ Refusal
estimate_of (Ok c) = Ok (balance c.unpaired c.dropped)
estimate_of (Err r) = Err r
