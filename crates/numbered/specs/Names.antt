-- Which call a number names. What the clauses of src/lib.rt cite. Assumes nothing.
use Rattle.std.specs.Prelude.{◌≡◌, ℕ, ◌<◌, Result, MatchResult}
use Rattle.words.specs.declared.errors.CallError.{CallError}
use Rattle.words.specs.declared.errors.CallError.TheVariants.{NoCall}
use Rattle.numbered.specs.declared.CallName.{CallName}
use Rattle.numbered.specs.declared.CallName.TheVariants.{PerformU4, Measure, Premeasure, Fresh, ImportDense, Check, Lookup, Export, CollapseDelta, Forecast, Run, Compare}

abbrev pub call_number : CallName → ℕ
call_number PerformU4 = 1
call_number Measure = 2
call_number Premeasure = 3
call_number Fresh = 4
call_number ImportDense = 5
call_number Check = 6
call_number Lookup = 7
call_number Export = 8
call_number CollapseDelta = 9
call_number Forecast = 10
call_number Run = 11
call_number Compare = 12

-- the call with this number, or that none of 1 to 12 is it
abbrev pub Names : ℕ → Result CallName CallError → Type 0
Names n r = MatchResult r (λ call. n ≡ call_number call) (λ e. (e ≡ NoCall) × (0 < n → 12 < n))
