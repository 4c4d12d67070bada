-- The trial of SPECIFICATION 9.3, and seven runs, computed from the definitions: a check that they
-- say what is meant. Assumes nothing.
use Rattle.std.specs.Prelude.{◌≡◌, refl, ℕ, List, [], ◌∷◌, map, Some}
use Rattle.std.specs.Float.{binary64}
use Rattle.std.specs.Float.Ieee.{of_bits, to_bits}
use Rattle.amplitudes.specs.Amplitudes.{times, norm2}
use Rattle.amplitudes.specs.Pairs.{accumulated}
use Rattle.keys.specs.Keys.{toggle, clear, bit_at, order, same}
use Rattle.merge.specs.Addresses.{addresses}
use Rattle.merge.specs.Records.{part, counted, record_at, amplitude_of, finite_record, decode, encode, flat, at, capacity}
use Rattle.merge.specs.Sorting.{side, only}
use Rattle.statevector.specs.declared.Side.TheVariants.{Left, Right}
use Rattle.statevector.specs.declared.State.{State}
use Rattle.gates.specs.Gate.{gate_call, gated, gate_words, result_tests, gate_part, gate_finite}
use Rattle.statevector.specs.Answers.{tested}
use Rattle.statevector.specs.Refusals.{first}
use Rattle.state.specs.Sums.{premeasure_call, sum_for}
use Rattle.statevector.specs.Tests.{check_call}
use Rattle.run.specs.declared.Step.{Step}
use Rattle.run.specs.Run.{run_of}
use Rattle.run.specs.Steps.{step_number, step_sums}
use Rattle.run.specs.Trial.{Report, trial_of}

abbrev one : ℕ
one = 0x3ff0000000000000

-- the fresh state of width 1 over stores of two records
abbrev fresh : State
fresh = record { width = 1; front = Left; n0 = 1; n1 = 0; tag = Some 0 }

abbrev left : List ℕ
left = 0 ∷ one ∷ 0 ∷ 0 ∷ 0 ∷ 0 ∷ []

abbrev right : List ℕ
right = 0 ∷ 0 ∷ 0 ∷ 0 ∷ 0 ∷ 0 ∷ []

-- gate 1 1 −1 1 on qubit 0, and premeasure 0
abbrev gate : Step
gate = record { kind = 1; qubit = 0; words = one ∷ 0 ∷ one ∷ 0 ∷ 0xbff0000000000000 ∷ 0 ∷ one ∷ 0 ∷ [] }

abbrev premeasure : Step
premeasure = record { kind = 3; qubit = 0; words = 0 ∷ 0 ∷ 0 ∷ 0 ∷ 0 ∷ 0 ∷ 0 ∷ 0 ∷ [] }

-- a report's fields: number, sizes, sums as patterns
abbrev fields : Report → ℕ × ℕ × ℕ × List ℕ
fields p = (step_number p.answer, p.n0, p.n1, map (to_bits binary64) (step_sums p.answer))

-- the whole trial of SPECIFICATION 9.3: its reports, the tag and the records after it
pub trial-example :
    let t = trial_of (gate ∷ premeasure ∷ []) fresh left right in
    (map fields t.reports ≡ (0, 1, 1, []) ∷ (0, 1, 1, one ∷ one ∷ []) ∷ [])
    × (t.state ≡ record { width = 1; front = Right; n0 = 1; n1 = 1; tag = Some 0 })
    × (t.right ≡ 0 ∷ one ∷ 0 ∷ 1 ∷ one ∷ 0 ∷ [])
unfolding trial_of gate_call gated gate_words result_tests gate_part gate_finite premeasure_call sum_for first part counted record_at amplitude_of finite_record decode encode flat at capacity side only addresses toggle clear bit_at order same of_bits to_bits times accumulated norm2
trial-example = (refl, refl, refl)

-- the number done and the number of what stopped it
abbrev ran : List Step → State → ℕ × ℕ
ran xs s = let o = run_of xs s left right in (o.answer.done, (tested o.answer.stopped).number)

-- a state of width 3, and one of more entries than its store holds
abbrev wide : State
wide = record { width = 3; front = Left; n0 = 1; n1 = 0; tag = Some 0 }

abbrev many : State
many = record { width = 1; front = Left; n0 = 3; n1 = 0; tag = Some 0 }

-- the gate on a qubit that width 1 doesn't have
abbrev beyond : Step
beyond = record { kind = 1; qubit = 64; words = gate.words }

-- a run stops at a premeasure, with the steps before it done; an empty list tests the state; 10
-- stands before 1, and 2 before 3
pub run-examples :
    (ran (gate ∷ premeasure ∷ gate ∷ []) fresh ≡ (1, 10))
    × (ran (gate ∷ gate ∷ []) fresh ≡ (2, 0))
    × (ran [] fresh ≡ (0, 0))
    × (ran [] wide ≡ (0, 1))
    × (ran (premeasure ∷ []) wide ≡ (0, 10))
    × (ran [] many ≡ (0, 3))
    × (ran (beyond ∷ []) many ≡ (0, 2))
unfolding run_of check_call gate_call gated gate_words result_tests gate_part gate_finite first part counted record_at amplitude_of finite_record decode encode flat at capacity addresses toggle clear bit_at order same of_bits times accumulated
run-examples = (refl, refl, refl, refl, refl, refl, refl)
