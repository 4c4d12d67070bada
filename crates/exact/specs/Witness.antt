-- The lists of calls and the records by which `Witness` of proofs/ shows that the premises of
-- demand 3 can be met, and what it says of them. Definitions only.
use Rattle.std.specs.Prelude.{◌≡◌, ℕ, ◌^◌, List, [], ◌∷◌, Bool, true, false, pos, Some}
use Rattle.std.specs.Float.{binary64}
use Rattle.std.specs.Float.Ieee.{of_bits}
use Rattle.amplitudes.specs.declared.Complex.{Complex}
use Rattle.amplitudes.specs.declared.U4.{U4}
use Rattle.amplitudes.specs.Numbers.{gauss}
use Rattle.statevector.specs.declared.Side.TheVariants.{Left}
use Rattle.exact.specs.Cases.{gate_c, snapshot, single, blank}
use Rattle.exact.specs.Table.{Snapshot, front_entries, Call, gate, after, Table, numbers_at, exact_sum, start, Logged, log, Premises, Agree}

-- one record, key 0, with a real part of this pattern
abbrev pub one_record : ℕ → Snapshot
one_record p = snapshot Left 1 0 (Some 0) (single 0 p) blank

abbrev pub begun : Snapshot
begun = one_record 0x3ff0_0000_0000_0000

abbrev pub calls : List Call
calls = gate 0 gate_c ∷ gate 64 gate_c ∷ gate 0 gate_c ∷ []

-- a call of case c on qubit q, and whether it was refused
abbrev pub logged : ℕ → Bool → Logged
logged q refused = record { call = gate q gate_c; refused = refused }

-- what was refused; 2 at key 0; and the sum 1 times 2 times 2
pub record CaseC : Type 0 where
  pub refusals : log calls begun ≡ logged 0 false ∷ logged 64 true ∷ logged 0 false ∷ []
  pub number : numbers_at (after calls begun) (0 ∷ []) ≡ record { re = pos 2; im = pos 0 }
  pub sum : exact_sum (front_entries (after calls begun)) ≡ pos 4

-- the pattern of a number as both parts
abbrev pub diagonal : ℕ → Complex
diagonal p = record { re = of_bits binary64 p; im = of_bits binary64 p }

abbrev pub largest_gate : U4
largest_gate =
    record {
      s0 = diagonal 0x4030_0000_0000_0000;
      f0 = diagonal 0x4030_0000_0000_0000;
      s1 = diagonal 0xc030_0000_0000_0000;
      f1 = diagonal 0x4030_0000_0000_0000;
    }

abbrev pub largest : Snapshot
largest =
    let p : ℕ = 0x4210_0000_0000_0000 in
    snapshot Left 1 1 (Some 0) (0 ∷ p ∷ p ∷ 1 ∷ p ∷ p ∷ 7 ∷ []) blank

abbrev pub largest_calls : List Call
largest_calls = gate 0 largest_gate ∷ []

-- what stands in the table before the gate; that the gate is accepted, and within the premises; 64
-- times 2^34 at key 0 and nothing at key 1; and the sum, 2^70 times the weight 1,024
pub record AtLimits : Type 0 where
  pub part : (start largest).at (0 ∷ []) ≡ record { re = pos (2 ^ 34); im = pos (2 ^ 34) }
  pub factor : gauss largest_gate.s0 ≡ record { re = pos 16; im = pos 16 }
  pub done : log largest_calls largest ≡ record { call = gate 0 largest_gate; refused = false } ∷ []
  pub met : Premises (log largest_calls largest) (start largest)
  pub clear : numbers_at (after largest_calls largest) (0 ∷ []) ≡ record { re = pos 0; im = pos (2 ^ 40) }
  pub set : numbers_at (after largest_calls largest) (1 ∷ []) ≡ record { re = pos 0; im = pos 0 }
  pub sum : exact_sum (front_entries (after largest_calls largest)) ≡ pos (2 ^ 80)

abbrev pub not_whole : List ℕ
not_whole = 0x3ff8_0000_0000_0000 ∷ 0x7ff0_0000_0000_0000 ∷ 0x7ff8_0000_0000_0000 ∷ []

abbrev pub Disagrees : ℕ → Type 0
Disagrees p = (x : Table) → Agree (one_record p) x → ⊥
