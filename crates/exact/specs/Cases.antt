-- The cases of SPECIFICATION 12.1 that are marked P, and what the one theorem of them all says
-- (`cases` of proofs/), for a reader who compares them with that table: a table of rows, each a
-- start, calls and the whole outcome (what each call said, sizes, tag and front mark, the words of
-- both stores), and case j, which speaks of any qubit. Rows have width 1; 7 stands for words that
-- nobody writes. Assumes nothing.
use Rattle.gates.specs.declared.Gated.{Gated}
use Rattle.statevector.specs.declared.Refusal.{Refusal}
use Rattle.std.specs.Prelude.{ℕ, ◌+◌, ◌*◌, ◌<◌, ◌≡◌, List, [], ◌∷◌, Bool, true, ℤ, pos, negsuc, Float, Err, None, Ok, Option, Result, Some}
use Rattle.std.specs.Float.{binary64}
use Rattle.std.specs.Float.Ieee.{of_bits}
use Rattle.amplitudes.specs.declared.Complex.{Complex}
use Rattle.amplitudes.specs.declared.U4.{U4}
use Rattle.keys.specs.Lists.{All}
use Rattle.statevector.specs.declared.Side.{Side}
use Rattle.statevector.specs.declared.Side.TheVariants.{Left, Right}
use Rattle.statevector.specs.declared.State.{State}
use Rattle.amplitudes.specs.Amplitudes.{finite_gate}
use Rattle.dense.specs.Dense.{dense_call}
use Rattle.estimates.specs.Estimates.{collapse_call, change}
use Rattle.state.specs.Fresh.{fresh_call}
use Rattle.gates.specs.Gate.{gate_call, performed-response}
use Rattle.measurement.specs.Measurement.{measure_call}
use Rattle.statevector.specs.Refusals.{first}
use Rattle.statevector.specs.States.{front_of}
use Rattle.statevector.specs.Tests.{qubit_tests}
use Rattle.statevector.specs.Answers.{made-response}
use Rattle.exact.specs.Table.{Snapshot, gate_result}

-- ---- calls by name, and what they say

pub data Act : Type 0 where
  fresh : Act
  gate : ℕ → U4 → Act
  measure : ℕ → Bool → Float → Act
  dense : List ℕ → Side → Act
  estimate-of : ℕ → U4 → ℕ → Act

-- a number of SPECIFICATION 10.1 (0: done), or a change of length
pub data Said : Type 0 where
  number : ℕ → Said
  delta : ℤ → Said

-- what calls said, and the state and stores after them
pub record Observed : Type 0 where
  pub said : List Said
  pub after : Snapshot

abbrev pub say_made : Result State Refusal → Said
say_made m = number (made-response m).number

abbrev pub say_performed : Result Gated Refusal → Said
say_performed p = number (performed-response p).number

abbrev pub say_change : ℕ → Option ℤ → Said
say_change n None = number n
say_change n (Some d) = delta d

abbrev pub say_estimate : Result ℤ Refusal → Said
say_estimate e = say_change (change e).number (change e).values

abbrev pub made_state : Result State Refusal → State → State
made_state (Ok t) s = t
made_state (Err r) s = s

-- of a call that answers with a new state: after a refusal the state is the one before
abbrev pub made_result : Snapshot → Result State Refusal → List ℕ → List ℕ → Said × Snapshot
made_result h m left right =
    (say_made m, record { state = made_state m h.state; left = left; right = right })

abbrev pub acted : Act → Snapshot → Said × Snapshot
acted fresh h =
    let o = fresh_call h.state.width h.left in
    made_result h o.answer o.left h.right
acted (gate q g) h =
    let o = gate_call h.state q g h.left h.right in
    (say_performed o.answer, (gate_result h o).after)
acted (measure q v scale) h =
    let o = measure_call h.state q v scale h.left h.right in
    made_result h o.answer o.left o.right
acted (dense ws mark) h =
    let o = dense_call h.state.width ws mark h.left h.right in
    made_result h o.answer o.left o.right
acted (estimate-of q g i) h =
    (say_estimate (collapse_call h.state q g i h.left h.right), h)

abbrev pub added : Said → Observed → Observed
added s o = record { said = s ∷ o.said; after = o.after }

abbrev pub observe : List Act → Snapshot → Observed
observe [] h = record { said = []; after = h }
observe (a ∷ rest) h = let r = acted a h in added r.0 (observe rest r.1)

-- ---- the rows

pub record Row : Type 0 where
  pub start : Snapshot
  pub calls : List Act
  pub said : List Said
  pub after : Snapshot

abbrev pub real : ℕ → Complex
real p = record { re = of_bits binary64 p; im = of_bits binary64 0 }

-- s0, f0, s1, f1 by their patterns
abbrev pub real_gate : ℕ → ℕ → ℕ → ℕ → U4
real_gate s0 f0 s1 f1 = record { s0 = real s0; f0 = real f0; s1 = real s1; f1 = real f1 }

-- the patterns of some numbers
abbrev one : ℕ
one = 0x3ff0_0000_0000_0000

abbrev minus_one : ℕ
minus_one = 0xbff0_0000_0000_0000

abbrev two : ℕ
two = 0x4000_0000_0000_0000

-- 2^40, 1 − 2^40, 2 − 2^40
abbrev large : ℕ
large = 0x4270_0000_0000_0000

abbrev one_less : ℕ
one_less = 0xc26f_ffff_ffff_e000

abbrev two_less : ℕ
two_less = 0xc26f_ffff_ffff_c000

-- 1 + 2^-41, and 1 − 2^-41, which is 1 divided by it
abbrev over_one : ℕ
over_one = 0x3ff0_0000_0000_0800

abbrev under_one : ℕ
under_one = 0x3fef_ffff_ffff_f000

-- the gates 1 0 1 0, 1 1 −1 1 and 1 0 1 1
abbrev gate_a : U4
gate_a = real_gate one 0 one 0

abbrev pub gate_c : U4
gate_c = real_gate one one minus_one one

abbrev gate_d : U4
gate_d = real_gate one 0 one one

abbrev state_of : Side → ℕ → ℕ → Option ℕ → State
state_of m n0 n1 t = record { width = 1; front = m; n0 = n0; n1 = n1; tag = t }

abbrev pub snapshot : Side → ℕ → ℕ → Option ℕ → List ℕ → List ℕ → Snapshot
snapshot m n0 n1 t l r = record { state = state_of m n0 n1 t; left = l; right = r }

-- a store of two records and a stray word that nobody has written
abbrev pub blank : List ℕ
blank = 7 ∷ 7 ∷ 7 ∷ 7 ∷ 7 ∷ 7 ∷ 7 ∷ []

-- and what stands in it after one record, or two, with these keys and real parts
abbrev pub single : ℕ → ℕ → List ℕ
single k x = k ∷ x ∷ 0 ∷ 7 ∷ 7 ∷ 7 ∷ 7 ∷ []

abbrev double : ℕ → ℕ → ℕ → ℕ → List ℕ
double j x k y = j ∷ x ∷ 0 ∷ k ∷ y ∷ 0 ∷ 7 ∷ []

abbrev done : Said
done = number 0

abbrev unused : Snapshot
unused = snapshot Left 0 0 None blank blank

abbrev pub rows : List Row
rows =
    -- a: an unpaired entry gives two, zeros included
    record {
      start = unused;
      calls = fresh ∷ gate 0 gate_a ∷ [];
      said = done ∷ done ∷ [];
      after = snapshot Right 1 1 (Some 0) (single 0 one) (double 0 one 1 0);
    }
    -- b: again, and the zero is dropped
    ∷ record {
      start = unused;
      calls = fresh ∷ gate 0 gate_a ∷ gate 0 gate_a ∷ [];
      said = done ∷ done ∷ done ∷ [];
      after = snapshot Left 1 0 (Some 0) (single 0 one) (double 0 one 1 0);
    }
    -- c: two entries, and then one
    ∷ record {
      start = unused;
      calls = fresh ∷ gate 0 gate_c ∷ gate 0 gate_c ∷ [];
      said = done ∷ done ∷ done ∷ [];
      after = snapshot Left 1 0 (Some 0) (single 0 two) (double 0 one 1 one);
    }
    -- d: the sum 1 is dropped against 2^40, and the estimates differ by the entry that is asked
    ∷ record {
      start = snapshot Left 1 1 (Some 0) (double 0 large 1 one_less) blank;
      calls = estimate-of 0 gate_d 0 ∷ estimate-of 0 gate_d 1 ∷ gate 0 gate_d ∷ [];
      said = delta (negsuc 0) ∷ delta (pos 0) ∷ done ∷ [];
      after = snapshot Right 0 1 (Some 0) (double 0 large 1 one_less) (single 1 one_less);
    }
    -- e: the sum 2 is kept
    ∷ record {
      start = snapshot Left 1 1 (Some 0) (double 0 large 1 two_less) blank;
      calls = gate 0 gate_d ∷ [];
      said = done ∷ [];
      after = snapshot Right 1 1 (Some 0) (double 0 large 1 two_less) (double 0 two 1 two_less);
    }
    -- f: 2^-40 is large enough for a dense import, the float below it is not
    ∷ record {
      start = unused;
      calls = dense (0x3d70_0000_0000_0000 ∷ 0 ∷ 0x3d6f_ffff_ffff_ffff ∷ 0 ∷ []) Left ∷ [];
      said = done ∷ [];
      after = snapshot Left 1 0 None (single 0 0x3d70_0000_0000_0000) blank;
    }
    -- g: by the tag, a scale near 1 divides nothing; the second slot keeps its words
    ∷ record {
      start = snapshot Left 1 1 (Some 0) (double 0 one 1 one) blank;
      calls = measure 0 true (of_bits binary64 over_one) ∷ [];
      said = done ∷ [];
      after = snapshot Left 0 1 (Some 0) (double 1 one 1 one) blank;
    }
    -- h: untagged, the copy is divided
    ∷ record {
      start = snapshot Left 2 0 None (double 0 one 1 one) blank;
      calls = measure 0 true (of_bits binary64 over_one) ∷ [];
      said = done ∷ [];
      after = snapshot Right 1 0 None (double 0 one 1 one) (single 1 under_one);
    }
    -- j: 2 where the entry has no partner, at the last qubit too; 0 of an empty state
    ∷ record {
      start = unused;
      calls = fresh ∷ estimate-of 0 gate_c 0 ∷ estimate-of 63 gate_c 5 ∷ [];
      said = done ∷ delta (pos 2) ∷ delta (pos 2) ∷ [];
      after = snapshot Left 1 0 (Some 0) (single 0 one) blank;
    }
    ∷ record {
      start = unused;
      calls = estimate-of 0 gate_c 5 ∷ [];
      said = delta (pos 0) ∷ [];
      after = unused;
    }
    -- l: full
    ∷ record {
      start = snapshot Left 0 0 None blank (7 ∷ 7 ∷ 7 ∷ 7 ∷ []);
      calls = fresh ∷ gate 0 gate_c ∷ [];
      said = done ∷ number 9 ∷ [];
      after = snapshot Left 1 0 (Some 0) (single 0 one) (7 ∷ 7 ∷ 7 ∷ 7 ∷ []);
    }
    ∷ []

abbrev pub Holds : Row → Type 0
Holds r = observe r.calls r.start ≡ record { said = r.said; after = r.after }

-- ---- all of them

pub record Cases : Type 0 where
  pub table : All Holds rows
  -- j: of a fresh state 2, for any width, qubit of it, finite gate and index
  pub of-fresh : (n q : ℕ) (g : U4) (i : ℕ) (left right : List ℕ) (s : State)
      → (fresh_call n left).answer ≡ Ok s
      → q < 64 * n
      → finite_gate g ≡ true
      → collapse_call s q g i (fresh_call n left).left right ≡ Ok (pos 2)
  -- j: and 0 of an empty one, wherever no number applies
  pub of-empty : (s : State) (q : ℕ) (g : U4) (i : ℕ) (left right : List ℕ)
      → first (qubit_tests s (front_of s.front left right) q (finite_gate g) []) ≡ Ok tt
      → s.n0 + s.n1 ≡ 0
      → collapse_call s q g i left right ≡ Ok (pos 0)
