-- Demand 3, for a reader who must believe it: what the exact table is, and what the one theorem
-- says of it (SPECIFICATION 11). A call is the very definition with which
-- its contract equates the code. `Theorem` has the proof. Assumes nothing.
use Rattle.statevector.specs.declared.Refusal.{Refusal}
use Rattle.gates.specs.declared.Gated.{Gated}
use Rattle.std.specs.Prelude.{ℕ, ◌^◌, ◌≡◌, List, [], ◌∷◌, Bool, true, false, ℤ, pos, ◌+ℤ◌, ◌*ℤ◌, Err, None, Ok, Option, Result, Some}
use Rattle.algebra.specs.Gate.{Gauss, Gate, ◌·◌, ◌⊕◌, zero_g, squared, column0, Weighted}
use Rattle.algebra.specs.Ring.{ints}
use Rattle.amplitudes.specs.declared.Complex.{Complex}
use Rattle.amplitudes.specs.declared.U4.{U4}
use Rattle.amplitudes.specs.Numbers.{gauss, gauss_gate, WholeC, Small}
use Rattle.keys.specs.Keys.{bit_at, clear, toggle, Words, IsKey}
use Rattle.keys.specs.Lists.{All}
use Rattle.merge.specs.Records.{Entry, at}
use Rattle.statevector.specs.declared.State.{State}
use Rattle.gates.specs.Gate.{gate_call}
use Rattle.statevector.specs.Endings.{Ending}
use Rattle.statevector.specs.States.{front_of, entries_of}
use Rattle.statevector.specs.Tests.{Accepted}

-- ---- a state with its stores, and calls on it

-- a state and the words of both its stores
pub record Snapshot : Type 0 where
  pub state : State
  pub left : List ℕ
  pub right : List ℕ

abbrev pub front_words : Snapshot → List ℕ
front_words h = front_of h.state.front h.left h.right

-- the first n0 + n1 front records
abbrev pub front_entries : Snapshot → List Entry
front_entries h = entries_of h.state (front_words h)

-- a call of which the table has an exact effect
pub data Call : Type 0 where
  gate : ℕ → U4 → Call

-- what any call comes to: whether it was refused, and the state and stores after it
pub record Outcome : Type 0 where
  pub refused : Bool
  pub after : Snapshot

-- how the answer of a gate call is read: a refusal leaves the state as it was
abbrev pub gate_refused : Result Gated Refusal → Bool
gate_refused (Ok d) = false
gate_refused (Err r) = true

abbrev pub gate_state : State → Result Gated Refusal → State
gate_state s (Ok d) = d.state
gate_state s (Err r) = s

abbrev pub gate_result : Snapshot → Ending (Result Gated Refusal) → Outcome
gate_result h o =
    record {
      refused = gate_refused o.answer;
      after = record { state = gate_state h.state o.answer; left = o.left; right = o.right };
    }

-- each call by its own definition
abbrev pub result_of : Call → Snapshot → Outcome
result_of (gate q g) h = gate_result h (gate_call h.state q g h.left h.right)

-- calls one after the other, each with state and stores as the last one left them
unfoldable pub after : List Call → Snapshot → Snapshot
after [] h = h
after (c ∷ cs) h = after cs (result_of c h).after

-- ---- the table

-- two whole numbers at every key of `width` words, and the exact sum of their squares
pub record Table : Type 0 where
  pub width : ℕ
  pub at : List ℕ → Gauss
  pub sum : ℤ

-- the parts of what stands at a key, read as numbers; where nothing stands, 0 and 0
abbrev pub numbers_of : Option Complex → Gauss
numbers_of None = zero_g
numbers_of (Some a) = gauss a

-- what the front records give at a key
abbrev pub numbers_at : Snapshot → List ℕ → Gauss
numbers_at h k = numbers_of (at k (front_entries h))

-- re·re + im·im of all records, without rounding
unfoldable pub exact_sum : List Entry → ℤ
exact_sum [] = pos 0
exact_sum (e ∷ es) = squared ints (gauss e.amp) +ℤ exact_sum es

-- at the start: what the front records say of each key, either zero as 0
unfoldable pub start : Snapshot → Table
start h =
    record {
      width = h.state.width;
      at = numbers_at h;
      sum = exact_sum (front_entries h);
    }

-- after a gate: s0·x + f1·y at the clear key (b false), f0·x + s1·y at the set one (b true)
abbrev pub new_numbers : Gate ℤ → Bool → Gauss → Gauss → Gauss
new_numbers g false x y = g.s0 · x ⊕ g.f1 · y
new_numbers g true x y = g.f0 · x ⊕ g.s1 · y

-- it takes every two keys that differ only in bit q, x at the clear one and y at the set one
abbrev pub gate_numbers : ℕ → Gate ℤ → (List ℕ → Gauss) → List ℕ → Gauss
gate_numbers q g t k = new_numbers g (bit_at q k) (t (clear q k)) (t (toggle q (clear q k)))

-- what a call multiplies the exact sum by: of a gate, the squared length of its first column
unfoldable pub weight : Call → ℤ
weight (gate q g) = column0 ints (gauss_gate g)

-- an accepted call
unfoldable pub effect : Call → Table → Table
effect (gate q g) t =
    record {
      width = t.width;
      at = gate_numbers q (gauss_gate g) t.at;
      sum = t.sum *ℤ weight (gate q g);
    }

-- ---- what the table is fed: each call, and whether it was refused

pub record Logged : Type 0 where
  pub call : Call
  pub refused : Bool

unfoldable pub log : List Call → Snapshot → List Logged
log [] h = []
log (c ∷ cs) h = record { call = c; refused = (result_of c h).refused } ∷ log cs (result_of c h).after

-- a refused call (true) changes nothing
abbrev pub effect_unless : Bool → Call → Table → Table
effect_unless true c t = t
effect_unless false c t = effect c t

unfoldable pub table_after : List Logged → Table → Table
table_after [] t = t
table_after (l ∷ ls) t = table_after ls (effect_unless l.refused l.call t)

abbrev pub weight_unless : Bool → Call → ℤ
weight_unless true c = pos 1
weight_unless false c = weight c

-- the product of the weights of the accepted calls
unfoldable pub weights : List Logged → ℤ
weights [] = pos 1
weights (l ∷ ls) = weight_unless l.refused l.call *ℤ weights ls

-- ---- the premises, for each accepted gate

-- whole parts of size at most 16
abbrev pub SmallParts : Complex → Type 0
SmallParts a = WholeC a × Small 16 (gauss a)

-- a gate that the theorem covers: such parts, and orthogonal columns of one squared length
pub record Admissible (g : U4) : Type 0 where
  pub s0 : SmallParts g.s0
  pub f0 : SmallParts g.f0
  pub s1 : SmallParts g.s1
  pub f1 : SmallParts g.f1
  pub weighted : Weighted (column0 ints (gauss_gate g)) (gauss_gate g)

-- before it no part in the table exceeds 2^34
abbrev pub Limited : Table → Type 0
Limited t = (k : List ℕ) → IsKey t.width k → Small (2 ^ 34) (t.at k)

abbrev pub Premise : Call → Table → Type 0
Premise (gate q g) t = Admissible g × Limited t

-- a refused call has none
abbrev pub PremiseUnless : Bool → Call → Table → Type 0
PremiseUnless true c t = Unit
PremiseUnless false c t = Premise c t

unfoldable pub Premises : List Logged → Table → Type 0
Premises [] t = Unit
Premises (l ∷ ls) t =
    PremiseUnless l.refused l.call t
    × Premises ls (effect_unless l.refused l.call t)

-- ---- the statement

-- an accepted state, in stores whose words are below 2^64, which is what their type says
pub record AcceptedSnapshot (h : Snapshot) : Type 0 where
  pub left : Words h.left
  pub right : Words h.right
  pub accepted : Accepted h.state (front_words h)

abbrev pub AllWhole : List Entry → Type 0
AllWhole es = All (λ e. WholeC e.amp) es

-- the front records are whole, they give the table's numbers at every key of its width, and their
-- exact sum is the table's
pub record Agree (h : Snapshot) (t : Table) : Type 0 where
  pub width : h.state.width ≡ t.width
  pub whole : AllWhole (front_entries h)
  pub numbers : (k : List ℕ) → IsKey t.width k → numbers_at h k ≡ t.at k
  pub sum : exact_sum (front_entries h) ≡ t.sum

-- what is claimed where calls with this log leave o of h: o agrees with the table, and its exact
-- sum is that of h times the weights
pub record FollowsTable (h : Snapshot) (ls : List Logged) (o : Snapshot) : Type 0 where
  pub agree : Agree o (table_after ls (start h))
  pub sum : exact_sum (front_entries o) ≡ exact_sum (front_entries h) *ℤ weights ls

-- of every list of calls, refused ones among them, on an accepted state with whole parts
unfoldable pub ExactTable : Type 0
ExactTable =
    (calls : List Call) (h : Snapshot)
    → AcceptedSnapshot h
    → AllWhole (front_entries h)
    → Premises (log calls h) (start h)
    → FollowsTable h (log calls h) (after calls h)
