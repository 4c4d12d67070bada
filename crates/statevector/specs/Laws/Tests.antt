-- Which row of a table answers, and what is known of a state that its tests found fine. For the
-- proofs of the calls, and the layer above. Assumes nothing.
use Rattle.std.specs.Prelude.{◌≡◌, refl, ℕ, ◌+◌, ◌*◌, ◌/◌, ◌<◌, ◌≤◌, Bool, leb, length, Err, Ok}
use Rattle.std.proofs.Math.Path.{sym, ap}
use Rattle.std.proofs.Common.{◌∙◌, true≢false, le_trans, mul-le-mul_right, arith, leb-true, leb-false, le-leb}
use mathlib.Core.List.{List, [], ◌∷◌, ◌++◌, append_assoc, append-nil}
use Rattle.std.proofs.Math.Bool.{true, false, not, false≢true}
use Rattle.std.proofs.lemmas.Bool.{lt-leb, not-false}
use Rattle.keys.specs.Keys.{listed}
use Rattle.merge.specs.Laws.{width-range}
use Rattle.statevector.specs.declared.Refusal.{Refusal}
use Rattle.statevector.specs.declared.Refusal.TheVariants as no
use Rattle.statevector.specs.declared.State.{State}
use Rattle.statevector.specs.Refusals.{Test, applies, first, Tested}
use Rattle.statevector.specs.States.{front_of}
use Rattle.statevector.specs.Tests.{finite_row, qubit_row, too_many, unordered, wrong_side, not_finite, record_rows, head_rows, state_tests, Accepted, check_call, qubit_tests}
use Rattle.statevector.specs.Laws.Accepting.{Sound, room_of, accepted-sound}

-- ---- the first row that applies

-- without rows nothing is refused
pub first-none : first [] ≡ Ok tt
unfolding first
first-none = refl

-- no row applies: not this one, and none of the rest
pub fine-first : (b : Bool) (r : Refusal) (ts : List Test) → first ((b, r) ∷ ts) ≡ Ok tt → (b ≡ false) × (first ts ≡ Ok tt)
unfolding first
fine-first true r ts e = let z : ◌≡◌ {A = ℕ} 0 1 = cc in absurd (omega arith)
fine-first false r ts e = (refl, e)

pub first_fine : (b : Bool) (r : Refusal) (ts : List Test) → b ≡ false → first ts ≡ Ok tt → first ((b, r) ∷ ts) ≡ Ok tt
unfolding first
first_fine true r ts e f = absurd (true≢false e)
first_fine false r ts e f = f

-- a row that applies gives its number; one that doesn't leaves the rest
pub first-here : (b : Bool) (r : Refusal) (ts : List Test) → b ≡ true → first ((b, r) ∷ ts) ≡ Err r
unfolding first
first-here b r ts e = rw e

pub first-later : (b : Bool) (r : Refusal) (ts : List Test) → b ≡ false → first ((b, r) ∷ ts) ≡ first ts
unfolding first
first-later b r ts e = rw e

-- rows before others: where none of them applies the others decide, else they do
pub first-after : (ts us : List Test) → first ts ≡ Ok tt → first (ts ++ us) ≡ first us
unfolding first
first-after [] us e = refl
first-after (t ∷ ts) us e = go t.0 e (first-after ts us)
  where
    go : (b : Bool) → applies b t.1 (first ts) ≡ Ok tt → (first ts ≡ Ok tt → first (ts ++ us) ≡ first us) → applies b t.1 (first (ts ++ us)) ≡ first us
    go true e f = let z : ◌≡◌ {A = ℕ} 0 1 = cc in absurd (omega arith)
    go false e f = f e

pub first-before : (ts us : List Test) (r : Refusal) → first ts ≡ Err r → first (ts ++ us) ≡ Err r
unfolding first
first-before [] us r e = let z : ◌≡◌ {A = ℕ} 0 1 = cc in absurd (omega arith)
first-before (t ∷ ts) us r e = go t.0 e (first-before ts us r)
  where
    go : (b : Bool) → applies b t.1 (first ts) ≡ Err r → (first ts ≡ Err r → first (ts ++ us) ≡ Err r) → applies b t.1 (first (ts ++ us)) ≡ Err r
    go true e f = e
    go false e f = f e

-- the same by what the others give
first-same : (ts us vs : List Test) → first us ≡ first vs → first (ts ++ us) ≡ first (ts ++ vs)
unfolding first
first-same [] us vs e = e
first-same (t ∷ ts) us vs e = ap (applies t.0 t.1) (first-same ts us vs e)

-- none of some rows and of others applies: none of the first, and none of the second
pub fine-both : (ts us : List Test) → first (ts ++ us) ≡ Ok tt → (first ts ≡ Ok tt) × (first us ≡ Ok tt)
unfolding first
fine-both [] us e = (refl, e)
fine-both (t ∷ ts) us e = go t.0 e (fine-both ts us)
  where
    go : (b : Bool) → applies b t.1 (first (ts ++ us)) ≡ Ok tt → (first (ts ++ us) ≡ Ok tt → (first ts ≡ Ok tt) × (first us ≡ Ok tt))
        → (applies b t.1 (first ts) ≡ Ok tt) × (first us ≡ Ok tt)
    go true e f = let z : ◌≡◌ {A = ℕ} 0 1 = cc in absurd (omega arith)
    go false e f = f e

-- ---- a call's own rows

-- rows that give an answer
abbrev pub rows_of : Tested → List Test
rows_of (Ok _) = []
rows_of (Err r) = (true, r) ∷ []

pub rows-of : (t : Tested) → t ≡ first (rows_of t)
rows-of (Ok _) = sym first-none
rows-of (Err r) = sym (first-here true r [] refl)

-- the qubit's word is one of the key's, or it is not
pub word-inside : (n q : ℕ) → q / 64 < n → leb (64 * n) q ≡ false
word-inside n q h = lt-leb (64 * n) q (omega arith)

pub word-outside : (n q : ℕ) → n ≤ q / 64 → leb (64 * n) q ≡ true
word-outside n q h = le-leb (64 * n) q (omega arith)

pub word_test : (n q : ℕ) → leb n (q / 64) ≡ leb (64 * n) q
word_test n q = go (leb n (q / 64)) refl
  where
    go : (t : Bool) → leb n (q / 64) ≡ t → t ≡ leb (64 * n) q
    go true e = sym (word-outside n q (leb-true n (q / 64) e))
    go false e = sym (word-inside n q (leb-false n (q / 64) e))

module _ (s : State) (q : ℕ) where
  pub qubit-within : first (qubit_row s q ∷ []) ≡ Ok tt → q < 64 * s.width
  qubit-within e = leb-false (64 * s.width) q (fine-first (leb (64 * s.width) q) no.Qubit [] e).0

  pub within-qubit : q < 64 * s.width → first (qubit_row s q ∷ []) ≡ Ok tt
  within-qubit h = first_fine (leb (64 * s.width) q) no.Qubit [] (lt-leb (64 * s.width) q h) first-none

pub finite-row : (b : Bool) → first (finite_row b ∷ []) ≡ Ok tt → b ≡ true
finite-row b e = not-false b (fine-first (not b) no.NotFinite [] e).0

pub row-finite : (b : Bool) → b ≡ true → first (finite_row b ∷ []) ≡ Ok tt
row-finite b e = first_fine (not b) no.NotFinite [] (ap not e) first-none

-- ---- the rows that read no record, and those that do

-- what is known where the first find nothing
pub record HeadFine (s : State) (front : List ℕ) (named : List Test) : Type 0 where
  pub some : 0 < s.width
  pub few : s.width < 63
  pub names : first named ≡ Ok tt
  pub room : (s.n0 + s.n1) * (s.width + 2) ≤ length front

module _ (s : State) (front : List ℕ) (named : List Test) where
  head_rows_lem : first (head_rows s front named) ≡ Ok tt → (listed s.width ≡ true) × (first named ≡ Ok tt) × (too_many s front ≡ false)
  unfolding head_rows
  head_rows_lem e =
      let a = fine-first (not (listed s.width)) no.Width _ e in
      let b = fine-both named ((too_many s front, no.Count) ∷ []) a.1 in
      (not-false (listed s.width) a.0, b.0, (fine-first (too_many s front) no.Count [] b.1).0)

  rows_head : listed s.width ≡ true → first named ≡ Ok tt → too_many s front ≡ false → first (head_rows s front named) ≡ Ok tt
  unfolding head_rows
  rows_head l m k =
      first_fine (not (listed s.width)) no.Width _ (ap not l)
      (first-after named ((too_many s front, no.Count) ∷ []) m ∙ first_fine (too_many s front) no.Count [] k first-none)

  pub head-facts : first (head_rows s front named) ≡ Ok tt → HeadFine s front named
  head-facts e =
      let h = head_rows_lem e in
      let w = width-range s.width h.0 in
      record { some = w.0; few = w.1; names = h.1; room = room_of s front h.2 }

  module _ (brought rest : List Test) where
    -- they decide, or those that read the records do
    pub head-fine : first (head_rows s front named) ≡ Ok tt → first (state_tests s front named brought rest) ≡ first (record_rows s front ++ (brought ++ rest))
    unfolding state_tests
    head-fine e = first-after (head_rows s front named) (record_rows s front ++ (brought ++ rest)) e

    pub head-refused : (r : Refusal) → first (head_rows s front named) ≡ Err r → first (state_tests s front named brought rest) ≡ Err r
    unfolding state_tests
    head-refused r e = first-before (head_rows s front named) (record_rows s front ++ (brought ++ rest)) r e

-- ---- the table of a call

module _ (s : State) (front : List ℕ) where
  record-rows : first (record_rows s front) ≡ Ok tt → (unordered s front ≡ false) × (wrong_side s front ≡ false) × (not_finite s front ≡ false)
  unfolding record_rows
  record-rows e =
      let b = fine-first (unordered s front) no.Order _ e in
      let c = fine-first (wrong_side s front) no.WrongSide _ b.1 in
      (b.0, c.0, (fine-first (not_finite s front) no.NotFinite [] c.1).0)

  rows-record : Accepted s front → first (record_rows s front) ≡ Ok tt
  unfolding record_rows
  rows-record a =
      first_fine (unordered s front) no.Order _ a.ordered
      (first_fine (wrong_side s front) no.WrongSide _ a.sided (first_fine (not_finite s front) no.NotFinite [] a.finite first-none))

  module _ (named brought : List Test) where
    -- rows that refuse nothing accept the state, and none of the call's own applies; and the other
    -- way round
    pub fine-accepts : (rest : List Test) → first (state_tests s front named brought rest) ≡ Ok tt
        → Accepted s front × (first named ≡ Ok tt) × (first brought ≡ Ok tt) × (first rest ≡ Ok tt)
    unfolding state_tests
    fine-accepts rest e =
        let a = fine-both (head_rows s front named) (record_rows s front ++ (brought ++ rest)) e in
        let b = fine-both (record_rows s front) (brought ++ rest) a.1 in
        let d = fine-both brought rest b.1 in
        let h = head_rows_lem s front named a.0 in
        let k = record-rows b.0 in
        (record { width = h.0; counted = h.2; ordered = k.0; sided = k.1; finite = k.2 }, h.1, d.0, d.1)

    pub accepts-fine : (rest : List Test) → Accepted s front → first named ≡ Ok tt → first brought ≡ Ok tt → first rest ≡ Ok tt
        → first (state_tests s front named brought rest) ≡ Ok tt
    unfolding state_tests
    accepts-fine rest a m b e =
        first-after (head_rows s front named) (record_rows s front ++ (brought ++ rest)) (rows_head s front named a.width m a.counted)
        ∙ first-after (record_rows s front) (brought ++ rest) (rows-record a)
        ∙ first-after brought rest b
        ∙ e

    -- the rows before the rest decide, or the rest does
    tests-split : (rest : List Test) → first (state_tests s front named brought rest) ≡ first (state_tests s front named brought [] ++ rest)
    unfolding state_tests
    tests-split rest = ap first (sym (simp (append_assoc, append-nil)))

    pub tests-rest : (rest : List Test) → first (state_tests s front named brought []) ≡ Ok tt → first (state_tests s front named brought rest) ≡ first rest
    tests-rest rest e = tests-split rest ∙ first-after (state_tests s front named brought []) rest e

    pub tests-refused : (rest : List Test) (r : Refusal) → first (state_tests s front named brought []) ≡ Err r → first (state_tests s front named brought rest) ≡ Err r
    tests-refused rest r e = tests-split rest ∙ first-before (state_tests s front named brought []) rest r e

-- of a call that names a qubit and brings floats
module _ (s : State) (front : List ℕ) (q : ℕ) (is_finite : Bool) (rest : List Test) where
  pub qubit-accepts : first (qubit_tests s front q is_finite rest) ≡ Ok tt → Accepted s front × (q < 64 * s.width) × (is_finite ≡ true) × (first rest ≡ Ok tt)
  qubit-accepts e =
      let f = fine-accepts s front (qubit_row s q ∷ []) (finite_row is_finite ∷ []) rest e in
      (f.0, qubit-within s q f.1, finite-row is_finite f.2, f.3)

  pub accepts-qubit : Accepted s front → q < 64 * s.width → is_finite ≡ true → first rest ≡ Ok tt → first (qubit_tests s front q is_finite rest) ≡ Ok tt
  accepts-qubit a w f e = accepts-fine s front (qubit_row s q ∷ []) (finite_row is_finite ∷ []) rest a (within-qubit s q w) (row-finite is_finite f) e

  pub qubit-rest : first (qubit_tests s front q is_finite []) ≡ Ok tt → first (qubit_tests s front q is_finite rest) ≡ first rest
  qubit-rest = tests-rest s front (qubit_row s q ∷ []) (finite_row is_finite ∷ []) rest

  pub qubit-refused : (r : Refusal) → first (qubit_tests s front q is_finite []) ≡ Err r → first (qubit_tests s front q is_finite rest) ≡ Err r
  qubit-refused = tests-refused s front (qubit_row s q ∷ []) (finite_row is_finite ∷ []) rest

-- a check finds an accepted state fine
pub accepted-check : (s : State) (left right : List ℕ) → Accepted s (front_of s.front left right) → check_call s left right ≡ Ok tt
unfolding check_call
accepted-check s left right a = accepts-fine s (front_of s.front left right) [] [] [] a first-none first-none first-none

-- so a state that its tests find fine is sound
pub fine-sound : (s : State) (front : List ℕ) (named brought rest : List Test) → first (state_tests s front named brought rest) ≡ Ok tt → Sound s front
fine-sound s front named brought rest e = accepted-sound s front (fine-accepts s front named brought rest e).0

-- part 0's records fit too
pub room-first : (s : State) (front : List ℕ) → Sound s front → s.n0 * (s.width + 2) ≤ length front
room-first s front h = let l : s.n0 ≤ s.n0 + s.n1 = omega arith in le_trans (mul-le-mul_right (s.width + 2) l) h.room

-- ---- what may not be finite beside the amplitudes matters only by that

-- where it isn't, the tests refuse, with a number that depends neither on it nor on the rows after
-- it
module _ (s : State) (front : List ℕ) (named : List Test) where
  unfoldable pub not_finite_tested : Tested
  unfolding state_tests
  not_finite_tested = first (state_tests s front named (finite_row false ∷ []) [])

  not-finite-not-fine : not_finite_tested ≡ Ok tt → ⊥
  unfolding not_finite_tested
  not-finite-not-fine e = false≢true (finite-row false (fine-accepts s front named (finite_row false ∷ []) [] e).2)

  pub not-finite-tests : (b : Bool) (rest : List Test) → b ≡ false → first (state_tests s front named (finite_row b ∷ []) rest) ≡ not_finite_tested
  unfolding not_finite_tested state_tests
  not-finite-tests b rest e =
      first-same (head_rows s front named) _ _
      (first-same (record_rows s front) _ _ (first-here (not b) no.NotFinite rest (ap not e) ∙ sym (first-here true no.NotFinite [] refl)))

  -- so two of them are refused alike
  pub not-finite-alike : {A : Type 0} (x y : A) → ((r : Refusal) → not_finite_tested ≡ Err r → x ≡ y) → x ≡ y
  not-finite-alike x y h = go not_finite_tested refl
    where
      go : (t : Tested) → not_finite_tested ≡ t → x ≡ y
      go (Ok _) e = absurd (not-finite-not-fine e)
      go (Err r) e = h r e
