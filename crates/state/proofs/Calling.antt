-- What `fresh`, `lookup` and `export` answer, by what they find. For the proofs of the functions of
-- src/calls.rt. Assumes nothing.
use Rattle.std.specs.Prelude.{Err, None, Ok, Option, Result, Some}
use mathlib.Core.Path.{◌≡◌, refl, sym, ap, ◌∙◌}
use Prim.Native.Nat.{ℕ, ◌+◌, ◌*◌, ◌<◌, ◌≤◌}
use native.Mathlib.Nat.{div-eq_of_lt, one-mul, zero-add}
use native.Mathlib.Omega.{arith}
use mathlib.Core.List.{List, [], ◌∷◌}
use mathlib.Core.Bool.{Bool, true, false, not, true≢false, false≢true}
use Rattle.std.specs.Result.{is_err}
use borrow.Author.Tests.{eq-eqb, ne_eqb}
use lib.Dec.{eqb}
use lib.Ieee.{to_bits}
use lib.ListN.{length, set, take}
use lib.Seq.{sets}
use Rattle.amplitudes.specs.declared.Complex.{Complex}
use Rattle.keys.specs.Keys.{listed, index_key}
use Rattle.merge.specs.Records.{capacity, entries, at}
use Rattle.merge.specs.Laws.{capacity-is, room-capacity, or_else, at-append, entries-append, length-index, entry-sets}
use Rattle.statevector.specs.declared.Refusal.{Refusal}
use Rattle.statevector.specs.declared.Refusal.TheVariants as no
use Rattle.statevector.specs.declared.Side.TheVariants.{Left}
use Rattle.statevector.specs.declared.State.{State}
use Rattle.statevector.specs.Refusals.{first, if_fine, Tested}
use Rattle.statevector.specs.States.{front_of, part_of, entries_of}
use Rattle.statevector.specs.Tests.{state_tests, check_call}
use Rattle.statevector.specs.Laws.{first-none, first-here, first-later, tests-rest, tests-refused}
use Rattle.state.specs.Laws.{fresh_by, lookup-response, premeasure-response}
use Rattle.state.specs.Fresh.{LeftEnding, fresh_state, fresh_record, fresh_tests, fresh_call, one}
use Rattle.state.specs.Lookup.{lookup_tests, lookup_in, export_in}

-- ---- a fresh state

module _ (n : ℕ) (left : List ℕ) where
  by_tests : (t : Tested) → first (fresh_tests n left) ≡ t → fresh_by n left t ≡ fresh_call n left
  unfolding fresh_call
  by_tests t e = ap (fresh_by n left) (sym e)

  pub fresh-width : listed n ≡ false → ◌≡◌ {A = LeftEnding} (record { answer = Err no.Width; left = left }) (fresh_call n left)
  unfolding fresh_tests
  fresh-width e = by_tests (Err no.Width) (first-here (not (listed n)) no.Width _ (ap not e))

  full-row : listed n ≡ true → first (fresh_tests n left) ≡ first ((eqb (capacity n left) 0, no.Full) ∷ [])
  unfolding fresh_tests
  full-row l = first-later (not (listed n)) no.Width _ (ap not l)

  pub fresh-full : listed n ≡ true → length left ≤ n + 1 → ◌≡◌ {A = LeftEnding} (record { answer = Err no.Full; left = left }) (fresh_call n left)
  fresh-full l h =
      by_tests (Err no.Full)
      (full-row l ∙ first-here (eqb (capacity n left) 0) no.Full [] (eq-eqb (capacity n left) 0 (capacity-is n left ∙ div-eq_of_lt {n = length left} {m = n + 2} (omega arith))))

  room_row : listed n ≡ true → n + 1 < length left → first (fresh_tests n left) ≡ Ok tt
  room_row l h =
      let k = room-capacity n 1 left (rw one-mul (omega arith)) in
      full-row l ∙ first-later (eqb (capacity n left) 0) no.Full [] (ne_eqb (capacity n left) 0 (λ e. omega arith)) ∙ first-none

  -- the key, and then two patterns
  fresh-words : (d : List ℕ) → d ≡ sets left 0 (index_key n 0) → set (set d n 0x3ff0_0000_0000_0000) (n + 1) 0 ≡ sets left 0 (fresh_record n)
  unfolding fresh_record to_bits
  fresh-words d e = rw (zero-add n) at (entry-sets left d (record { key = index_key n 0; amp = one }) 0 n 0x3ff0_0000_0000_0000 0 e (length-index n 0) refl refl)

  pub fresh-done : listed n ≡ true → n + 1 < length left → (d : List ℕ) → d ≡ sets left 0 (index_key n 0)
      → ◌≡◌ {A = LeftEnding} (record { answer = Ok (record { width = n; front = Left; n0 = 1; n1 = 0; tag = Some 0 }); left = set (set d n 0x3ff0_0000_0000_0000) (n + 1) 0 }) (fresh_call n left)
  unfolding fresh_state
  fresh-done l h d e =
      ap (λ (ws : List ℕ). record { answer = Ok (fresh_state n); left = ws }) (fresh-words d e) ∙ by_tests (Ok tt) (room_row l h)

-- ---- a lookup

module _ (s : State) (front key : List ℕ) where
  -- the state's own tests
  abbrev before : Tested
  before = first (state_tests s front [] [] [])

  -- what is at the key
  abbrev here : Option Complex
  here = at key (entries_of s front)

  by-lookup : (t : Tested) → first (lookup_tests s front key) ≡ t → if_fine {A = Result (Option Complex) Refusal} t (Ok here) (λ r. Err r) ≡ lookup_in s key front
  unfolding lookup_in
  by-lookup t e = ap (λ (t : Tested). if_fine {A = Result (Option Complex) Refusal} t (Ok here) (λ r. Err r)) (sym e)

  pub lookup-refused : (r : Refusal) → before ≡ Err r → Err r ≡ lookup_in s key front
  unfolding lookup_tests
  lookup-refused r e = by-lookup (Err r) (tests-refused s front [] [] _ r e)

  pub lookup-length : before ≡ Ok tt → (length key ≡ s.width → ⊥) → Err no.Length ≡ lookup_in s key front
  unfolding lookup_tests
  lookup-length e h =
      by-lookup (Err no.Length)
      (tests-rest s front [] [] _ e ∙ first-here (not (eqb (length key) s.width)) no.Length [] (ap not (ne_eqb (length key) s.width h)))

  pub lookup-fine : before ≡ Ok tt → length key ≡ s.width → Ok here ≡ lookup_in s key front
  unfolding lookup_tests
  lookup-fine e h =
      by-lookup (Ok tt)
      (tests-rest s front [] [] _ e
      ∙ first-later (not (eqb (length key) s.width)) no.Length [] (ap not (eq-eqb (length key) s.width h))
      ∙ first-none)

  -- in part 0, or else in part 1
  abbrev pub in_part : Bool → Option Complex
  in_part b = at key (entries s.width (part_of b s front))

  both-parts : here ≡ or_else (in_part false) (in_part true)
  both-parts = ap (at key) (entries-append s.width (part_of false s front) (part_of true s front)) ∙ at-append key (entries s.width (part_of false s front)) (entries s.width (part_of true s front))

  pub found_first : (a : Complex) → Some a ≡ in_part false → Some a ≡ here
  found_first a e = sym (both-parts ∙ ap (λ (m : Option Complex). or_else m (in_part true)) (sym e))

  pub found-second : None ≡ in_part false → in_part true ≡ here
  found-second e = sym (both-parts ∙ ap (λ (m : Option Complex). or_else m (in_part true)) (sym e))

-- ---- an export

module _ (s : State) (front : List ℕ) where
  abbrev pub Tests : Tested
  Tests = first (state_tests s front [] [] [])

  -- by what the tests gave
  pub export-refused : (t : Tested) → t ≡ Tests → true ≡ is_err t → [] ≡ export_in s front
  unfolding export_in
  export-refused (Ok x) e h = absurd (true≢false h)
  export-refused (Err r) e h = ap (λ (t : Tested). if_fine t (take ((s.n0 + s.n1) * (s.width + 2)) front) (λ r. [])) e

  pub tests-fine : (t : Tested) → t ≡ Tests → false ≡ is_err t → Tests ≡ Ok tt
  tests-fine (Ok tt) e h = sym e
  tests-fine (Err r) e h = absurd (false≢true h)

  pub export-fine : Tests ≡ Ok tt → take ((s.n0 + s.n1) * (s.width + 2)) front ≡ export_in s front
  unfolding export_in
  export-fine e = ap (λ (t : Tested). if_fine t (take ((s.n0 + s.n1) * (s.width + 2)) front) (λ r. [])) (sym e)

-- ---- by the front mark

pub check-at : (s : State) (left right : List ℕ) → first (state_tests s (front_of s.front left right) [] [] []) ≡ check_call s left right
unfolding check_call
check-at s left right = refl

-- the answers by their tables
pub ruleset responses = (lookup-response, premeasure-response)
