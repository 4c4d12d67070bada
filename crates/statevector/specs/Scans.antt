-- What a full and a quick pass over a part's records find, and what settles the order of two parts.
-- What the clauses of src/tests.rt cite. Assumes nothing.
use Rattle.std.specs.Ordering.{is_lt}
use Rattle.std.specs.Prelude.{◌≡◌, ℕ, ◌*◌, List, [], ◌∷◌, Bool, true, false, ◌&&◌, ◌||◌, leb, ltb, length, None, Ok, Option, Some}
use Rattle.std.specs.Bool.{beq}
use Rattle.keys.specs.Keys.{order}
use Rattle.keys.specs.Lists.{All}
use Rattle.merge.specs.Records.{key_of, record_bit, finite_record, moderate_record}
use Rattle.merge.specs.Sorting.{side}
use Rattle.statevector.specs.declared.State.{State}
use Rattle.statevector.specs.declared.tests.Ones.{Ones}
use Rattle.statevector.specs.declared.tests.Scan.{Scan}
use Rattle.statevector.specs.Refusals.{first}
use Rattle.statevector.specs.States.{part_of}
use Rattle.statevector.specs.Tests.{all, rises, meets, all_finite, record_rows}

-- a record is on side b of the tag's qubit; a tag that is no qubit of the keys asks nothing of it
abbrev pub on_tag_side : ℕ → Option ℕ → Bool → List ℕ → Bool
on_tag_side n None b r = true
on_tag_side n (Some q) b r = leb (64 * n) q || beq (record_bit n q r) b

-- a record is below the first of those after it, where there is one
abbrev pub below_next : ℕ → List ℕ → List (List ℕ) → Bool
below_next n r [] = true
below_next n r (s ∷ rs) = is_lt (order (key_of n r) (key_of n s))

-- what is found at one record, with those after it
unfoldable pub scan_one : ℕ → Option ℕ → Bool → List ℕ → List (List ℕ) → Scan
unfolding order finite_record
scan_one n tag b r rs = record { rises = below_next n r rs; sided = on_tag_side n tag b r; finite = finite_record n r }

-- and at all records of a part
unfoldable pub scan_of : ℕ → Option ℕ → Bool → List (List ℕ) → Scan
unfolding rises all_finite
scan_of n tag b rs = record { rises = rises n rs; sided = all (on_tag_side n tag b) rs; finite = all_finite n rs }

abbrev pub both_scans : Scan → Scan → Scan
both_scans x y = record { rises = x.rises && y.rises; sided = x.sided && y.sided; finite = x.finite && y.finite }

-- the tag's qubit is one of the keys', and the records are on their sides: then no key is in both
-- parts
abbrev pub settles : ℕ → Option ℕ → Bool → Bool
settles n None sided = false
settles n (Some q) sided = ltb q (64 * n) && sided

-- ---- the quick pass

-- all is well with one record, with those after it, and with all records of a part
abbrev pub sound_one : ℕ → Option ℕ → Bool → List ℕ → List (List ℕ) → Bool
sound_one n tag b r rs = below_next n r rs && (on_tag_side n tag b r && moderate_record n r)

unfoldable pub sound_part : ℕ → Option ℕ → Bool → List (List ℕ) → Bool
unfolding order moderate_record
sound_part n tag b [] = true
sound_part n tag b (r ∷ rs) = sound_one n tag b r rs && sound_part n tag b rs

-- two such parts are still no state's: the tag is 64 N or more, or without a tag a key is in both
abbrev pub mixed : ℕ → Option ℕ → List (List ℕ) → List (List ℕ) → Bool
mixed n None xs ys = meets n xs ys
mixed n (Some q) xs ys = leb (64 * n) q

-- what the quick passes say of a state where they find nothing
pub record QuickFine (s : State) (front : List ℕ) (q k0 k1 : ℕ) : Type 0 where
  pub fine : first (record_rows s front) ≡ Ok tt
  pub moderate : (b : Bool) → All (λ r. moderate_record s.width r ≡ true) (part_of b s front)
  pub ones0 : k0 ≡ length (side s.width q true (part_of false s front))
  pub ones1 : k1 ≡ length (side s.width q true (part_of true s front))

-- what they answer of a state
abbrev pub StateSeen : State → List ℕ → ℕ → Option Ones → Type 0
StateSeen s front q (Some ones) = QuickFine s front q ones.zero ones.one
StateSeen s front q None = Unit
