-- What is said of an item, and how items are counted. What the clauses of src/ cite. Assumes
-- nothing.
use Rattle.std.specs.Prelude.{◌≡◌, refl, ℕ, ◌+◌, Bool, true, false}
use Rattle.std.proofs.Common.{sym, ap, ◌∙◌, subst}
use Rattle.replay.specs.declared.Count.{Count}
use Rattle.replay.specs.declared.Seen.{Seen}
use Rattle.replay.specs.declared.Seen.TheVariants as seen

abbrev pub seen_of : Bool → Seen
seen_of true = seen.Same
seen_of false = seen.Different

-- what may be said of an item, by whether it holds; that it is not whole is free
abbrev pub ItemVerdict : Seen → Bool → Type 0
ItemVerdict seen.Same b = b ≡ true
ItemVerdict seen.Different b = b ≡ false
ItemVerdict seen.Broken b = Unit

pub verdict-of : {r : Seen} {h b : Bool} → r ≡ seen_of h → h ≡ b → ItemVerdict r b
verdict-of {b = b} e f = subst (λ (r : Seen). ItemVerdict r b) (sym (e ∙ ap seen_of f)) (go b)
  where
    go : (b : Bool) → ItemVerdict (seen_of b) b
    go true = refl
    go false = refl

-- all but one that is as the calls give it count as a difference
abbrev pub differing : Seen → ℕ
differing seen.Same = 0
differing seen.Different = 1
differing seen.Broken = 1

abbrev pub tally_one : Count → Seen → Count
tally_one c s = record { items = c.items + 1; differ = c.differ + differing s }
