-- What the passes over a state's records find, and what the rows that read the records answer by
-- it. For the proofs of the tests, and of calls whose own pass tests records as it meets them.
-- Assumes nothing.
use Rattle.std.specs.Prelude.{is_some, ◌≡◌, ℕ, ◌*◌, Bool, true, false, not, ◌||◌, leb, ltb, length, Err, None, Option, Some}
use Rattle.std.proofs.Math.Path.{refl, sym, ap₂}
use Rattle.std.proofs.Common.{ap, ◌∙◌, ltb-true, ltb-false, lt-ltb, leb-false, le-leb}
use mathlib.Core.List.{List, [], ◌∷◌}
use Rattle.std.proofs.Math.Bool.{◌&&◌}
use Rattle.std.specs.Bool.{beq}
use Rattle.std.proofs.lemmas.Bool.{false≢true, lt-leb}
use Rattle.keys.specs.Keys.{bit_at}
use Rattle.keys.specs.Lists.{All}
use Rattle.merge.specs.Records.{record_bit, moderate_record}
use Rattle.merge.specs.Laws.{moderate-record, all_map, and-true-l, and_true_r}
use Rattle.merge.specs.Sorting.{side}
use Rattle.statevector.specs.declared.Refusal.TheVariants as no
use Rattle.statevector.specs.declared.State.{State}
use Rattle.statevector.specs.declared.tests.Scan.{Scan}
use Rattle.statevector.specs.Refusals.{first}
use Rattle.statevector.specs.States.{part_of}
use Rattle.statevector.specs.Tests.{finite_row, all, rises, meets, all_on_side, unordered, side_off, wrong_side, not_finite, record_rows}
use Rattle.statevector.specs.Laws.Tests.{row-finite, first-here, first-later}
use Rattle.statevector.specs.Laws.Accepting.{apart-meets, on-side, finite-all}
use Rattle.statevector.specs.Scans.{on_tag_side, below_next, scan_of, both_scans, settles, sound_one, sound_part, mixed, QuickFine}

-- findings that agree in each test
pub scan-path : {a b c d e f : Bool} → a ≡ d → b ≡ e → c ≡ f → ◌≡◌ {A = Scan} (record { rises = a; sided = b; finite = c }) (record { rises = d; sided = e; finite = f })
scan-path p q r = λ i. record { rises = p i; sided = q i; finite = r i }

-- what is known of a part where all is well
module _ (n : ℕ) (tag : Option ℕ) (b : Bool) where
  sound-first : (r : List ℕ) (rs : List (List ℕ)) → sound_part n tag b (r ∷ rs) ≡ true → sound_one n tag b r rs ≡ true
  unfolding sound_part
  sound-first r rs e = and-true-l (sound_one n tag b r rs) (sound_part n tag b rs) e

  sound-rest : (r : List ℕ) (rs : List (List ℕ)) → sound_part n tag b (r ∷ rs) ≡ true → sound_part n tag b rs ≡ true
  unfolding sound_part
  sound-rest r rs e = and_true_r (sound_one n tag b r rs) (sound_part n tag b rs) e

  -- one record's side and size
  sound-last : (r : List ℕ) (rs : List (List ℕ)) → sound_part n tag b (r ∷ rs) ≡ true → (on_tag_side n tag b r && moderate_record n r) ≡ true
  sound-last r rs e = and_true_r (below_next n r rs) (on_tag_side n tag b r && moderate_record n r) (sound-first r rs e)

  pub sound-rises : (rs : List (List ℕ)) → sound_part n tag b rs ≡ true → rises n rs ≡ true
  unfolding rises
  sound-rises [] e = refl
  sound-rises (r ∷ []) e = refl
  sound-rises (r ∷ s ∷ rs) e =
      ap₂ ◌&&◌ (and-true-l (below_next n r (s ∷ rs)) (on_tag_side n tag b r && moderate_record n r) (sound-first r (s ∷ rs) e)) (sound-rises (s ∷ rs) (sound-rest r (s ∷ rs) e))

  sound-sided : (rs : List (List ℕ)) → sound_part n tag b rs ≡ true → all (on_tag_side n tag b) rs ≡ true
  sound-sided [] e = refl
  sound-sided (r ∷ rs) e = ap₂ ◌&&◌ (and-true-l (on_tag_side n tag b r) (moderate_record n r) (sound-last r rs e)) (sound-sided rs (sound-rest r rs e))

  pub sound-moderate : (rs : List (List ℕ)) → sound_part n tag b rs ≡ true → All (λ r. moderate_record n r ≡ true) rs
  sound-moderate [] e = tt
  sound-moderate (r ∷ rs) e = (and_true_r (on_tag_side n tag b r) (moderate_record n r) (sound-last r rs e), sound-moderate rs (sound-rest r rs e))

  -- the full pass finds nothing either
  pub sound-scan : (rs : List (List ℕ)) → sound_part n tag b rs ≡ true → scan_of n tag b rs ≡ record { rises = true; sided = true; finite = true }
  unfolding scan_of
  sound-scan rs e = scan-path (sound-rises rs e) (sound-sided rs e) (finite-all n rs (all_map rs (λ r m. moderate-record n r m) (sound-moderate rs e)))

-- ---- what the rows that read the records answer

-- below 64 N the tag's side is the qubit's
on_sides : (n q : ℕ) (b : Bool) (rs : List (List ℕ)) → leb (64 * n) q ≡ false → all (on_tag_side n (Some q) b) rs ≡ all_on_side n q b rs
unfolding all_on_side
on_sides n q b [] e = refl
on_sides n q b (r ∷ rs) e = ap₂ ◌&&◌ (ap (λ (t : Bool). t || beq (record_bit n q r) b) e) (on_sides n q b rs e)

-- records on different sides of a qubit have different keys
sides_apart : (n q : ℕ) (xs ys : List (List ℕ)) → all_on_side n q false xs ≡ true → all_on_side n q true ys ≡ true → meets n xs ys ≡ false
sides_apart n q xs ys d e =
    apart-meets n xs ys
    (all_map ys (λ y v. all_map xs (λ x u k. false≢true (sym u ∙ ap (bit_at q) k ∙ v)) (on-side n q false xs d)) (on-side n q true ys e))

-- two tests as the row has them
not-both : (a b m : Bool) → (a && b) ≡ false → (not a || (not b || m)) ≡ true
not-both true true m e = absurd (false≢true (sym e))
not-both true false m e = refl
not-both false b m e = refl

both-in : (a b m : Bool) → (a && b) ≡ true → (not a || (not b || m)) ≡ m
both-in true true m e = refl
both-in true false m e = absurd (false≢true e)
both-in false b m e = absurd (false≢true e)

module _ (s : State) (front : List ℕ) where
  abbrev n : ℕ
  n = s.width

  abbrev zero-part : List (List ℕ)
  zero-part = part_of false s front

  abbrev one-part : List (List ℕ)
  one-part = part_of true s front

  abbrev both-sided : Option ℕ → Bool
  both-sided t = all (on_tag_side n t false) zero-part && all (on_tag_side n t true) one-part

  -- what the passes over both parts find
  abbrev pub scans : Scan
  scans = both_scans (scan_of n s.tag false zero-part) (scan_of n s.tag true one-part)

  sided-is : (q : ℕ) → leb (64 * n) q ≡ false → both-sided (Some q) ≡ (all_on_side n q false zero-part && all_on_side n q true one-part)
  sided-is q e = ap₂ ◌&&◌ (on_sides n q false zero-part e) (on_sides n q true one-part e)

  tag-inside : (q : ℕ) → ltb q (64 * n) ≡ true → leb (64 * n) q ≡ false
  tag-inside q e = lt-leb (64 * n) q (ltb-true q (64 * n) e)

  -- the sides settle that no key is in both parts, and that none is off
  settled-sides : (t : Option ℕ) → settles n t (both-sided t) ≡ true → (meets n zero-part one-part ≡ false) × (side_off t s front ≡ false)
  settled-sides None e = absurd (false≢true e)
  settled-sides (Some q) e =
      let l = tag-inside q (and-true-l (ltb q (64 * n)) (both-sided (Some q)) e) in
      let v = sym (sided-is q l) ∙ and_true_r (ltb q (64 * n)) (both-sided (Some q)) e in (
        sides_apart n q zero-part one-part
            (and-true-l (all_on_side n q false zero-part) (all_on_side n q true one-part) v)
            (and_true_r (all_on_side n q false zero-part) (all_on_side n q true one-part) v),
        ap₂ ◌||◌ l (ap not v),
      )

  -- a tag whose sides don't settle it is off
  unsettled-side : (t : Option ℕ) → settles n t (both-sided t) ≡ false → is_some t ≡ true → side_off t s front ≡ true
  unsettled-side None e g = absurd (false≢true g)
  unsettled-side (Some q) e g = go (ltb q (64 * n)) refl e
    where
      go : (t : Bool) → ltb q (64 * n) ≡ t → (t && both-sided (Some q)) ≡ false → side_off (Some q) s front ≡ true
      go true d e = let l = tag-inside q d in ap₂ ◌||◌ l (ap not (sym (sided-is q l) ∙ e))
      go false d e = ap (λ (t : Bool). t || not (all_on_side n q false zero-part && all_on_side n q true one-part)) (le-leb (64 * n) q (ltb-false q (64 * n) d))

  untagged-side : (t : Option ℕ) → is_some t ≡ false → side_off t s front ≡ false
  untagged-side None e = refl
  untagged-side (Some q) e = absurd (false≢true (sym e))

  ordered : scans.rises ≡ true → unordered s front ≡ meets n zero-part one-part
  unfolding unordered scan_of
  ordered e = both-in (rises n zero-part) (rises n one-part) (meets n zero-part one-part) e

  last_row : unordered s front ≡ false → wrong_side s front ≡ false → first (finite_row scans.finite ∷ []) ≡ first (record_rows s front)
  unfolding record_rows first not_finite scan_of
  last_row d e = rw (d, e)

  pub rows-not-rising : scans.rises ≡ false → Err no.Order ≡ first (record_rows s front)
  unfolding record_rows unordered scan_of
  rows-not-rising e = sym (first-here (unordered s front) no.Order _ (not-both (rises n zero-part) (rises n one-part) (meets n zero-part one-part) e))

  pub rows_settled : scans.rises ≡ true → settles n s.tag scans.sided ≡ true → first (finite_row scans.finite ∷ []) ≡ first (record_rows s front)
  unfolding wrong_side scan_of
  rows_settled e d = let k = settled-sides s.tag d in last_row (ordered e ∙ k.0) k.1

  pub rows-meet : scans.rises ≡ true → meets n zero-part one-part ≡ true → Err no.Order ≡ first (record_rows s front)
  unfolding record_rows
  rows-meet e d = sym (first-here (unordered s front) no.Order _ (ordered e ∙ d))

  pub rows-off-side : scans.rises ≡ true → meets n zero-part one-part ≡ false → settles n s.tag scans.sided ≡ false → is_some s.tag ≡ true
      → Err no.WrongSide ≡ first (record_rows s front)
  unfolding record_rows wrong_side scan_of
  rows-off-side e m d g =
      sym (first-later (unordered s front) no.Order _ (ordered e ∙ m) ∙ first-here (wrong_side s front) no.WrongSide _ (unsettled-side s.tag d g))

  pub rows-untagged : scans.rises ≡ true → meets n zero-part one-part ≡ false → is_some s.tag ≡ false → first (finite_row scans.finite ∷ []) ≡ first (record_rows s front)
  unfolding wrong_side
  rows-untagged e m g = last_row (ordered e ∙ m) (untagged-side s.tag g)

  -- where all is well with both parts, and they don't mix, the rows find nothing
  module _ (zero-sound : sound_part n s.tag false zero-part ≡ true) (one-sound : sound_part n s.tag true one-part ≡ true) where
    nothing-found : scans ≡ record { rises = true; sided = true; finite = true }
    nothing-found = ap₂ both_scans (sound-scan n s.tag false zero-part zero-sound) (sound-scan n s.tag true one-part one-sound)

    all-rise : scans.rises ≡ true
    all-rise = ap (λ (x : Scan). x.rises) nothing-found

    answered : (t : Option ℕ) → s.tag ≡ t → mixed n t zero-part one-part ≡ false → first (finite_row scans.finite ∷ []) ≡ first (record_rows s front)
    answered None e m = rows-untagged all-rise m (ap is_some e)
    answered (Some q) e m =
        rows_settled all-rise
        (ap₂ (settles n) e (ap (λ (x : Scan). x.sided) nothing-found) ∙ ap (λ (t : Bool). t && true) (lt-ltb q (64 * n) (leb-false (64 * n) q m)))

    module _ (q k0 k1 : ℕ) where
      pub seen-fine : mixed n s.tag zero-part one-part ≡ false → k0 ≡ length (side n q true zero-part) → k1 ≡ length (side n q true one-part) → QuickFine s front q k0 k1
      seen-fine m c d =
          record {
            fine = sym (answered s.tag refl m) ∙ ap (λ (x : Scan). first (finite_row x.finite ∷ [])) nothing-found ∙ row-finite true refl;
            moderate = moderate;
            ones0 = c;
            ones1 = d;
          }
        where
          moderate : (b : Bool) → All (λ r. moderate_record n r ≡ true) (part_of b s front)
          moderate false = sound-moderate n s.tag false zero-part zero-sound
          moderate true = sound-moderate n s.tag true one-part one-sound
