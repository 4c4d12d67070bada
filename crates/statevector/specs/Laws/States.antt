-- What the records of an accepted state are: keys of its width, no key twice, each part in its
-- order, every amplitude finite. For the crates above. Assumes nothing.
use mir.Val.{bool_byte}
use Rattle.std.specs.Option.{option_eq}
use Rattle.std.specs.Prelude.{◌≡◌, refl, ℕ, ◌+◌, ◌*◌, ◌<◌, List, Bool, true, false, cond, eqb, length, None, Option, Some}
use Rattle.std.proofs.Common.{sym, ap, ◌∙◌, subst, arith, eqb-true}
use Rattle.std.proofs.lemmas.Bool.{false≢true}
use Rattle.amplitudes.specs.Amplitudes.{finite_c}
use Rattle.keys.specs.Keys.{Words, IsKey}
use Rattle.keys.specs.Lists.{All}
use Rattle.merge.specs.Records.{key_of, record_at, part, finite_record}
use Rattle.merge.specs.Laws.{part-append, part_length, part-every, record-fits, record-key, finite-amplitude, entries-distinct, Distinct, rising-distinct, distinct_append, key_in, all-keys, all-amplitudes, key-words, all_map, all_append}
use Rattle.merge.specs.Sorting.{sort_key}
use Rattle.statevector.specs.declared.State.{State}
use Rattle.statevector.specs.States.{tag_is, part_of, records_of, entries_of, front_of, back_of, SameLengths}
use Rattle.statevector.specs.Laws.Accepting.{Sound}
use Rattle.statevector.specs.declared.Side.{Side}
use Rattle.statevector.specs.Endings.{FrontEnding, by_front}
use Rattle.statevector.specs.declared.Side.TheVariants.{Left, Right}

-- a tag that is a qubit
pub tag-is : (t : Option ℕ) (q : ℕ) → tag_is t q ≡ true → t ≡ Some q
tag-is None q e = absurd (false≢true e)
tag-is (Some p) q e = ap Some (eqb-true p q e)

module _ (s : State) (front : List ℕ) where
  -- both parts are one run of records, as many as the sizes say
  pub records-are : records_of s front ≡ part s.width front 0 (s.n0 + s.n1)
  records-are = part-append s.width front 0 s.n0 (s.n0 + s.n1) (omega arith) (omega arith)

  pub records-length : length (records_of s front) ≡ s.n0 + s.n1
  records-length = ap length records-are ∙ part_length s.width front 0 (s.n0 + s.n1) ∙ omega arith

  -- what holds of each record that is counted holds of every record
  every-record : (P : List ℕ → Type 0) → ((r : ℕ) → r < s.n0 + s.n1 → P (record_at s.width front r)) → All P (records_of s front)
  every-record P f = subst (All P) (sym records-are) (part-every P s.width front 0 (s.n0 + s.n1) (λ r h l. f r l))

  -- the keys are keys of the state's width: words of 64 bits give such keys
  pub stored-keys : Words front → Sound s front → All (λ e. IsKey s.width e.key) (entries_of s front)
  stored-keys w h =
      all-keys (IsKey s.width) s.width (records_of s front)
      (every-record (λ r. IsKey s.width (key_of s.width r))
      (λ r l. let k = record-fits s.width r (s.n0 + s.n1) front l h.room in subst (IsKey s.width) (sym (record-key s.width r front)) (key-words s.width (r * (s.width + 2)) front (omega arith) w)))

  -- no key stands twice
  pub distinct-records : Sound s front → Distinct (sort_key s.width None) (records_of s front)
  distinct-records h =
      distinct_append (sort_key s.width None) (part_of false s front) (part_of true s front)
      (rising-distinct (sort_key s.width None) (part_of false s front) (h.rise false))
      (rising-distinct (sort_key s.width None) (part_of true s front) (h.rise true))
      h.apart

  pub distinct-entries : Sound s front → Distinct key_in (entries_of s front)
  distinct-entries h = entries-distinct s.width (records_of s front) (distinct-records h)

  -- every amplitude is finite
  pub finite-entries : Sound s front → All (λ e. finite_c e.amp ≡ true) (entries_of s front)
  finite-entries h =
      all-amplitudes (λ a. finite_c a ≡ true) s.width (records_of s front)
      (all_map (records_of s front) (λ r e. sym (finite-amplitude s.width r) ∙ e)
      (all_append (λ r. finite_record s.width r ≡ true) (part_of false s front) (part_of true s front) (h.finites false) (h.finites true)))

-- ---- stores by their marks

-- left and right again, of a front and a back store
pub stores-again : (m : Side) (left right : List ℕ) → (front_of m (front_of m left right) (back_of m left right) ≡ left) × (back_of m (front_of m left right) (back_of m left right) ≡ right)
stores-again Left left right = (refl, refl)
stores-again Right left right = (refl, refl)

-- front and back again, of a left and a right store
pub stores-marked : {A : Type 0} (m : Side) (o : FrontEnding A) → (front_of m (by_front m o).left (by_front m o).right ≡ o.front) × (back_of m (by_front m o).left (by_front m o).right ≡ o.back)
stores-marked Left o = (refl, refl)
stores-marked Right o = (refl, refl)

-- stores that keep their lengths as front and back keep them as left and right
pub same-lengths : {A : Type 0} (m : Side) (o : FrontEnding A) (left right : List ℕ)
    → SameLengths (front_of m left right) (back_of m left right) o.front o.back → SameLengths left right (by_front m o).left (by_front m o).right
same-lengths Left o left right h = h
same-lengths Right o left right h = (h.1, h.0)

-- what a count goes up by for a bool (`usize::from`)
pub one_if : (b : Bool) → bool_byte b ≡ cond b 1 0
one_if true = refl
one_if false = refl

-- the tag compared with a qubit
pub tag-eq : (t : Option ℕ) (q : ℕ) → option_eq eqb t (Some q) ≡ tag_is t q
tag-eq None q = refl
tag-eq (Some p) q = refl

-- the words of the front and the back store, by either mark
pub side-words : (m : Side) (left right : List ℕ) → Words left → Words right → Words (front_of m left right) × Words (back_of m left right)
side-words Left left right l r = (l, r)
side-words Right left right l r = (r, l)
