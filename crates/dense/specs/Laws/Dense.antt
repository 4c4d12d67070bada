-- What an accepted dense import leaves: a state that every call accepts, whose records are those of
-- the wanted pairs. For the layer above. Assumes nothing.
use Rattle.std.specs.declared.cmp.Ordering.TheVariants.{Less}
use Rattle.std.specs.Prelude.{◌≡◌, refl, ℕ, suc, ◌+◌, ◌*◌, ◌%◌, ◌<◌, ◌≤◌, List, [], ◌∷◌, ◌++◌, Bool, true, false, not, cond, ◌&&◌, eqb, ltb, length, Err, None, Ok, Result}
use Rattle.std.proofs.Common.{sym, ap₂, ◌∙◌, subst, add-zero, arith, append-nil}
use Rattle.std.proofs.Math.Path.{ap}
use borrow.Author.Tests.{not-false, ltb-false}
use Rattle.std.specs.Float.{binary64}
use Rattle.std.specs.Float.Ieee.{of_bits}
use Rattle.std.specs.Float.Ieee.Bits.{of_bits-fits}
use Rattle.std.specs.Float.Ieee.Scale.{finite}
use Rattle.std.proofs.lemmas.List.Edits.{sets}
use Rattle.std.proofs.Math.Seq.{length-sets}
use Rattle.amplitudes.specs.Amplitudes.{FitsC}
use Rattle.keys.specs.Keys.{listed, index_key, order}
use Rattle.keys.specs.Lists.{All}
use Rattle.merge.specs.Records.{capacity, part, flat, key_of, finite_record, encode}
use Rattle.merge.specs.Laws.{WholeRecords, encode-length, flat-length, flat_append, capacity-room, part_none, read-part, encode-key, encode-finite, width-range, length-index, index-order, and-true-l, and_true_r}
use Rattle.merge.specs.Sorting.{Rising, sort_key, choose}
use Rattle.statevector.specs.declared.Refusal.TheVariants as no
use Rattle.statevector.specs.declared.Side.{Side}
use Rattle.statevector.specs.declared.Side.TheVariants.{Left, Right}
use Rattle.statevector.specs.declared.State.{State}
use Rattle.dense.specs.Dense.{dense_amplitude, wanted, dense_from, dense_tests, dense_call, dense_response, dense_state}
use Rattle.dense.specs.Passes.{wanted_in, dense_by}
use Rattle.statevector.specs.Endings.{Ending, by_front, FrontEnding}
use Rattle.statevector.specs.Refusals.{first, Tested}
use Rattle.statevector.specs.States.{front_of, back_of, part_of, records_of, SameLengths}
use Rattle.statevector.specs.Tests.{all, Accepted}
use Rattle.statevector.specs.Laws.{Sound, fine-first, sound-accepted, stores-again, same-lengths}
use Rattle.statevector.specs.Answers.{made-response, by}
use Rattle.statevector.specs.declared.Refusal.{Refusal}

-- ---- the records of the wanted pairs

-- as many as are wanted
pub record-count : (n i : ℕ) (ws : List ℕ) → length (dense_from n i ws) ≡ wanted_in ws
unfolding dense_from wanted_in
record-count n i [] = refl
record-count n i (re ∷ []) = refl
record-count n i (re ∷ im ∷ ws) = go (wanted (dense_amplitude re im)) (record-count n (suc i) ws)
  where
    go : (b : Bool) → length (dense_from n (suc i) ws) ≡ wanted_in ws
        → length (choose b (encode (record { key = index_key n i; amp = dense_amplitude re im }) ∷ dense_from n (suc i) ws) (dense_from n (suc i) ws)) ≡ cond b 1 0 + wanted_in ws
    go true e = omega arith
    go false e = omega arith

-- what holds of the record of every pair from index i on holds of those of the wanted ones
every-wanted : (P : List ℕ → Type 0) (n i : ℕ) (ws : List ℕ)
    → ((j re im : ℕ) → i ≤ j → finite (of_bits binary64 re) ≡ true → finite (of_bits binary64 im) ≡ true → P (encode (record { key = index_key n j; amp = dense_amplitude re im })))
    → all (λ (w : ℕ). finite (of_bits binary64 w)) ws ≡ true → All P (dense_from n i ws)
unfolding dense_from
every-wanted P n i [] f a = tt
every-wanted P n i (re ∷ []) f a = tt
every-wanted P n i (re ∷ im ∷ ws) f a =
    let x = finite (of_bits binary64 re) in
    let y = finite (of_bits binary64 im) in
    let rest = all (λ (w : ℕ). finite (of_bits binary64 w)) ws in
    let b = and_true_r x (y && rest) a in
    go (wanted (dense_amplitude re im)) (f i re im (omega arith) (and-true-l x (y && rest) a) (and-true-l y rest b)) (every-wanted P n (suc i) ws (λ j u v l. f j u v (omega arith)) (and_true_r y rest b))
  where
    go : (t : Bool) → P (encode (record { key = index_key n i; amp = dense_amplitude re im })) → All P (dense_from n (suc i) ws)
        → All P (choose t (encode (record { key = index_key n i; amp = dense_amplitude re im }) ∷ dense_from n (suc i) ws) (dense_from n (suc i) ws))
    go true h r = (h, r)
    go false h r = r

-- both words of a pair fit the format
dense-fits : (re im : ℕ) → FitsC (dense_amplitude re im)
dense-fits re im = (of_bits-fits binary64 re, of_bits-fits binary64 im)

module _ (n : ℕ) (ws : List ℕ) (h : 0 < n) (a : all (λ (w : ℕ). finite (of_bits binary64 w)) ws ≡ true) where
  -- they are whole, finite, and rise
  pub dense-whole : WholeRecords n (dense_from n 0 ws)
  dense-whole = every-wanted (λ r. length r ≡ n + 2) n 0 ws (λ j re im l f g. encode-length n (record { key = index_key n j; amp = dense_amplitude re im }) (length-index n j)) a

  pub dense-finite : All (λ r. finite_record n r ≡ true) (dense_from n 0 ws)
  dense-finite =
      every-wanted (λ r. finite_record n r ≡ true) n 0 ws
      (λ j re im l f g. encode-finite n (record { key = index_key n j; amp = dense_amplitude re im }) (length-index n j) (dense-fits re im) ∙ ap₂ ◌&&◌ f g) a

dense-rising-from : (n i : ℕ) (ws : List ℕ) → 0 < n → all (λ (w : ℕ). finite (of_bits binary64 w)) ws ≡ true → Rising (sort_key n None) (dense_from n i ws)
unfolding dense_from
dense-rising-from n i [] h a = tt
dense-rising-from n i (re ∷ []) h a = tt
dense-rising-from n i (re ∷ im ∷ ws) h a =
    let x = finite (of_bits binary64 re) in
    let y = finite (of_bits binary64 im) in
    let rest = all (λ (w : ℕ). finite (of_bits binary64 w)) ws in
    let b = and_true_r y rest (and_true_r x (y && rest) a) in
    go (wanted (dense_amplitude re im))
    (every-wanted (λ r. order (key_of n (encode (record { key = index_key n i; amp = dense_amplitude re im }))) (key_of n r) ≡ Less) n (suc i) ws
    (λ j u v l f g. ap₂ order (key-of i re im) (key-of j u v) ∙ index-order n i j h (omega arith)) b)
    (dense-rising-from n (suc i) ws h b)
  where
    key-of : (j u v : ℕ) → key_of n (encode (record { key = index_key n j; amp = dense_amplitude u v })) ≡ index_key n j
    key-of j u v = encode-key n (record { key = index_key n j; amp = dense_amplitude u v }) (length-index n j)

    go : (t : Bool) → All (λ r. order (key_of n (encode (record { key = index_key n i; amp = dense_amplitude re im }))) (key_of n r) ≡ Less) (dense_from n (suc i) ws) → Rising (sort_key n None) (dense_from n (suc i) ws)
        → Rising (sort_key n None) (choose t (encode (record { key = index_key n i; amp = dense_amplitude re im }) ∷ dense_from n (suc i) ws) (dense_from n (suc i) ws))
    go true l r = (l, r)
    go false l r = r

-- ---- the call

module _ (n : ℕ) (words : List ℕ) (mark : Side) (left right : List ℕ) where
  abbrev ending : Ending (Result State Refusal)
  ending = dense_call n words mark left right

  abbrev target : List ℕ
  target = front_of mark left right

  abbrev rs : List (List ℕ)
  rs = dense_from n 0 words

  -- the state that an import makes
  abbrev pub imported : State
  imported = record { width = n; front = mark; n0 = length rs; n1 = 0; tag = None }

  -- none of its tests applies, and the named store has the records at its start. The other one is
  -- as it was
  pub record Imported (s : State) : Type 0 where
    pub fine : first (dense_tests n words target) ≡ Ok tt
    pub is : s ≡ imported
    pub front : front_of mark ending.left ending.right ≡ sets target 0 (flat rs)
    pub back : back_of mark ending.left ending.right ≡ back_of mark left right

  -- the stores by front and back, and back again
  front_of_lem : (m : Side) (f b : List ℕ) → front_of m (front_of m f b) (back_of m f b) ≡ f
  front_of_lem Left f b = refl
  front_of_lem Right f b = refl

  back-of : (m : Side) (f b : List ℕ) → back_of m (front_of m f b) (back_of m f b) ≡ b
  back-of Left f b = refl
  back-of Right f b = refl

  by_tests : (t : Tested) → first (dense_tests n words target) ≡ t → ending ≡ by_front mark (dense_by t n mark rs target (back_of mark left right))
  unfolding dense_call
  by_tests t e = ap (λ (t : Tested). by_front mark (dense_by t n mark rs target (back_of mark left right))) e

  pub dense-done : (s : State) → ending.answer ≡ Ok s → Imported s
  dense-done s e = go (first (dense_tests n words target)) refl
    where
      go : (t : Tested) → first (dense_tests n words target) ≡ t → Imported s
      go (Ok tt) f =
          let o = by_tests (Ok tt) f in
          let d : Ok s ≡ Ok imported = sym e ∙ ap (λ (o : Ending (Result State Refusal)). o.answer) o in
          let i : s ≡ imported = cc in
          record {
            fine = f;
            is = i;
            front = ap (λ (o : Ending (Result State Refusal)). front_of mark o.left o.right) o ∙ front_of_lem mark (sets target 0 (flat rs)) (back_of mark left right);
            back = ap (λ (o : Ending (Result State Refusal)). back_of mark o.left o.right) o ∙ back-of mark (sets target 0 (flat rs)) (back_of mark left right);
          }
      go (Err r) f =
          let o : Ok s ≡ Err r = sym e ∙ ap (λ (o : Ending (Result State Refusal)). o.answer) (by_tests (Err r) f) in
          let z : ◌≡◌ {A = ℕ} 0 1 = cc in
          absurd (omega arith)

  -- ---- what the tests found

  module _ (f : first (dense_tests n words target) ≡ Ok tt) where
    has_width : listed n ≡ true
    unfolding dense_tests
    has_width = not-false (listed n) (fine-first (not (listed n)) no.Width _ f).0

    after-width : first ((not (all (λ (w : ℕ). finite (of_bits binary64 w)) words), no.NotFinite) ∷ (eqb (length words % 2) 1, no.Length) ∷ (ltb (capacity n target) (length rs), no.Full) ∷ []) ≡ Ok tt
    unfolding dense_tests
    after-width = (fine-first (not (listed n)) no.Width _ f).1

    all-finite : all (λ (w : ℕ). finite (of_bits binary64 w)) words ≡ true
    all-finite = not-false _ (fine-first (not (all (λ (w : ℕ). finite (of_bits binary64 w)) words)) no.NotFinite _ after-width).0

    has_room : length rs * (n + 2) ≤ length target
    has_room =
        let a = (fine-first (not (all (λ (w : ℕ). finite (of_bits binary64 w)) words)) no.NotFinite _ after-width).1 in
        let b = (fine-first (eqb (length words % 2) 1) no.Length _ a).1 in
        capacity-room n (length rs) target (ltb-false (capacity n target) (length rs) (fine-first (ltb (capacity n target) (length rs)) no.Full [] b).0)

    -- the named store after the call
    abbrev laid : List ℕ
    laid = sets target 0 (flat rs)

    some-width : 0 < n
    some-width = (width-range n has_width).0

    first_part : part n laid 0 (length rs) ≡ rs
    first_part =
        let w = dense-whole n words some-width all-finite in
        let e : flat rs ≡ flat rs ++ flat [] = sym (ap flat (append-nil rs)) ∙ flat_append rs [] in
        let l : length (flat rs ++ flat []) ≤ length target = rw (← e, flat-length n rs w) has_room in
        ap (λ (l : List ℕ). part n (sets target 0 l) 0 (length rs)) e ∙ read-part n rs [] target false w tt l

    second-part : part n laid (length rs) (length rs + 0) ≡ []
    second-part = part_none n laid (length rs) (length rs + 0) (omega arith)

    parts : (P : List (List ℕ) → Type 0) → P rs → P [] → (b : Bool) → P (part_of b imported laid)
    parts P x y false = subst P (sym first_part) x
    parts P x y true = subst P (sym second-part) y

    imported-sound : Sound imported laid
    imported-sound = record {
      some = some-width;
      few = (width-range n has_width).1;
      room = rw (add-zero (length rs), length-sets target 0 (flat rs)) has_room;
      rise = parts (Rising (sort_key n None)) (dense-rising-from n 0 words some-width all-finite) tt;
      apart = rw second-part tt;
      sides = λ q e. let z : ◌≡◌ {A = ℕ} 0 1 = cc in absurd (omega arith);
      finites = parts (All (λ r. finite_record n r ≡ true)) (dense-finite n words some-width all-finite) tt;
    }

    imported-records : records_of imported laid ≡ rs
    imported-records = ap₂ ◌++◌ first_part second-part ∙ append-nil rs

  -- the state is sound over its front store, and its records are those of the wanted pairs
  pub dense-sound : (s : State) → ending.answer ≡ Ok s → Sound s (front_of s.front ending.left ending.right)
  dense-sound s e =
      let d = dense-done s e in
      subst (λ (s : State). Sound s (front_of s.front ending.left ending.right)) (sym d.is) (subst (Sound imported) (sym d.front) (imported-sound d.fine))

  pub dense-records : (s : State) → ending.answer ≡ Ok s → records_of s (front_of s.front ending.left ending.right) ≡ rs
  dense-records s e =
      let d = dense-done s e in
      ap (λ (s : State). records_of s (front_of s.front ending.left ending.right)) d.is ∙ ap (records_of imported) d.front ∙ imported-records d.fine

  pub dense-accepted : (s : State) → ending.answer ≡ Ok s → Accepted s (front_of s.front ending.left ending.right)
  dense-accepted s e =
      let d = dense-done s e in
      sound-accepted s (front_of s.front ending.left ending.right) (subst (λ (s : State). listed s.width ≡ true) (sym d.is) (has_width d.fine)) (dense-sound s e)

-- ---- its number and values

pub dense-response : (n : ℕ) (words : List ℕ) (mark : Side) (left right : List ℕ)
    → made-response (dense_call n words mark left right).answer ≡ dense_response n words mark left right
unfolding dense_call
dense-response n words mark left right = go (first (dense_tests n words (front_of mark left right)))
  where
    go : (t : Tested) → made-response (dense_by t n mark (dense_from n 0 words) (front_of mark left right) (back_of mark left right)).answer ≡ by t (dense_state n mark (length (dense_from n 0 words)))
    go (Ok tt) = refl
    go (Err r) = refl

-- a refused one leaves both stores
pub dense-refused : (n : ℕ) (words : List ℕ) (mark : Side) (left right : List ℕ) (r : Refusal) → (dense_call n words mark left right).answer ≡ Err r
    → ((dense_call n words mark left right).left ≡ left) × ((dense_call n words mark left right).right ≡ right)
unfolding dense_call
dense-refused n words mark left right r e = go (first (dense_tests n words (front_of mark left right))) e
  where
    laid : Tested → FrontEnding (Result State Refusal)
    laid t = dense_by t n mark (dense_from n 0 words) (front_of mark left right) (back_of mark left right)

    go : (t : Tested) → (laid t).answer ≡ Err r → ((by_front mark (laid t)).left ≡ left) × ((by_front mark (laid t)).right ≡ right)
    go (Ok tt) e = let z : ◌≡◌ {A = ℕ} 0 1 = cc in absurd (omega arith)
    go (Err x) e = stores-again mark left right

-- both stores keep their lengths
pub dense-lengths : (n : ℕ) (words : List ℕ) (mark : Side) (left right : List ℕ) → let o = dense_call n words mark left right in SameLengths left right o.left o.right
unfolding dense_call
dense-lengths n words mark left right =
    let target = front_of mark left right in
    let other = back_of mark left right in
    let rs = dense_from n 0 words in
    let t = first (dense_tests n words target) in
    same-lengths mark (dense_by t n mark rs target other) left right (go t rs target other)
  where
    go : (t : Tested) (records : List (List ℕ)) (front back : List ℕ) → let o = dense_by t n mark records front back in SameLengths front back o.front o.back
    go (Ok _) records front back = (length-sets front 0 (flat records), refl)
    go (Err r) records front back = (refl, refl)
