-- What an accepted `fresh` leaves: a state that every call accepts, whose one entry is key 0 with
-- amplitude 1. For the layer above. Assumes nothing.
use Rattle.std.proofs.Math.Path.{◌≡◌, refl, ap, subst}
use Rattle.std.proofs.Common.{sym, ap₂, ◌∙◌}
use Rattle.std.specs.Prelude.{ℕ, zero, suc, ◌+◌, ◌*◌, ◌≤◌, Bool, not, eqb, length, Err, None, Ok}
use native.Mathlib.Omega.{arith}
use mathlib.Core.List.{List, [], ◌∷◌, ◌++◌}
use Rattle.std.proofs.Math.Bool.{true, false}
use borrow.Author.Tests.{not-false, eqb-false}
use Rattle.std.specs.Float.Ieee.{fits}
use Rattle.std.proofs.lemmas.List.Edits.{sets}
use Rattle.std.proofs.Math.Seq.{length-sets}
use Rattle.amplitudes.specs.Amplitudes.{FitsC}
use Rattle.keys.specs.Keys.{listed, index_key, bit_at}
use Rattle.keys.specs.Lists.{All}
use Rattle.merge.specs.Records.{Entry, capacity, part, flat, record_bit, finite_record, encode, entries}
use Rattle.merge.specs.Laws.{WholeRecords, encode-length, flat_append, flat-one, capacity-room, part_none, read-part, decode-encode, encode-key, encode-finite, width-range, length-index, zero_bit}
use Rattle.merge.specs.Sorting.{Rising, sort_key}
use Rattle.statevector.specs.declared.Refusal.TheVariants as no
use Rattle.statevector.specs.declared.State.{State}
use Rattle.state.specs.Fresh.{one, fresh_state, fresh_record, fresh_tests, fresh_call, fresh_response, LeftEnding}
use Rattle.statevector.specs.Refusals.{first, if_fine, Tested}
use Rattle.statevector.specs.States.{part_of, entries_of}
use Rattle.statevector.specs.Tests.{Accepted}
use Rattle.statevector.specs.Laws.{Sound, fine-first, sound-accepted}
use Rattle.statevector.specs.Answers.{made-response, by}
use Rattle.statevector.specs.declared.Refusal.{Refusal}

-- a fresh state by what its tests found
abbrev pub fresh_by : ℕ → List ℕ → Tested → LeftEnding
fresh_by n left t = if_fine t (record { answer = Ok (fresh_state n); left = sets left 0 (fresh_record n) }) (λ r. record { answer = Err r; left = left })

-- the one entry
abbrev pub fresh_entry : ℕ → Entry
fresh_entry n = record { key = index_key n 0; amp = one }

positive : (k : ℕ) → (k ≡ 0 → ⊥) → 1 ≤ k
positive zero f = absurd (f refl)
positive (suc k) f = omega arith

module _ (n : ℕ) (left : List ℕ) where
  abbrev after : List ℕ
  after = (fresh_call n left).left

  pub record Made-fresh (s : State) : Type 0 where
    pub width : listed n ≡ true
    pub room : 1 * (n + 2) ≤ length left
    pub is : s ≡ fresh_state n
    pub store : after ≡ sets left 0 (fresh_record n)

  pub fresh-made : (s : State) → (fresh_call n left).answer ≡ Ok s → Made-fresh s
  unfolding fresh_call fresh_tests
  fresh-made s e = go (first (fresh_tests n left)) refl e
    where
      go : (t : Tested) → first (fresh_tests n left) ≡ t → (fresh_by n left t).answer ≡ Ok s → Made-fresh s
      go (Ok tt) f d =
          let a = fine-first (not (listed n)) no.Width ((eqb (capacity n left) 0, no.Full) ∷ []) f in
          let b = fine-first (eqb (capacity n left) 0) no.Full [] a.1 in
          let c = eqb-false (capacity n left) 0 b.0 in
          let i : s ≡ fresh_state n = cc in
          record { width = not-false (listed n) a.0; room = capacity-room n 1 left (positive (capacity n left) c); is = i; store = ap (λ (t : Tested). (fresh_by n left t).left) f }
      go (Err r) f d = let z : ◌≡◌ {A = ℕ} 0 1 = cc in absurd (omega arith)

  -- ---- over the store that it leaves

  module _ (w : listed n ≡ true) (h : 1 * (n + 2) ≤ length left) where
    abbrev laid : List ℕ
    laid = sets left 0 (fresh_record n)

    whole : WholeRecords n (fresh_record n ∷ [])
    unfolding fresh_record
    whole = (encode-length n (fresh_entry n) (length-index n 0), tt)

    first_part : part n laid 0 1 ≡ fresh_record n ∷ []
    first_part =
        let e : fresh_record n ≡ flat (fresh_record n ∷ []) ++ flat [] = sym (flat-one (fresh_record n)) ∙ flat_append (fresh_record n ∷ []) [] in
        let l : length (flat (fresh_record n ∷ []) ++ flat []) ≤ length left = rw (← e) (let k = whole.0 in omega arith) in
        ap (λ (l : List ℕ). part n (sets left 0 l) 0 1) e ∙ read-part n (fresh_record n ∷ []) [] left false whole tt l

    second-part : part n laid 1 (1 + 0) ≡ []
    second-part = part_none n laid 1 (1 + 0) (omega arith)

    parts : (P : List (List ℕ) → Type 0) → P (fresh_record n ∷ []) → P [] → (b : Bool) → P (part_of b (fresh_state n) laid)
    unfolding fresh_state
    parts P x y false = subst P (sym first_part) x
    parts P x y true = subst P (sym second-part) y

    one-fits : FitsC one
    unfolding fits
    one-fits = (tt, tt)

    -- key 0 has every bit clear
    clear : (q : ℕ) → record_bit n q (fresh_record n) ≡ false
    unfolding fresh_record
    clear q = ap (bit_at q) (encode-key n (fresh_entry n) (length-index n 0)) ∙ zero_bit n q

    sided : (q : ℕ) (b : Bool) → All (λ r. record_bit n q r ≡ b) (part_of b (fresh_state n) laid)
    unfolding fresh_state
    sided q false = subst (All (λ r. record_bit n q r ≡ false)) (sym first_part) (clear q, tt)
    sided q true = subst (All (λ r. record_bit n q r ≡ true)) (sym second-part) tt

    sound : Sound (fresh_state n) laid
    unfolding fresh_state fresh_record
    sound = record {
      some = (width-range n w).0;
      few = (width-range n w).1;
      room = rw (length-sets left 0 (encode (fresh_entry n))) h;
      rise = parts (Rising (sort_key n None)) (tt, tt) tt;
      apart = rw second-part tt;
      sides = λ q e. let z : ◌≡◌ {A = ℕ} 0 q = cc in let k = (width-range n w).0 in (omega arith, sided q);
      finites = parts (All (λ r. finite_record n r ≡ true)) (encode-finite n (fresh_entry n) (length-index n 0) one-fits, tt) tt;
    }

    is-entry : entries_of (fresh_state n) laid ≡ fresh_entry n ∷ []
    unfolding fresh_state fresh_record
    is-entry = ap (entries n) (ap₂ ◌++◌ first_part second-part) ∙ ap (λ (e : Entry). e ∷ []) (decode-encode n (fresh_entry n) (length-index n 0) one-fits)

  -- the state is sound over the store that is left, and has the one entry
  pub fresh-sound : (s : State) → (fresh_call n left).answer ≡ Ok s → Sound s after
  fresh-sound s e =
      let d = fresh-made s e in
      subst (λ (s : State). Sound s after) (sym d.is) (subst (Sound (fresh_state n)) (sym d.store) (sound d.width d.room))

  pub fresh-entries : (s : State) → (fresh_call n left).answer ≡ Ok s → entries_of s after ≡ fresh_entry n ∷ []
  fresh-entries s e =
      let d = fresh-made s e in
      ap (λ (s : State). entries_of s after) d.is ∙ ap (entries_of (fresh_state n)) d.store ∙ is-entry d.width d.room

  pub fresh-accepted : (s : State) → (fresh_call n left).answer ≡ Ok s → Accepted s after
  unfolding fresh_state
  fresh-accepted s e =
      let d = fresh-made s e in
      sound-accepted s after (subst (λ (k : ℕ). listed k ≡ true) (sym (ap (λ (s : State). s.width) d.is)) d.width) (fresh-sound s e)

-- ---- its number and values

pub fresh-response : (n : ℕ) (left : List ℕ) → made-response (fresh_call n left).answer ≡ fresh_response n left
unfolding fresh_call
fresh-response n left = go (first (fresh_tests n left))
  where
    go : (t : Tested) → made-response (fresh_by n left t).answer ≡ by t (fresh_state n)
    go (Ok tt) = refl
    go (Err r) = refl

-- a refused one leaves the store
pub fresh-refused : (n : ℕ) (left : List ℕ) (r : Refusal) → (fresh_call n left).answer ≡ Err r → (fresh_call n left).left ≡ left
unfolding fresh_call
fresh-refused n left r e = go (first (fresh_tests n left)) e
  where
    go : (t : Tested) → (fresh_by n left t).answer ≡ Err r → (fresh_by n left t).left ≡ left
    go (Ok tt) e = let z : ◌≡◌ {A = ℕ} 0 1 = cc in absurd (omega arith)
    go (Err x) e = refl

-- the store keeps its length
pub fresh-length : (n : ℕ) (left : List ℕ) → length (fresh_call n left).left ≡ length left
unfolding fresh_call
fresh-length n left = go (first (fresh_tests n left))
  where
    go : (t : Tested) → length (fresh_by n left t).left ≡ length left
    go (Ok tt) = length-sets left 0 (fresh_record n)
    go (Err r) = refl
