-- A dense list pair by pair, in the indices that the code has: pair i is words 2 i and 2 i + 1. For
-- the proofs of the two passes. Assumes nothing.
use Rattle.std.specs.Prelude.{Err, Ok}
use mathlib.Core.Path.{◌≡◌, refl, sym, ap, ap₂, ◌∙◌}
use Prim.Native.Nat.{ℕ, zero, suc, ◌+◌, ◌*◌, ◌/◌, ◌%◌, ◌<◌, ◌≤◌}
use native.Mathlib.Numerals.{add-one}
use native.Mathlib.Nat.{zero-mul}
use native.Mathlib.Omega.{arith}
use mathlib.Core.List.{List, [], ◌∷◌}
use mathlib.Core.Bool.{Bool, true, false, cond, ◌&&◌, true≢false, false≢true}
use borrow.Author.Tests.{eq-eqb, ne_eqb}
use lib.ListN.{length, get_or, take, drop, drop_of_length-le, length-drop}
use Rattle.std.proofs.Common.{drop-drop}
use Rattle.std.specs.Simd.{first_chunks}
use lib.Seq.{drop-cons, sets, length-sets}
use Rattle.keys.specs.Keys.{index_key}
use Rattle.merge.specs.Records.{encode, flat}
use Rattle.merge.specs.Laws.{encode-length, record-below, length-index, sets-record, sets-no-records, and-true-l, and_true_r}
use Rattle.merge.specs.Sorting.{choose}
use Rattle.statevector.specs.declared.Refusal.TheVariants as no
use Rattle.dense.specs.Dense.{dense_amplitude, wanted, dense_from, finite_word}
use Rattle.dense.specs.Passes.{wanted_in, counted_of}
use Rattle.statevector.specs.Refusals.{first}
use Rattle.statevector.specs.Tests.{all}

-- what a test says of all words it says of one
pub all_here : (t : ℕ → Bool) (ws : List ℕ) (i : ℕ) → i < length ws → all t ws ≡ true → t (get_or ws i 0) ≡ true
all_here t [] i h e = absurd (omega arith)
all_here t (w ∷ ws) zero h e = and-true-l (t w) (all t ws) e
all_here t (w ∷ ws) (suc i) h e = all_here t ws i (omega arith) (and_true_r (t w) (all t ws) e)

and-true : (b : Bool) → (b && true) ≡ b
and-true true = refl
and-true false = refl

-- no pair in at most one word
few : (l : List ℕ) → length l ≤ 1 → (n j : ℕ) → (dense_from n j l ≡ []) × (wanted_in l ≡ 0)
unfolding dense_from wanted_in
few [] h n j = (refl, refl)
few (w ∷ []) h n j = (refl, refl)
few (w ∷ v ∷ l) h n j = absurd (omega arith)

module _ (ws : List ℕ) (i : ℕ) where
  -- the words of pair i
  abbrev pub first_word : ℕ
  first_word = get_or ws (2 * i) 0

  abbrev pub second_word : ℕ
  second_word = get_or ws (2 * i + 1) 0

  abbrev pub left : List ℕ
  left = drop (2 * i) ws

  abbrev pub after : List ℕ
  after = drop (2 * (i + 1)) ws

  pub two-words : 2 * i + 1 < length ws → left ≡ first_word ∷ second_word ∷ after
  two-words h =
      let e : suc (suc (2 * i)) ≡ 2 * (i + 1) = omega arith in
      drop-cons ws (2 * i) 0 (omega arith)
      ∙ ap (λ (l : List ℕ). first_word ∷ l)
      (drop-cons ws (suc (2 * i)) 0 (omega arith) ∙ ap₂ (λ (k m : ℕ). get_or ws k 0 ∷ drop m ws) (sym (add-one (2 * i))) e)

  -- the record of pair i
  abbrev pub record_of : ℕ → List ℕ
  record_of n = encode (record { key = index_key n i; amp = dense_amplitude first_word second_word })

  -- ---- what is left, where a pair is

  pub records-step : (n : ℕ) → 2 * i + 1 < length ws
      → dense_from n i left ≡ choose (wanted (dense_amplitude first_word second_word)) (record_of n ∷ dense_from n (i + 1) after) (dense_from n (i + 1) after)
  unfolding dense_from
  records-step n h = rw (two-words h, add-one i)

  pub count-step : 2 * i + 1 < length ws → wanted_in left ≡ cond (wanted (dense_amplitude first_word second_word)) 1 0 + wanted_in after
  unfolding wanted_in
  count-step h = rw (two-words h)

  pub finite-step : 2 * i + 1 < length ws → all finite_word left ≡ (finite_word first_word && (finite_word second_word && all finite_word after))
  finite-step h = ap (all finite_word) (two-words h)

  -- ---- and where none is

  pub records-end : (n : ℕ) → length ws ≤ 2 * i + 1 → dense_from n i left ≡ []
  records-end n h = (few left (simp length-drop (omega arith)) n i).0

  pub count-end : length ws ≤ 2 * i + 1 → ◌≡◌ {A = ℕ} (wanted_in left) 0
  count-end h = (few left (simp length-drop (omega arith)) 0 i).1

  pub finite-none : length ws ≤ 2 * i → all finite_word left ≡ true
  finite-none h = rw (drop_of_length-le ws {i = 2 * i} h)

  pub finite-stray : length ws ≡ 2 * i + 1 → all finite_word left ≡ finite_word first_word
  finite-stray h =
      rw (drop-cons ws (2 * i) 0 (omega arith), drop_of_length-le ws {i = suc (2 * i)} (omega arith)) (and-true (finite_word first_word))

-- pair i of the pairs that the code has
chunk-at : (k i : ℕ) (ws : List ℕ) → i < k → get_or (first_chunks 2 k ws) i [] ≡ take 2 (drop (2 * i) ws)
chunk-at zero i ws h = absurd (omega arith)
chunk-at (suc k) zero ws h = refl
chunk-at (suc k) (suc i) ws h =
    let n : 2 + 2 * i ≡ 2 * suc i = omega arith in
    chunk-at k i (drop 2 ws) (omega arith) ∙ ap (take 2) (drop-drop (2 * i) 2 ws ∙ ap (λ (j : ℕ). drop j ws) n)

pub pair_at : (ws : List ℕ) (pairs : List (List ℕ)) (i : ℕ) → pairs ≡ first_chunks 2 (length ws / 2) ws → i < length ws / 2
    → (2 * i + 1 < length ws) × (get_or (get_or pairs i []) 0 0 ≡ first_word ws i) × (get_or (get_or pairs i []) 1 0 ≡ second_word ws i)
pair_at ws pairs i e h =
    let p : get_or pairs i [] ≡ first_word ws i ∷ second_word ws i ∷ [] = ap (λ (ps : List (List ℕ)). get_or ps i []) e ∙ chunk-at (length ws / 2) i ws h ∙ ap (take 2) (two-words ws i (omega arith)) in
    (omega arith, ap (λ (l : List ℕ). get_or l 0 0) p, ap (λ (l : List ℕ). get_or l 1 0) p)

-- and the word after them
pub stray-at : (ws stray : List ℕ) (i : ℕ) → stray ≡ drop (length ws / 2 * 2) ws → length ws ≡ 2 * i + 1 → get_or stray 0 0 ≡ first_word ws i
stray-at ws stray i e h =
    let n : length ws / 2 * 2 ≡ 2 * i = omega arith in
    ap (λ (l : List ℕ). get_or l 0 0) (e ∙ drop-cons ws (length ws / 2 * 2) 0 (omega arith)) ∙ ap (λ (k : ℕ). get_or ws k 0) n

-- ---- the answer to a list by its tests

refused-finite : (ws : List ℕ) → all finite_word ws ≡ false → counted_of ws ≡ Err no.NotFinite
unfolding counted_of first
refused-finite ws e = rw e

refused-odd : (ws : List ℕ) → all finite_word ws ≡ true → length ws % 2 ≡ 1 → counted_of ws ≡ Err no.Length
unfolding counted_of first
refused-odd ws e f = rw (e, eq-eqb (length ws % 2) 1 f)

even-counted : (ws : List ℕ) (c : ℕ) → all finite_word ws ≡ true → (length ws % 2 ≡ 1 → ⊥) → c ≡ wanted_in ws → counted_of ws ≡ Ok c
unfolding counted_of first
even-counted ws c e f h = rw (e, ne_eqb (length ws % 2) 1 f, h)

both-pass : (a b c : Bool) → (a && b) ≡ true → (a && (b && c)) ≡ c
both-pass true true c e = refl
both-pass true false c e = absurd (false≢true e)
both-pass false b c e = absurd (false≢true e)

one-fails : (a b c : Bool) → (a && b) ≡ false → (a && (b && c)) ≡ false
one-fails true true c e = absurd (true≢false e)
one-fails true false c e = refl
one-fails false b c e = refl

-- ---- the first pass

-- the pairs before i are counted, and their words finite
pub record Counting (ws : List ℕ) (i count : ℕ) : Type 0 where
  pub sum : count + wanted_in (left ws i) ≡ wanted_in ws
  pub finite : all finite_word (left ws i) ≡ all finite_word ws

module _ (ws : List ℕ) (i count : ℕ) (p : Counting ws i count) where
  -- pair i is finite, and wanted or not
  pub count_turn : (b : Bool) → 2 * i + 1 < length ws → b ≡ wanted (dense_amplitude (first_word ws i) (second_word ws i))
      → (finite_word (first_word ws i) && finite_word (second_word ws i)) ≡ true → Counting ws (i + 1) (count + cond b 1 0)
  count_turn b h e f = record {
    sum = let s : wanted_in (left ws i) ≡ cond b 1 0 + wanted_in (after ws i) = rw e (count-step ws i h) in let t = p.sum in omega arith;
    finite = sym (finite-step ws i h ∙ both-pass (finite_word (first_word ws i)) (finite_word (second_word ws i)) (all finite_word (after ws i)) f) ∙ p.finite;
  }

  -- or not finite
  pub count-not-finite : 2 * i + 1 < length ws → (finite_word (first_word ws i) && finite_word (second_word ws i)) ≡ false → counted_of ws ≡ Err no.NotFinite
  count-not-finite h f =
      refused-finite ws (sym p.finite ∙ finite-step ws i h ∙ one-fails (finite_word (first_word ws i)) (finite_word (second_word ws i)) (all finite_word (after ws i)) f)

  -- no pair is left, and no word
  pub count-even : length ws ≡ 2 * i → counted_of ws ≡ Ok count
  count-even h =
      let c = count-end ws i (omega arith) in
      let t = p.sum in
      even-counted ws count (sym p.finite ∙ finite-none ws i (omega arith)) (λ e. omega arith) (omega arith)

  -- or a stray word
  pub count-odd : length ws ≡ 2 * i + 1 → (b : Bool) → b ≡ finite_word (first_word ws i) → counted_of ws ≡ Err (cond b no.Length no.NotFinite)
  count-odd h true e = refused-odd ws (sym p.finite ∙ finite-stray ws i h ∙ sym e) (omega arith)
  count-odd h false e = refused-finite ws (sym p.finite ∙ finite-stray ws i h ∙ sym e)

-- ---- the second pass

-- o records stand in the store; with those that are left after them it is `final`
pub record Writing (n : ℕ) (ws final : List ℕ) (room i o : ℕ) (store : List ℕ) : Type 0 where
  pub size : o + length (dense_from n i (left ws i)) ≡ length (dense_from n 0 ws)
  pub long : length store ≡ room
  pub ends : sets store (o * (n + 2)) (flat (dense_from n i (left ws i))) ≡ final

pub write-none : (n : ℕ) (ws store : List ℕ) → Writing n ws (sets store 0 (flat (dense_from n 0 ws))) (length store) 0 0 store
write-none n ws store = record { size = omega arith; long = refl; ends = rw (zero-mul (n + 2)) }

module _ (n : ℕ) (ws final : List ℕ) (room i o : ℕ) (store : List ℕ) (p : Writing n ws final room i o store) where
  kept : 2 * i + 1 < length ws → wanted (dense_amplitude (first_word ws i) (second_word ws i)) ≡ true → dense_from n i (left ws i) ≡ record_of ws i n ∷ dense_from n (i + 1) (after ws i)
  kept h e = rw e at (records-step ws i n h)

  -- pair i is wanted: its record has a place, and goes there
  pub write-room : 2 * i + 1 < length ws → wanted (dense_amplitude (first_word ws i) (second_word ws i)) ≡ true → length (dense_from n 0 ws) * (n + 2) ≤ room
      → o * (n + 2) + (n + 2) ≤ length store
  write-room h e l =
      let t = p.size in
      let k = p.long in
      let d = ap length (kept h e) in
      omega (arith, record-below n o (length (dense_from n 0 ws)) (omega arith))

  pub write-wanted : 2 * i + 1 < length ws → wanted (dense_amplitude (first_word ws i) (second_word ws i)) ≡ true
      → Writing n ws final room (i + 1) (o + 1) (sets store (o * (n + 2)) (record_of ws i n))
  write-wanted h e =
      record {
        size = let t = p.size in let d = ap length (kept h e) in omega arith;
        long = length-sets store (o * (n + 2)) (record_of ws i n) ∙ p.long;
        ends =
            sym (sets-record n store o (record_of ws i n) (dense_from n (i + 1) (after ws i)) (encode-length n _ (length-index n i)))
            ∙ ap (λ (rs : List (List ℕ)). sets store (o * (n + 2)) (flat rs)) (sym (kept h e))
            ∙ p.ends;
      }

  -- or not
  pub write-small : 2 * i + 1 < length ws → wanted (dense_amplitude (first_word ws i) (second_word ws i)) ≡ false → Writing n ws final room (i + 1) o store
  write-small h e =
      let d : dense_from n i (left ws i) ≡ dense_from n (i + 1) (after ws i) = rw e at (records-step ws i n h) in
      record { size = rw (← d) p.size; long = p.long; ends = rw (← d) p.ends }

  -- no pair is left
  pub write-all : length ws ≤ 2 * i + 1 → store ≡ final
  write-all h = sym (ap (λ (rs : List (List ℕ)). sets store (o * (n + 2)) (flat rs)) (records-end ws i n h) ∙ sets-no-records store (o * (n + 2))) ∙ p.ends
