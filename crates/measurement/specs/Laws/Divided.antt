-- Records, divided or not: their keys stay, so what is said of keys stays true. For the laws of
-- measurements. Assumes nothing.
use Rattle.std.specs.declared.cmp.Ordering.TheVariants.{Less}
use Rattle.std.specs.Prelude.{◌≡◌, ℕ, ◌+◌, ◌^◌, ◌<◌, List, [], ◌∷◌, map, Bool, cond, Float, length, None, Option, Some}
use Rattle.std.proofs.Math.Path.{refl}
use Rattle.std.proofs.Common.{sym, ap, ◌∙◌, subst}
use Rattle.std.proofs.Math.Bool.{true, false}
use Rattle.std.specs.Bool.{beq}
use Rattle.amplitudes.specs.declared.Complex.{Complex}
use Rattle.amplitudes.specs.Amplitudes.{over}
use Rattle.keys.specs.Keys.{Words, bit_at, order}
use Rattle.keys.specs.Lists.{All}
use Rattle.merge.specs.Laws.{encode-key, encode-words, decode_is, at-nil, at-cons, at_here, at_other, WholeRecords, record-key-length, encode-length, decode-encode, side-none, side-some, over-fits, all_map, all_take}
use Rattle.merge.specs.Records.{Entry, key_of, record_bit, amplitude_of, decode, entries, at}
use Rattle.merge.specs.Sorting.{Rising, Apart, sort_key, choose, side}
use Rattle.measurement.specs.Measurement.{divided}

-- ---- one record, divided or not

-- what becomes of a record, of an amplitude, and of an amplitude that was looked up
abbrev pub divided_if : Bool → ℕ → Float → List ℕ → List ℕ
divided_if d n scale r = cond d (divided n scale r) r

abbrev pub over_if : Bool → Float → Complex → Complex
over_if d scale a = cond d (over a scale) a

abbrev pub over_at : Bool → Float → Option Complex → Option Complex
over_at d scale None = None
over_at d scale (Some a) = Some (over_if d scale a)

module _ (n : ℕ) (scale : Float) (r : List ℕ) where
  one-length : (d : Bool) → length r ≡ n + 2 → length (divided_if d n scale r) ≡ n + 2
  unfolding divided
  one-length true l = encode-length n (record { key = key_of n r; amp = over (amplitude_of n r) scale }) (record-key-length n r l)
  one-length false l = l

  one_key : (d : Bool) → length r ≡ n + 2 → key_of n (divided_if d n scale r) ≡ key_of n r
  unfolding divided
  one_key true l = encode-key n (record { key = key_of n r; amp = over (amplitude_of n r) scale }) (record-key-length n r l)
  one_key false l = refl

  one_entry : (d : Bool) → length r ≡ n + 2 → decode n (divided_if d n scale r) ≡ record { key = key_of n r; amp = over_if d scale (amplitude_of n r) }
  unfolding divided
  one_entry true l = decode-encode n (record { key = key_of n r; amp = over (amplitude_of n r) scale }) (record-key-length n r l) (over-fits (amplitude_of n r) scale)
  one_entry false l = decode_is n r

  one-words : (d : Bool) → Words r → Words (divided_if d n scale r)
  unfolding divided
  one-words true w = encode-words (record { key = key_of n r; amp = over (amplitude_of n r) scale }) (all_take (λ v. v < 2 ^ 64) n r w) (over-fits (amplitude_of n r) scale)
  one-words false w = w

-- ---- records, divided or not: their keys stay, so what is said of keys stays true

module _ (d : Bool) (n : ℕ) (scale : Float) where
  abbrev pub divided_all : List (List ℕ) → List (List ℕ)
  divided_all rs = map (divided_if d n scale) rs

  pub all-length : (rs : List (List ℕ)) → WholeRecords n rs → WholeRecords n (divided_all rs)
  all-length [] w = tt
  all-length (r ∷ rs) w = (one-length n scale r d w.0, all-length rs w.1)

  pub divided-keys : (P : List ℕ → Type 0) (rs : List (List ℕ)) → WholeRecords n rs → All (λ r. P (key_of n r)) rs → All (λ r. P (key_of n r)) (divided_all rs)
  divided-keys P [] w h = tt
  divided-keys P (r ∷ rs) w h = (subst P (sym (one_key n scale r d w.0)) h.0, divided-keys P rs w.1 h.1)

  pub all-rise : (rs : List (List ℕ)) → WholeRecords n rs → Rising (sort_key n None) rs → Rising (sort_key n None) (divided_all rs)
  all-rise [] w h = tt
  all-rise (r ∷ rs) w h =
      (divided-keys (λ k. order (key_of n (divided_if d n scale r)) k ≡ Less) rs w.1 (all_map rs (λ y l. ap (λ (k : List ℕ). order k (key_of n y)) (one_key n scale r d w.0) ∙ l) h.0), all-rise rs w.1 h.1)

  pub all_apart : (xs ys : List (List ℕ)) → WholeRecords n xs → WholeRecords n ys → Apart (sort_key n None) xs ys → Apart (sort_key n None) (divided_all xs) (divided_all ys)
  all_apart xs ys u w h =
      divided-keys (λ k. All (λ x. key_of n x ≡ k → ⊥) (divided_all xs)) ys w (all_map ys (λ y a. divided-keys (λ k. k ≡ key_of n y → ⊥) xs u a) h)

  pub all_words : (rs : List (List ℕ)) → All Words rs → All Words (divided_all rs)
  all_words [] h = tt
  all_words (r ∷ rs) h = (one-words n scale r d h.0, all_words rs h.1)

  -- the amplitude at a key is divided with them
  pub all-at : (k : List ℕ) (rs : List (List ℕ)) → WholeRecords n rs → at k (entries n (divided_all rs)) ≡ over_at d scale (at k (entries n rs))
  all-at k [] w = at-nil k ∙ ap (over_at d scale) (sym (at-nil k))
  all-at k (r ∷ rs) w =
      let e = one_entry n scale r d w.0 in
      let f = decode_is n r in
      let rest = entries n (divided_all rs) in
      ap (λ (x : Entry). at k (x ∷ rest)) e
      ∙ at-cons (λ o. at k (record { key = key_of n r; amp = over_if d scale (amplitude_of n r) } ∷ rest) ≡ over_at d scale o) k (record { key = key_of n r; amp = amplitude_of n r }) (entries n rs)
      (λ i. at_here k (record { key = key_of n r; amp = over_if d scale (amplitude_of n r) }) rest i)
      (λ i. at_other k (record { key = key_of n r; amp = over_if d scale (amplitude_of n r) }) rest i ∙ all-at k rs w.1)
      ∙ ap (λ (x : Entry). over_at d scale (at k (x ∷ entries n rs))) (sym f)

-- the amplitudes of one side are those at keys on that side
pub side-at : (n q : ℕ) (v : Bool) (k : List ℕ) (rs : List (List ℕ)) → at k (entries n (side n q v rs)) ≡ cond (beq (bit_at q k) v) (at k (entries n rs)) None
side-at n q v k [] = ap (λ (rs : List (List ℕ)). at k (entries n rs)) (side-none n q v) ∙ at-nil k ∙ sym (ap (λ (o : Option Complex). cond (beq (bit_at q k) v) o None) (at-nil k) ∙ same_none (beq (bit_at q k) v))
  where
    same_none : (b : Bool) → ◌≡◌ {A = Option Complex} (cond b None None) None
    same_none true = refl
    same_none false = refl
side-at n q v k (r ∷ rs) =
    ap (λ (l : List (List ℕ)). at k (entries n l)) (side-some n q v r rs)
    ∙ at-cons (λ o. at k (entries n (choose (beq (record_bit n q r) v) (r ∷ side n q v rs) (side n q v rs))) ≡ cond (beq (bit_at q k) v) o None) k (decode n r) (entries n rs)
    (λ i. here (beq (record_bit n q r) v) i (ap (λ (x : List ℕ). beq (bit_at q x) v) (i ∙ key-is)) (side-at n q v k rs))
    (λ i. there (beq (record_bit n q r) v) i (side-at n q v k rs))
  where
    key-is : (decode n r).key ≡ key_of n r
    key-is = ap (λ (e : Entry). e.key) (decode_is n r)

    here : (t : Bool) → k ≡ (decode n r).key → beq (bit_at q k) v ≡ t → at k (entries n (side n q v rs)) ≡ cond (beq (bit_at q k) v) (at k (entries n rs)) None
        → at k (entries n (choose t (r ∷ side n q v rs) (side n q v rs))) ≡ cond (beq (bit_at q k) v) (Some (decode n r).amp) None
    here true i b e = at_here k (decode n r) (entries n (side n q v rs)) i ∙ rw b
    here false i b e = e ∙ rw b

    there : (t : Bool) → (k ≡ (decode n r).key → ⊥) → at k (entries n (side n q v rs)) ≡ cond (beq (bit_at q k) v) (at k (entries n rs)) None
        → at k (entries n (choose t (r ∷ side n q v rs) (side n q v rs))) ≡ cond (beq (bit_at q k) v) (at k (entries n rs)) None
    there true i e = at_other k (decode n r) (entries n (side n q v rs)) i ∙ e
    there false i e = e
