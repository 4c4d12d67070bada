-- Entries written as records: their keys, amplitudes and words; and words that stay below 2^64 in
-- records, runs and stores. Assumes nothing.
use Rattle.std.specs.Prelude.{◌≡◌, refl, ℕ, zero, suc, ◌+◌, ◌-◌, ◌*◌, ◌^◌, ◌<◌, List, [], ◌∷◌, map, length, drop, set}
use Rattle.std.proofs.Common.{ap, ap₂, take_at}
use Rattle.std.proofs.lemmas.List.Edits.{sets}
use Rattle.std.specs.Float.{binary64}
use Rattle.std.specs.Float.Ieee.Bits.{to_bits-lt}
use Rattle.amplitudes.specs.Amplitudes.{finite_c, FitsC}
use Rattle.keys.specs.Keys.{Words}
use Rattle.keys.specs.Lists.{All, all_append, all_take, all_drop, all_set}
use Rattle.merge.specs.Records.{Entry, key_of, amplitude_of, finite_record, record_at, counted, part, decode, encode, entries, flat}
use Rattle.merge.specs.Laws.Records.{decode-encode}

-- ---- entries written as records

pub encode-key : (n : ℕ) (e : Entry) → length e.key ≡ n → key_of n (encode e) ≡ e.key
unfolding encode
encode-key n e l = take_at e.key _ n l

pub encode-amplitude : (n : ℕ) (e : Entry) → length e.key ≡ n → FitsC e.amp → amplitude_of n (encode e) ≡ e.amp
unfolding decode
encode-amplitude n e l f = ap (λ (x : Entry). x.amp) (decode-encode n e l f)

pub encode-finite : (n : ℕ) (e : Entry) → length e.key ≡ n → FitsC e.amp → finite_record n (encode e) ≡ finite_c e.amp
unfolding finite_record
encode-finite n e l f = ap finite_c (encode-amplitude n e l f)

pub entries-encode : (n : ℕ) (es : List Entry) → All (λ e. length e.key ≡ n) es → All (λ e. FitsC e.amp) es → entries n (map encode es) ≡ es
entries-encode n [] k f = refl
entries-encode n (e ∷ es) k f = ap₂ (λ (x : Entry) (xs : List Entry). x ∷ xs) (decode-encode n e k.0 f.0) (entries-encode n es k.1 f.1)

-- ---- words below 2^64

pub encode-words : (e : Entry) → Words e.key → FitsC e.amp → Words (encode e)
unfolding encode
encode-words e w f = all_append (λ v. v < 2 ^ 64) e.key _ w (to_bits-lt binary64 e.amp.re f.0, (to_bits-lt binary64 e.amp.im f.1, tt))

pub flat-words : (rs : List (List ℕ)) → All Words rs → Words (flat rs)
unfolding flat
flat-words [] h = tt
flat-words (r ∷ rs) h = all_append (λ v. v < 2 ^ 64) r (flat rs) h.0 (flat-words rs h.1)

pub sets-words : (l : List ℕ) (i : ℕ) (a : List ℕ) → Words l → Words a → Words (sets l i a)
sets-words l i [] w h = w
sets-words l i (x ∷ a) w h = sets-words (set l i x) (suc i) a (all_set (λ v. v < 2 ^ 64) l i x h.0 w) h.1

counted_words : (n : ℕ) (ws : List ℕ) (i c : ℕ) → Words ws → All Words (counted n ws i c)
unfolding counted record_at
counted_words n ws i zero w = tt
counted_words n ws i (suc c) w = (all_take (λ v. v < 2 ^ 64) (n + 2) (drop (i * (n + 2)) ws) (all_drop (λ v. v < 2 ^ 64) (i * (n + 2)) ws w), counted_words n ws (suc i) c w)

pub part-words : (n : ℕ) (ws : List ℕ) (i e : ℕ) → Words ws → All Words (part n ws i e)
unfolding part
part-words n ws i e w = counted_words n ws i (e - i) w
