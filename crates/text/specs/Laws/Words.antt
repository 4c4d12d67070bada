-- Words as bytes: lengths, what a loop over words or bytes does at a turn, and that reading and
-- writing undo each other. Assumes nothing.
use Rattle.std.specs.Prelude.{◌≡◌, refl, ℕ, zero, suc, ◌+◌, ◌-◌, ◌*◌, ◌/◌, ◌%◌, ◌^◌, ◌<◌, ◌≤◌, List, [], ◌∷◌, ◌++◌, length, get_or, set, take, drop}
use Rattle.std.proofs.Common.{sym, ap, ap₂, ◌∙◌, subst, pow-suc, add-one, arith, append-nil, lit<, length-append, length-take, length-drop, drop_of_length-le, take-append-drop, get_or-drop, drop-cons, take_at, drop_at, take-add, length-take-le, drop-drop}
use Rattle.std.proofs.lemmas.List.Edits.{sets}
use Rattle.std.proofs.Math.Seq.{drop-append-add}
use Rattle.keys.specs.Keys.{Words}
use Rattle.keys.specs.Laws.{sets-start, sets-append}
use Rattle.text.specs.Words.{Bytes, word_of, bytes_of, word_at, word_bytes, words_from, file_words, file_bytes, written}

-- ---- bytes

pub bytes_take : (n : ℕ) (l : List ℕ) → Bytes l → Bytes (take n l)
bytes_take zero l h i = lit< tt
bytes_take (suc n) [] h i = lit< tt
bytes_take (suc n) (x ∷ l) h zero = h 0
bytes_take (suc n) (x ∷ l) h (suc i) = bytes_take n l (λ j. h (suc j)) i

pub bytes_drop : (n : ℕ) (l : List ℕ) → Bytes l → Bytes (drop n l)
bytes_drop n l h i = rw get_or-drop (h (n + i))

pub word_below : (bs : List ℕ) → Bytes bs → word_of bs < 256 ^ length bs
word_below [] h = lit< tt
word_below (b ∷ bs) h =
    let l = word_below bs (λ i. h (suc i)) in
    let f : b < 256 = h 0 in
    rw (pow-suc 256 (length bs)) (omega arith)

pub bytes_back : (k w : ℕ) → w < 256 ^ k → word_of (bytes_of k w) ≡ w
bytes_back zero w h = omega arith
bytes_back (suc k) w h =
    let l : w < 256 ^ k * 256 = rw (pow-suc 256 k) at h in
    let e = bytes_back k (w / 256) (omega arith) in
    omega arith

pub word_back : (bs : List ℕ) → Bytes bs → bytes_of (length bs) (word_of bs) ≡ bs
word_back [] h = refl
word_back (b ∷ bs) h =
    let f : b < 256 = h 0 in
    let v = word_of bs in
    let low : (b + 256 * v) % 256 ≡ b = omega arith in
    let high : (b + 256 * v) / 256 ≡ v = omega arith in
    ap₂ (λ (x : ℕ) (xs : List ℕ). x ∷ xs) low (ap (bytes_of (length bs)) high ∙ word_back bs (λ i. h (suc i)))

pub bytes-length : (k w : ℕ) → length (bytes_of k w) ≡ k
bytes-length zero w = refl
bytes-length (suc k) w = ap suc (bytes-length k (w / 256))

-- ---- lengths

pub words-length : (bs : List ℕ) (i n : ℕ) → length (words_from bs i n) ≡ n
words-length bs i zero = refl
words-length bs i (suc n) = ap suc (words-length bs (i + 1) n)

pub file-words-length : (bs : List ℕ) → length (file_words bs) ≡ length bs / 8
unfolding file_words
file-words-length bs = words-length bs 0 (length bs / 8)

pub word-bytes-length : (w : ℕ) → length (word_bytes w) ≡ 8
unfolding word_bytes
word-bytes-length w = bytes-length 8 w

pub file-bytes-length : (ws : List ℕ) → length (file_bytes ws) ≡ 8 * length ws
file-bytes-length [] = refl
file-bytes-length (w ∷ ws) = let e = file-bytes-length ws in let f = word-bytes-length w in simp length-append (omega arith)

-- ---- a turn

pub words_step : (bs words : List ℕ) (k n : ℕ) → k < n → sets (set words k (word_at bs (8 * k))) (k + 1) (words_from bs (k + 1) (n - (k + 1))) ≡ sets words k (words_from bs k (n - k))
words_step bs words k n h =
    let e : n - k ≡ suc (n - (k + 1)) = omega arith in rw (e, add-one k)

pub words-all : (bs words : List ℕ) → sets words 0 (words_from bs 0 (length bs / 8 - 0)) ≡ sets words 0 (file_words bs)
unfolding file_words
words-all bs words = let e : length bs / 8 - 0 ≡ length bs / 8 = omega arith in rw e

pub words-none : (bs words : List ℕ) (k n : ℕ) → n ≤ k → sets words k (words_from bs k (n - k)) ≡ words
words-none bs words k n h = let e : n - k ≡ 0 = omega arith in rw e

pub bytes-step : (ws bytes : List ℕ) (k : ℕ) → k < length ws
    → sets (sets bytes (8 * k) (word_bytes (get_or ws k 0))) (8 * (k + 1)) (file_bytes (drop (k + 1) ws)) ≡ sets bytes (8 * k) (file_bytes (drop k ws))
bytes-step ws bytes k h =
    let e : 8 * k + length (word_bytes (get_or ws k 0)) ≡ 8 * (k + 1) = omega (arith, word-bytes-length (get_or ws k 0)) in
    sym (ap (λ (l : List ℕ). sets bytes (8 * k) (file_bytes l)) (drop-cons ws k 0 h)
    ∙ sets-append bytes (8 * k) (word_bytes (get_or ws k 0)) (file_bytes (drop (suc k) ws))
    ∙ rw (e, add-one k))

pub bytes-none : (ws bytes : List ℕ) (k : ℕ) → length ws ≤ k → sets bytes (8 * k) (file_bytes (drop k ws)) ≡ bytes
bytes-none ws bytes k h = rw (drop_of_length-le ws {i = k} h)

-- ---- as many words as a slice has take all of its places

pub words-fill : (bs words : List ℕ) → length bs ≡ 8 * length words → sets words 0 (file_words bs) ≡ words_from bs 0 (length words)
unfolding file_words
words-fill bs words h =
    let n : length bs / 8 ≡ length words = omega arith in
    let l : length (words_from bs 0 (length words)) ≡ length words = words-length bs 0 (length words) in
    rw n (sets-start (words_from bs 0 (length words)) words (omega arith) ∙ rw (l, drop_of_length-le words {i = length words} (omega arith)) (append-nil (words_from bs 0 (length words))))

-- ---- there and back

-- the bytes of a word that was read are those that it was read from
word_read : (bs : List ℕ) (at : ℕ) → Bytes bs → at + 8 ≤ length bs → word_bytes (word_at bs at) ≡ take 8 (drop at bs)
unfolding word_at word_bytes
word_read bs at h r =
    let s = take 8 (drop at bs) in
    let n : length s ≡ 8 = simp (length-take, length-drop) (omega arith) in
    subst (λ (k : ℕ). bytes_of k (word_of s) ≡ s) n (word_back s (bytes_take 8 (drop at bs) (bytes_drop at bs h)))

words-read : (bs : List ℕ) → Bytes bs → (i n : ℕ) → 8 * i + 8 * n ≤ length bs → file_bytes (words_from bs i n) ≡ take (8 * n) (drop (8 * i) bs)
words-read bs h i zero r = refl
words-read bs h i (suc n) r =
    let here = word_read bs (8 * i) h (omega arith) in
    let rest = words-read bs h (i + 1) n (omega arith) in
    let next : 8 * i + 8 ≡ 8 * (i + 1) = omega arith in
    let count : 8 * suc n ≡ 8 + 8 * n = omega arith in
    rw (here, rest, count, take-add 8 (8 * n) (drop (8 * i) bs), drop-drop 8 (8 * i) bs, next)

-- so a slice whose words stay is left as it was, and as many other words leave its stray last bytes
pub written_back : (bs : List ℕ) → Bytes bs → written bs (file_words bs) ≡ bs
unfolding file_words
written_back bs h =
    let n = length bs / 8 in
    let e = words-read bs h 0 n (omega arith) in
    let l : length (take (8 * n) bs) ≡ 8 * n = length-take-le (8 * n) bs (omega arith) in
    ap (sets bs 0) e ∙ sets-start (take (8 * n) bs) bs (omega arith) ∙ rw l (take-append-drop (8 * n) bs)

pub stray-stay : (bs ws : List ℕ) → length ws ≡ length bs / 8 → drop (8 * (length bs / 8)) (written bs ws) ≡ drop (8 * (length bs / 8)) bs
stray-stay bs ws e =
    let n : length (file_bytes ws) ≡ 8 * (length bs / 8) = omega (arith, file-bytes-length ws) in
    ap (drop (8 * (length bs / 8))) (sets-start (file_bytes ws) bs (omega arith)) ∙ drop_at (file_bytes ws) _ (8 * (length bs / 8)) n ∙ rw n

-- the words after the first
next_word : (a bs : List ℕ) → length a ≡ 8 → (i : ℕ) → word_at (a ++ bs) (8 * (i + 1)) ≡ word_at bs (8 * i)
unfolding word_at
next_word a bs e i =
    let at : 8 * (i + 1) ≡ length a + 8 * i = omega arith in
    ap (λ (k : ℕ). word_of (take 8 (drop k (a ++ bs)))) at ∙ ap (λ (l : List ℕ). word_of (take 8 l)) (drop-append-add a bs (8 * i))

words-shift : (a bs : List ℕ) → length a ≡ 8 → (i n : ℕ) → words_from (a ++ bs) (i + 1) n ≡ words_from bs i n
words-shift a bs e i zero = refl
words-shift a bs e i (suc n) = ap₂ (λ (w : ℕ) (ws : List ℕ). w ∷ ws) (next_word a bs e i) (words-shift a bs e (i + 1) n)

first_word : (w : ℕ) (bs : List ℕ) → w < 2 ^ 64 → word_at (word_bytes w ++ bs) 0 ≡ w
unfolding word_at word_bytes
first_word w bs h = ap word_of (take_at (bytes_of 8 w) bs 8 (bytes-length 8 w)) ∙ bytes_back 8 w h

pub read_back : (ws : List ℕ) → Words ws → file_words (file_bytes ws) ≡ ws
unfolding file_words
read_back ws h = let e : length (file_bytes ws) / 8 ≡ length ws = omega (arith, file-bytes-length ws) in ap (words_from (file_bytes ws) 0) e ∙ go ws h
  where
    go : (ws : List ℕ) → Words ws → words_from (file_bytes ws) 0 (length ws) ≡ ws
    go [] h = refl
    go (w ∷ ws) h =
        ap₂ (λ (w : ℕ) (ws : List ℕ). w ∷ ws) (first_word w (file_bytes ws) h.0)
        (words-shift (word_bytes w) (file_bytes ws) (word-bytes-length w) 0 (length ws) ∙ go ws h.1)
