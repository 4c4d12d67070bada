-- Words of 64 bits as little-endian bytes, one and many, both ways. A byte is a number below 256.
-- What the clauses of src/words.rt cite. Assumes nothing.
use Rattle.std.specs.Prelude.{ℕ, zero, suc, ◌+◌, ◌*◌, ◌/◌, ◌%◌, ◌<◌, List, [], ◌∷◌, ◌++◌, length, get_or, take, drop}
use Rattle.std.proofs.lemmas.List.Edits.{sets}

-- ---- a word

abbrev pub Bytes : List ℕ → Type 0
Bytes bs = (i : ℕ) → get_or bs i 0 < 256

-- the number that bytes stand for, little-endian: the first weighs least
abbrev pub word_of : List ℕ → ℕ
word_of [] = 0
word_of (b ∷ bs) = b + 256 * word_of bs

-- the k bytes of a number, the least first
abbrev pub bytes_of : ℕ → ℕ → List ℕ
bytes_of zero w = []
bytes_of (suc k) w = w % 256 ∷ bytes_of k (w / 256)

-- a word of 8 bytes: the one that begins at byte i, and what is written for w
unfoldable pub word_at : List ℕ → ℕ → ℕ
word_at bs i = word_of (take 8 (drop i bs))

unfoldable pub word_bytes : ℕ → List ℕ
word_bytes w = bytes_of 8 w

-- ---- the form of words in files (SPECIFICATION 1.3)

-- n words from word i on
abbrev pub words_from : List ℕ → ℕ → ℕ → List ℕ
words_from bs i zero = []
words_from bs i (suc n) = word_at bs (8 * i) ∷ words_from bs (i + 1) n

-- the words of a file: stores, keys, dense parts, gates, a state
unfoldable pub file_words : List ℕ → List ℕ
file_words bs = words_from bs 0 (length bs / 8)

abbrev pub file_bytes : List ℕ → List ℕ
file_bytes [] = []
file_bytes (w ∷ ws) = word_bytes w ++ file_bytes ws

-- words over the first bytes of a slice; the bytes after them stay
abbrev pub written : List ℕ → List ℕ → List ℕ
written bs ws = sets bs 0 (file_bytes ws)
