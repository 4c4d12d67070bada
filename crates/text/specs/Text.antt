-- What the clauses of src/ cite: numbers as text, and the lines that the program `trial` prints
-- (SPECIFICATION 9.2). A text is the list of its bytes in ASCII. Assumes nothing.
use Rattle.std.specs.Prelude.{ℕ, zero, suc, ◌+◌, ◌/◌, ◌%◌, ◌≡◌, List, [], ◌∷◌, ◌++◌, Bool, true, false, cond, ltb, length, Option, None, Some}
use Rattle.std.proofs.lemmas.List.Edits.{sets}

-- ---- numbers as text

-- a digit below 16: 0 to 9 from 48 on, then a to f from 97 on
unfoldable pub digit_of : ℕ → ℕ
digit_of d = cond (ltb d 10) (48 + d) (87 + d)

-- the last k digits of n in a base, the most significant first
abbrev pub digits : ℕ → ℕ → ℕ → List ℕ
digits base zero n = []
digits base (suc k) n = digits base k (n / base) ++ (digit_of (n % base) ∷ [])

-- how many decimal digits n has, where 1 + more of them are enough
unfoldable pub places : ℕ → ℕ → ℕ
places zero n = 1
places (suc more) n = cond (ltb n 10) 1 (suc (places more (n / 10)))

-- a word in decimal, without leading zeros: 20 digits are enough
unfoldable pub decimal_of : ℕ → List ℕ
decimal_of n = digits 10 (places 19 n) n

-- a word in hexadecimal: 16 digits
unfoldable pub hex_of : ℕ → List ℕ
hex_of w = digits 16 16 w

-- ---- what a part and a line leave: the text in its place and every other byte as it was, and the place after it or the line's length
pub record Put (old : List ℕ) (at : ℕ) (text new : List ℕ) (next : ℕ) : Type 0 where
  pub bytes : new ≡ sets old at text
  pub after : next ≡ at + length text

pub record Line (old text new : List ℕ) (n : ℕ) : Type 0 where
  pub bytes : new ≡ sets old 0 text
  pub size : n ≡ length text

-- ---- the words that the lines have

-- "step "
abbrev pub step_text : List ℕ
step_text = 115 ∷ 116 ∷ 101 ∷ 112 ∷ 32 ∷ []

-- " answer "
abbrev pub answer_text : List ℕ
answer_text = 32 ∷ 97 ∷ 110 ∷ 115 ∷ 119 ∷ 101 ∷ 114 ∷ 32 ∷ []

-- " sizes "
abbrev pub sizes_text : List ℕ
sizes_text = 32 ∷ 115 ∷ 105 ∷ 122 ∷ 101 ∷ 115 ∷ 32 ∷ []

-- " sums "
abbrev pub sums_text : List ℕ
sums_text = 32 ∷ 115 ∷ 117 ∷ 109 ∷ 115 ∷ 32 ∷ []

-- "tag "
abbrev pub tag_text : List ℕ
tag_text = 116 ∷ 97 ∷ 103 ∷ 32 ∷ []

-- "none"
abbrev pub none_text : List ℕ
none_text = 110 ∷ 111 ∷ 110 ∷ 101 ∷ []

-- " "
abbrev pub space : List ℕ
space = 32 ∷ []

-- the end of a line
abbrev pub newline : List ℕ
newline = 10 ∷ []

-- ---- lines

-- step I answer A sizes N0 N1
unfoldable pub step_head : ℕ → ℕ → ℕ → ℕ → List ℕ
step_head i answer n0 n1 =
    (step_text ++ decimal_of i)
    ++ (answer_text ++ decimal_of answer)
    ++ (sizes_text ++ decimal_of n0)
    ++ (space ++ decimal_of n1)

unfoldable pub step_line : ℕ → ℕ → ℕ → ℕ → List ℕ
step_line i answer n0 n1 = step_head i answer n0 n1 ++ newline

-- step I answer A sizes N0 N1 sums S0 S1
unfoldable pub step_line_with_sums : ℕ → ℕ → ℕ → ℕ → ℕ → ℕ → List ℕ
step_line_with_sums i answer n0 n1 s0 s1 = step_head i answer n0 n1 ++ (sums_text ++ hex_of s0) ++ (space ++ hex_of s1) ++ newline

-- with the sums where there are two
unfoldable pub step_text_of : ℕ → ℕ → ℕ → ℕ → Option (ℕ × ℕ) → List ℕ
unfolding step_line step_line_with_sums
step_text_of i answer n0 n1 None = step_line i answer n0 n1
step_text_of i answer n0 n1 (Some (s0, s1)) = step_line_with_sums i answer n0 n1 s0 s1

-- tag Q, and tag none where no qubit is tagged
unfoldable pub tag_line : Bool → ℕ → List ℕ
tag_line true q = (tag_text ++ decimal_of q) ++ newline
tag_line false q = tag_text ++ none_text ++ newline

unfoldable pub tag_text_of : Option ℕ → List ℕ
unfolding tag_line
tag_text_of None = tag_line false 0
tag_text_of (Some q) = tag_line true q

-- KEY RE IM
unfoldable pub record_line : ℕ → ℕ → ℕ → List ℕ
record_line key re im = hex_of key ++ (space ++ hex_of re) ++ (space ++ hex_of im) ++ newline
