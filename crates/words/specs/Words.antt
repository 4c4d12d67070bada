-- How a state and the results of calls stand at the C boundary (SPECIFICATION 14.1): as words of 64
-- bits. What the clauses of src/, and of the crates above, cite. Assumes nothing.
use Rattle.std.specs.declared.cmp.Ordering.{Ordering}
use Rattle.std.specs.declared.cmp.Ordering.TheVariants.{Less, Equal, Greater}
use Rattle.std.specs.Prelude.{◌≡◌, ◌≢◌, ℕ, suc, ◌-◌, ◌^◌, List, [], ◌∷◌, Bool, cond, eqb, Float, ℤ, pos, negsuc, length, get_or, None, Option, Some, Err, Ok, Result, MatchResult}
use Rattle.std.specs.Float.{binary64}
use Rattle.std.specs.Float.Ieee.{to_bits}
use Rattle.std.proofs.lemmas.List.Edits.{sets}
use Rattle.keys.specs.declared.Compared.{Compared}
use Rattle.amplitudes.specs.declared.Complex.{Complex}
use Rattle.statevector.specs.declared.Side.{Side}
use Rattle.statevector.specs.declared.Side.TheVariants.{Left, Right}
use Rattle.statevector.specs.declared.State.{State}
use Rattle.statevector.specs.Answers.{Response}
use Rattle.statevector.specs.Refusals.{number_of}
use Rattle.words.specs.declared.errors.CallError.{CallError}
use Rattle.words.specs.declared.errors.CallError.TheVariants.{Refused, WrongLength, WrongBytes, NoCall}

-- ---- a state: width, front, n0, n1, whether it has a tag, the tag

-- how many words a state has, a gate, and the results of a gate that is done: none as yet
abbrev pub state_size : ℕ
state_size = 6

abbrev pub gate_size : ℕ
gate_size = 8

abbrev pub gate_results : ℕ
gate_results = 0

-- the front mark: 0 is left, any other number right
abbrev pub side_of : ℕ → Side
side_of n = cond (eqb n 0) Left Right

abbrev pub side_word : Side → ℕ
side_word Left = 0
side_word Right = 1

-- a flag, 0 for no tag, and the qubit
abbrev pub tag_of : ℕ → ℕ → Option ℕ
tag_of flag q = cond (eqb flag 0) None (Some q)

abbrev pub tag_flag : Option ℕ → ℕ
tag_flag None = 0
tag_flag (Some q) = 1

abbrev pub tag_word : Option ℕ → ℕ
tag_word None = 0
tag_word (Some q) = q

unfoldable pub state_of : List ℕ → State
state_of ws =
    record { width = get_or ws 0 0; front = side_of (get_or ws 1 0); n0 = get_or ws 2 0; n1 = get_or ws 3 0; tag = tag_of (get_or ws 4 0) (get_or ws 5 0) }

abbrev pub state_words : State → List ℕ
state_words s = s.width ∷ side_word s.front ∷ s.n0 ∷ s.n1 ∷ tag_flag s.tag ∷ tag_word s.tag ∷ []

-- ---- results

-- whether there is an amplitude, and its two patterns
abbrev pub amplitude_words : Option Complex → List ℕ
amplitude_words None = 0 ∷ 0 ∷ 0 ∷ []
amplitude_words (Some a) = 1 ∷ to_bits binary64 a.re ∷ to_bits binary64 a.im ∷ []

-- the patterns of the sums for outcomes 0 and 1
abbrev pub sum_words : (Float × Float) → List ℕ
sum_words p = to_bits binary64 p.0 ∷ to_bits binary64 p.1 ∷ []

-- a signed number in two's complement
abbrev pub signed_word : ℤ → ℕ
signed_word (pos n) = n
signed_word (negsuc n) = 2 ^ 64 - suc n

abbrev pub change_words : ℤ → List ℕ
change_words d = signed_word d ∷ []

-- a comparison leaves out a qubit by a flag, 0 for none, and gives the order as -1, 0 or 1 and the
-- number of pairs of words
abbrev pub left_out_of : ℕ → ℕ → Option ℕ
left_out_of flag q = cond (eqb flag 0) None (Some q)

abbrev pub order_word : Ordering → ℕ
order_word Less = signed_word (negsuc 0)
order_word Equal = 0
order_word Greater = 1

abbrev pub comparison_words : Compared → List ℕ
comparison_words c = order_word c.order ∷ c.pairs ∷ []

-- ---- a call's words

-- the words that a call gives over the first of a lent slice, where it gives some; else the slice
-- stays
abbrev pub given_over : {A : Type 0} → (A → List ℕ) → Option A → List ℕ → List ℕ
given_over words None ws = ws
given_over words (Some a) ws = sets ws 0 (words a)

-- what a call that makes a state leaves: its number, the state's words, both stores
pub record AfterMaking : Type 0 where
  pub answer : ℕ
  pub state : List ℕ
  pub left : List ℕ
  pub right : List ℕ

abbrev pub after_making : Response State → List ℕ → List ℕ → List ℕ → AfterMaking
after_making t state left right =
    record { answer = t.number; state = given_over state_words t.values state; left = left; right = right }

-- what a call that reads leaves: its number, and the slice for results
pub record AfterReading : Type 0 where
  pub answer : ℕ
  pub out : List ℕ

abbrev pub after_reading : {A : Type 0} → (A → List ℕ) → Response A → List ℕ → AfterReading
after_reading words t out = record { answer = t.number; out = given_over words t.values out }

-- what a call that does both leaves
pub record AfterBoth : Type 0 where
  pub answer : ℕ
  pub state : List ℕ
  pub left : List ℕ
  pub right : List ℕ
  pub out : List ℕ

abbrev pub with_results : AfterMaking → List ℕ → AfterBoth
with_results o out = record { answer = o.answer; state = o.state; left = o.left; right = o.right; out = out }

-- ---- lengths and numbers

-- what a call answers, no refusal number, where a state, a gate or a slice for results has the
-- wrong length; then it changes nothing
abbrev pub wrong_length : ℕ
wrong_length = 100

-- the same where a slice has more bytes than fit
abbrev pub wrong_bytes : ℕ
wrong_bytes = 101

-- and where there is no such call
abbrev pub no_call : ℕ
no_call = 102

abbrev pub has_words : ℕ → List ℕ → Bool
has_words n ws = eqb (length ws) n

-- the number of an error, and that of an answer, 0 where the call was done
abbrev pub error_number : CallError → ℕ
error_number (Refused r) = number_of r
error_number WrongLength = wrong_length
error_number WrongBytes = wrong_bytes
error_number NoCall = no_call

abbrev pub answer_number : Result (Unit {0}) CallError → ℕ
answer_number (Ok _) = 0
answer_number (Err e) = error_number e

-- what is read of a lent slice that is to have n words
abbrev pub Reads : {A : Type 0} → Result A CallError → ℕ → List ℕ → A → Type 0
Reads r n ws a = MatchResult r (λ b. (length ws ≡ n) × (b ≡ a)) (λ e. (length ws ≢ n) × (e ≡ WrongLength))
