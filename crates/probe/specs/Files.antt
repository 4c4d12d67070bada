-- Any call at the C boundary on bytes, which are words as files hold them (SPECIFICATION 1.3,
-- 14.2). What the clauses of src/bytes.rt cite. Assumes nothing.
use Rattle.std.specs.Prelude.{ℕ, ◌*◌, ◌/◌, ◌%◌, List, [], ◌∷◌, ◌++◌, Bool, cond, ◌&&◌, eqb, leb, length}
use Rattle.text.specs.Words.{file_words, written}
use Rattle.words.specs.Words.{wrong_bytes}
use Rattle.numbered.specs.declared.Numbers.{Numbers}
use Rattle.numbered.specs.Numbered.{AfterCall, call_at}

-- ---- lengths

-- the words that the arrays of a call on bytes hold
abbrev pub array_words : ℕ
array_words = 8192

-- a byte length that is no more than an array holds
abbrev pub fitting : ℕ → Bool
fitting n = leb n (8 * array_words)

abbrev pub fits : List ℕ → Bool
fits bs = fitting (length bs)

-- ---- what a call is lent of a slice, which may end in stray bytes that are no whole word. Of a
-- store it is the whole words: stray bytes are outside the capacity

-- no stray bytes
abbrev pub whole_words : List ℕ → Bool
whole_words bs = eqb (length bs % 8) 0

-- a state, a gate, a key or results: with stray bytes the length is wrong, and they are lent as no
-- words
unfoldable pub exact_words : List ℕ → List ℕ
unfolding file_words
exact_words bs = cond (whole_words bs) (file_words bs) []

-- a list that goes by k words: stray bytes belong to a last item that is not whole, so the number
-- of words is no multiple of k
unfoldable pub list_words : ℕ → List ℕ → List ℕ
unfolding file_words
list_words k bs = cond (whole_words bs) (file_words bs) (cond (eqb (length bs / 8 % k) 0) (file_words bs ++ (0 ∷ [])) (file_words bs))

-- the argument of the call with this number: a dense list goes by pairs, a list of steps by ten
-- words, any other argument is a gate or a key
unfoldable pub arg_words : ℕ → List ℕ → List ℕ
unfolding list_words exact_words
arg_words number bs = cond (eqb number 5) (list_words 2 bs) (cond (eqb number 11) (list_words 10 bs) (exact_words bs))

-- ---- calls on bytes

abbrev pub all_fit : List ℕ → List ℕ → List ℕ → List ℕ → List ℕ → List ℕ → List ℕ → Bool
all_fit state arg arg2 left right third out = ((fits state && fits arg) && (fits arg2 && fits left)) && ((fits right && fits third) && fits out)

-- what a call on words leaves, over the bytes
abbrev pub in_bytes : List ℕ → List ℕ → List ℕ → List ℕ → List ℕ → AfterCall → AfterCall
in_bytes state left right third out o =
    record {
      answer = o.answer;
      state = written state o.state;
      left = written left o.left;
      right = written right o.right;
      third = written third o.third;
      out = written out o.out;
    }

-- a call on the words of slices that all fit
abbrev pub call_decoded : ℕ → List ℕ → Numbers → List ℕ → List ℕ → List ℕ → List ℕ → List ℕ → List ℕ → AfterCall
call_decoded number state ns arg arg2 left right third out =
    in_bytes state left right third out
    (call_at number (exact_words state) ns (arg_words number arg) (exact_words arg2) (file_words left) (file_words right) (file_words third) (exact_words out))

-- a run goes in pieces of up to 819 steps: run's law `run-append` says what the pieces of a list
-- give together
unfoldable pub call_bytes : ℕ → List ℕ → Numbers → List ℕ → List ℕ → List ℕ → List ℕ → List ℕ → List ℕ → AfterCall
call_bytes number state ns arg arg2 left right third out =
    cond (all_fit state arg arg2 left right third out)
    (call_decoded number state ns arg arg2 left right third out)
    (record { answer = wrong_bytes; state = state; left = left; right = right; third = third; out = out })
