-- Dense import: pairs re, im of which those that are large enough become part 0 under their index
-- (SPECIFICATION 6.1). What the clause of `import_dense` cites. Assumes nothing.
use Rattle.statevector.specs.declared.Refusal.{Refusal}
use Rattle.std.specs.Prelude.{ℕ, suc, ◌%◌, List, [], ◌∷◌, ◌++◌, Bool, not, eqb, ltb, length, Err, None, Ok, Result}
use Rattle.std.proofs.lemmas.List.Edits.{sets}
use Rattle.std.specs.Float.{binary64}
use Rattle.std.specs.Float.Ieee.{of_bits, le}
use Rattle.std.specs.Float.Ieee.Scale.{finite}
use Rattle.amplitudes.specs.declared.Complex.{Complex}
use Rattle.amplitudes.specs.Amplitudes.{norm_inf, eps}
use Rattle.keys.specs.Keys.{listed, index_key}
use Rattle.merge.specs.Records.{capacity, encode, flat}
use Rattle.merge.specs.Sorting.{choose}
use Rattle.statevector.specs.declared.Refusal.TheVariants as no
use Rattle.statevector.specs.declared.Side.{Side}
use Rattle.statevector.specs.Endings.{Ending, by_front}
use Rattle.statevector.specs.Refusals.{Test, first, if_fine}
use Rattle.statevector.specs.States.{front_of, back_of}
use Rattle.statevector.specs.Tests.{all}
use Rattle.statevector.specs.declared.State.{State}
use Rattle.statevector.specs.Answers.{Response, by_table}

-- the amplitude of two words
abbrev pub dense_amplitude : ℕ → ℕ → Complex
dense_amplitude re im = record { re = of_bits binary64 re; im = of_bits binary64 im }

-- the pair is large enough: its norm_inf is EPS or more
unfoldable pub wanted : Complex → Bool
unfolding le norm_inf
wanted a = le eps (norm_inf a)

-- the records of the wanted pairs, the first pair having index i
unfoldable pub dense_from : ℕ → ℕ → List ℕ → List (List ℕ)
unfolding of_bits wanted encode index_key
dense_from n i [] = []
dense_from n i (re ∷ []) = []
dense_from n i (re ∷ im ∷ ws) =
    choose (wanted (dense_amplitude re im)) (encode (record { key = index_key n i; amp = dense_amplitude re im }) ∷ dense_from n (suc i) ws) (dense_from n (suc i) ws)

-- a word is the pattern of a finite float
abbrev pub finite_word : ℕ → Bool
finite_word w = finite (of_bits binary64 w)

-- the rows that read the list: 6 for any word, 7 for an odd number of them
abbrev pub list_rows : List ℕ → List Test
list_rows words = (not (all finite_word words), no.NotFinite) ∷ (eqb (length words % 2) 1, no.Length) ∷ []

-- 1 before them, 9 after them where the records exceed the store
unfoldable pub dense_tests : ℕ → List ℕ → List ℕ → List Test
unfolding listed of_bits dense_from capacity
dense_tests n words target = (not (listed n), no.Width) ∷ (list_rows words ++ ((ltb (capacity n target) (length (dense_from n 0 words)), no.Full) ∷ []))

-- the state of so many records
abbrev pub dense_state : ℕ → Side → ℕ → State
dense_state n mark count = record { width = n; front = mark; n0 = count; n1 = 0; tag = None }

-- the named store becomes front, with the records laid over its start; the other one stays
unfoldable pub dense_call : ℕ → List ℕ → Side → List ℕ → List ℕ → Ending (Result State Refusal)
unfolding dense_tests first dense_from flat
dense_call n words mark left right =
    let target = front_of mark left right in
    let other = back_of mark left right in
    let rs = dense_from n 0 words in
    by_front mark
    (if_fine (first (dense_tests n words target))
    (record { answer = Ok (dense_state n mark (length rs)); front = sets target 0 (flat rs); back = other })
    (λ r. record { answer = Err r; front = target; back = other }))

-- ---- its number and values, by its table

abbrev pub dense_response : ℕ → List ℕ → Side → List ℕ → List ℕ → Response State
dense_response n words mark left right =
    by_table (dense_tests n words (front_of mark left right)) (dense_state n mark (length (dense_from n 0 words)))
