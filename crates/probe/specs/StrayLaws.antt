-- Laws of stray bytes, the last ones of a slice that is no whole words: what the tables make of the
-- words that a call is lent of such a slice. What the calls give is in ByteLaws. Assumes nothing.
use Rattle.std.specs.Prelude.{◌≡◌, ℕ, ◌/◌, ◌%◌, Bool, not, cond, ◌&&◌, eqb, Err, Ok}
use Rattle.std.proofs.Math.Path.{refl}
use Rattle.std.proofs.Common.{ap, sym, ◌∙◌, arith}
use mathlib.Core.List.{List, [], ◌∷◌, ◌++◌}
use Rattle.std.proofs.Math.Bool.{true, false}
use borrow.Author.Tests.{eq-eqb, ne_eqb, eqb-true, eqb-false}
use Rattle.std.specs.Float.Ieee.{of_bits}
use Rattle.std.proofs.Math.ListN.{length, length-append}
use Rattle.keys.specs.Keys.{listed}
use Rattle.statevector.specs.declared.Refusal.TheVariants as no
use Rattle.statevector.specs.declared.State.{State}
use Rattle.dense.specs.Dense.{finite_word, dense_tests}
use Rattle.state.specs.Lookup.{lookup_tests}
use Rattle.statevector.specs.Refusals.{Test, first, Tested}
use Rattle.statevector.specs.Tests.{all, state_tests}
use Rattle.text.specs.Words.{file_words}
use Rattle.text.specs.Laws.{file-words-length}
use Rattle.probe.specs.Files.{whole_words, exact_words, list_words}
use Rattle.statevector.specs.Laws.{fine-sound, tests-rest, tests-refused}

-- a zero more is one finite word more
all-zero : (ws : List ℕ) → all finite_word (ws ++ (0 ∷ [])) ≡ all finite_word ws
unfolding of_bits
all-zero [] = refl
all-zero (w ∷ ws) = ap (λ (b : Bool). finite_word w && b) (all-zero ws)

-- the table of a key with stray bytes: the tests of the state, then 7
abbrev pub key_rows : State → List ℕ → List Test
key_rows s front = state_tests s front [] [] ((true, no.Length) ∷ [])

-- and that of a dense list: 1, then 6 over its whole words, then 7
abbrev pub dense_rows : ℕ → List ℕ → List Test
dense_rows n bs = (not (listed n), no.Width) ∷ (not (all finite_word (file_words bs)), no.NotFinite) ∷ (true, no.Length) ∷ []

module _ (bs : List ℕ) (stray : whole_words bs ≡ false) where
  -- a state, a gate, a key or results are no words
  pub stray-exact : exact_words bs ≡ []
  unfolding exact_words
  stray-exact = rw stray

  -- so a key is not N words: no width of the list is 0
  pub stray-key : (s : State) (front : List ℕ) → first (lookup_tests s front (exact_words bs)) ≡ first (key_rows s front)
  unfolding lookup_tests
  stray-key s front = rw stray-exact (go (first (state_tests s front [] [] [])) refl)
    where
      last : List Test
      last = (not (eqb 0 s.width), no.Length) ∷ []

      go : (t : Tested) → first (state_tests s front [] [] []) ≡ t → first (state_tests s front [] [] last) ≡ first (state_tests s front [] [] ((true, no.Length) ∷ []))
      go (Ok tt) e =
          let w = (fine-sound s front [] [] [] e).some in
          tests-rest s front [] [] last e
          ∙ ap (λ (b : Bool). first ((not b, no.Length) ∷ [])) (ne_eqb 0 s.width (λ z. omega arith))
          ∙ sym (tests-rest s front [] [] ((true, no.Length) ∷ []) e)
      go (Err r) e = tests-refused s front [] [] last r e ∙ sym (tests-refused s front [] [] ((true, no.Length) ∷ []) r e)

  -- a list of steps has words after the last whole step
  pub stray-steps : length (list_words 10 bs) % 10 ≡ 0 → ⊥
  unfolding list_words
  stray-steps = rw stray (go (eqb (length bs / 8 % 10) 0) (eqb-true (length bs / 8 % 10) 0) (eqb-false (length bs / 8 % 10) 0))
    where
      go : (t : Bool) → (t ≡ true → length bs / 8 % 10 ≡ 0) → (t ≡ false → length bs / 8 % 10 ≡ 0 → ⊥) → length (cond t (file_words bs ++ (0 ∷ [])) (file_words bs)) % 10 ≡ 0 → ⊥
      go true y n h = omega (arith, y refl, length-append (file_words bs) (0 ∷ []), file-words-length bs)
      go false y n h = n refl (omega (arith, file-words-length bs))

  -- a dense list is odd
  stray-odd : eqb (length (list_words 2 bs) % 2) 1 ≡ true
  unfolding list_words
  stray-odd = eq-eqb (length (list_words 2 bs) % 2) 1 (rw stray (go (eqb (length bs / 8 % 2) 0) (eqb-true (length bs / 8 % 2) 0) (eqb-false (length bs / 8 % 2) 0)))
    where
      go : (t : Bool) → (t ≡ true → length bs / 8 % 2 ≡ 0) → (t ≡ false → length bs / 8 % 2 ≡ 0 → ⊥) → length (cond t (file_words bs ++ (0 ∷ [])) (file_words bs)) % 2 ≡ 1
      go true y n = omega (arith, y refl, length-append (file_words bs) (0 ∷ []), file-words-length bs)
      go false y n = omega (arith, n refl, file-words-length bs)

  stray-finite : all finite_word (list_words 2 bs) ≡ all finite_word (file_words bs)
  unfolding list_words
  stray-finite = rw stray (go (eqb (length bs / 8 % 2) 0))
    where
      go : (t : Bool) → all finite_word (cond t (file_words bs ++ (0 ∷ [])) (file_words bs)) ≡ all finite_word (file_words bs)
      go true = all-zero (file_words bs)
      go false = refl

  -- so 9 is never reached
  pub stray-dense : (n : ℕ) (target : List ℕ) → first (dense_tests n (list_words 2 bs) target) ≡ first (dense_rows n bs)
  unfolding dense_tests first
  stray-dense n target = rw (stray-finite, stray-odd)
