-- What the library reads and writes of a word's bytes is what `Words` says. Assumes nothing.
use Rattle.std.specs.Prelude.{◌≡◌, refl, ℕ, zero, suc, ◌+◌, ◌*◌, ◌/◌, ◌%◌, ◌^◌, ◌<◌, ◌≤◌, List, [], ◌∷◌, ◌++◌, length, get_or, take, drop}
use native.Mathlib.Nat.{div-div-eq-div-mul}
use Rattle.std.proofs.Common.{sym, ap, ap₂, ◌∙◌, pow-suc, append_assoc, arith, drop-drop, length-take, length-drop}
use Rattle.std.specs.Int.{w64, from_le_bytes, to_le_bytes, bytes_low_first}
use Rattle.std.specs.Simd.{first_chunks}
use borrow.Rule.Slice.PartMut.{put_mid}
use Rattle.std.proofs.lemmas.List.Edits.{sets, sets-eq}
use Rattle.text.specs.Words.{word_of, bytes_of, word_at, word_bytes}
use Rattle.text.specs.Laws.Words.{word-bytes-length}

-- ---- a word read

word_from : (bs : List ℕ) → length bs ≡ 8 → from_le_bytes w64 bs ≡ word_of bs
word_from (a ∷ b ∷ c ∷ d ∷ e ∷ f ∷ g ∷ h ∷ []) n = omega arith
word_from _ n = absurd (omega arith)

-- eight bytes from byte i on
pub library_reads : (bs : List ℕ) (i : ℕ) → i + 8 ≤ length bs → from_le_bytes w64 (take 8 (drop i bs)) ≡ word_at bs i
unfolding word_at
library_reads bs i h = word_from (take 8 (drop i bs)) (simp (length-take, length-drop) (omega arith))

-- the eights of a slice
pub eight_at : (k i : ℕ) (bs : List ℕ) → i < k → get_or (first_chunks 8 k bs) i [] ≡ take 8 (drop (8 * i) bs)
eight_at zero i bs h = absurd (omega arith)
eight_at (suc k) zero bs h = refl
eight_at (suc k) (suc i) bs h =
    let n : 8 + 8 * i ≡ 8 * suc i = omega arith in
    eight_at k i (drop 8 bs) (omega arith) ∙ ap (take 8) (drop-drop (8 * i) 8 bs ∙ ap (λ (j : ℕ). drop j bs) n)

-- ---- a word written

low_first : (i k n : ℕ) → bytes_low_first (suc i) k n ≡ bytes_of k (n / 256 ^ suc i)
low_first i zero n = refl
low_first i (suc k) n =
    let e : n / 256 ^ suc (suc i) ≡ n / 256 ^ suc i / 256 = ap (λ (m : ℕ). n / m) (pow-suc 256 (suc i)) ∙ sym (div-div-eq-div-mul n (256 ^ suc i) 256) in
    ap (λ (bs : List ℕ). n / 256 ^ suc i % 256 ∷ bs) (low_first (suc i) k n ∙ ap (bytes_of k) e)

pub library_writes : (w : ℕ) → to_le_bytes w64 w ≡ word_bytes w
unfolding word_bytes
library_writes w = ap (λ (bs : List ℕ). w % 256 ∷ bs) (low_first 0 7 w)

-- eight bytes over those from byte `at` on
pub eight_put : (bs new : List ℕ) (at k w : ℕ) → at + 8 ≤ length bs → k ≡ 8 → new ≡ word_bytes w → put_mid at k bs new ≡ sets bs at (word_bytes w)
eight_put bs new at k w h e f =
    let n = word-bytes-length w in
    ap₂ (λ (j : ℕ) (part : List ℕ). take at bs ++ (part ++ drop j (drop at bs))) (e ∙ sym n) f
    ∙ ap (λ (l : List ℕ). take at bs ++ (word_bytes w ++ l)) (drop-drop (length (word_bytes w)) at bs)
    ∙ sym (append_assoc (take at bs) (word_bytes w) (drop (at + length (word_bytes w)) bs))
    ∙ sym (sets-eq (word_bytes w) bs at (omega arith))
