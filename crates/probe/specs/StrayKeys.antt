-- A comparison on bytes where a key ends in stray bytes: the key is not N words. Assumes nothing.
use Rattle.std.specs.Prelude.{◌≡◌, refl, ℕ, List, [], ◌∷◌, Bool, true, false, not, ◌&&◌, length, Err, Ok, Option}
use Rattle.std.proofs.Common.{sym, ap, ◌∙◌, arith}
use Rattle.std.proofs.lemmas.Bool.{false≢true}
use Rattle.keys.specs.Keys.{listed}
use Rattle.keys.specs.Laws.{width-range}
use Rattle.text.specs.Words.{Bytes, file_words, written}
use Rattle.text.specs.Laws.{written_back}
use Rattle.keys.specs.declared.Compared.{Compared}
use Rattle.statevector.specs.declared.Refusal.TheVariants as no
use Rattle.statevector.specs.Answers.{Response, tested, by}
use Rattle.statevector.specs.Refusals.{Test, first, Tested}
use Rattle.comparison.specs.Comparison.{outside, compared}
use Rattle.state.specs.Laws.{compare-response, wrong_key_rows, compare-wrong-key}
use Rattle.words.specs.Words.{left_out_of, comparison_words, after_reading}
use Rattle.calls.specs.Calls.{compare_at}
use Rattle.numbered.specs.declared.Numbers.{Numbers}
use Rattle.numbered.specs.Numbered.{AfterCall, reading, call_at}
use Rattle.probe.specs.Files.{whole_words, exact_words, arg_words, all_fit, in_bytes, call_bytes}
use Rattle.probe.specs.StrayLaws.{stray-exact}
use Rattle.probe.specs.ByteLaws.{answers, last-refuses, exact, exact-size, exact-back}

-- a key with stray bytes is lent as no words
no_key : (n : ℕ) (bs : List ℕ) → whole_words bs ≡ false → listed n ≡ true → length (exact_words bs) ≡ n → ⊥
no_key n bs stray l e = let z = width-range n l in let o = ap length (stray-exact bs stray) in omega arith

not-both : (n : ℕ) (a b : List ℕ) → (whole_words a && whole_words b) ≡ false → listed n ≡ true → length (exact_words a) ≡ n → length (exact_words b) ≡ n → ⊥
not-both n a b stray l d e = go (whole_words a) (whole_words b) refl refl stray
  where
    go : (x y : Bool) → whole_words a ≡ x → whole_words b ≡ y → (x && y) ≡ false → ⊥
    go false y f g h = no_key n a f l d
    go true false f g h = no_key n b g l e
    go true true f g h = false≢true (sym h)

-- then the first row that applies is told, and nothing changes
pub stray-compare : (ns : Numbers) (state arg arg2 left right third out : List ℕ) → (whole_words arg && whole_words arg2) ≡ false → all_fit state arg arg2 left right third out ≡ true → length out ≡ 16
    → Bytes state → Bytes left → Bytes right → Bytes third → Bytes out
    → call_bytes 12 state ns arg arg2 left right third out ≡ answers (wrong_key_rows ns.a (left_out_of ns.b ns.c)) state left right third out
unfolding call_bytes arg_words call_at compare_at
stray-compare ns state arg arg2 left right third out stray fit two hs hl hr ht ho =
    rw (fit, exact out 2 two, exact-size out 2 two)
    (ap lent (compare-response ns.a skip (exact_words arg) (exact_words arg2))
    ∙ ap (λ (t : Tested). lent (by t found)) (compare-wrong-key ns.a skip (exact_words arg) (exact_words arg2) (not-both ns.a arg arg2 stray))
    ∙ go (first rows) (last-refuses ((not (listed ns.a), no.Width) ∷ (outside ns.a skip, no.Qubit) ∷ []) no.Length)
    ∙ rw (exact-back state hs, written_back left hl, written_back right hr, written_back third ht, written_back out ho))
  where
    skip : Option ℕ
    skip = left_out_of ns.b ns.c

    rows : List Test
    rows = wrong_key_rows ns.a skip

    found : Compared
    found = compared skip (exact_words arg) (exact_words arg2)

    lent : Response Compared → AfterCall
    lent r = in_bytes state left right third out (reading (after_reading comparison_words r (file_words out)) (exact_words state) (file_words left) (file_words right) (file_words third))

    go : (t : Tested) → (t ≡ Ok tt → ⊥) → lent (by t found)
        ≡ record {
          answer = (tested t).number;
          state = written state (exact_words state);
          left = written left (file_words left);
          right = written right (file_words right);
          third = written third (file_words third);
          out = written out (file_words out);
        }
    go (Ok _) h = absurd (h refl)
    go (Err r) h = refl
