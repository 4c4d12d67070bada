-- `text::words::read_words` meets its contract. Assumes nothing.
use Rattle.std.proofs.Common.{◌≡◌, ◌*◌, ◌/◌, ◌<◌, ◌∙◌, sym, ap, length, get_or, take, drop, List, [], ℕ, arith}
use Rattle.std.specs.Int.{w64, from_le_bytes}
use Rattle.text.specs.Words.{word_at}
use Rattle.text.specs.Laws.{words-all, words_step, words-none, library_reads, eight_at}
use Rattle.text.proofs.words.read_words.Goals as goal

pub loop-k-init : goal.loop-k-init
loop-k-init c =
    words-all c.args.bytes.now c.args.words.now

pub loop-k-preserved : goal.loop-k-preserved
loop-k-preserved c =
    let bs = c.args.bytes.now in
    let l = c.loop-k in
    let more : l.k < length bs / 8 = omega (arith, c.as_chunks.ensures.front_len) in
    let eight : get_or c.as_chunks.result.0.now l.k [] ≡ take 8 (drop (8 * l.k) bs) = ap (λ (es : List (List ℕ)). get_or es l.k []) c.as_chunks.ensures.front ∙ eight_at (length bs / 8) l.k bs more in
    let e : c.from_le_bytes.result ≡ word_at bs (8 * l.k) = c.from_le_bytes.ensures ∙ ap (from_le_bytes w64) eight ∙ library_reads bs (8 * l.k) (omega arith) in
    rw e (words_step bs l.words l.k (length bs / 8) more ∙ l.invariant)

pub returns : goal.returns
returns c =
    let bs = c.args.bytes.now in
    let l = c.loop-k in
    sym (words-none bs l.words l.k (length bs / 8) (omega (arith, c.as_chunks.ensures.front_len))) ∙ l.invariant
