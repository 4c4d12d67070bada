-- `replay::judge` meets its contract. Assumes nothing.
use Rattle.std.proofs.Common.{◌≡◌, ℕ, List, Bool, true, false, take, drop, refl, sym, ap, ap₂, ◌∙◌, arith, length-take-le}
use Rattle.replay.specs.declared.sizes.Sizes.{Sizes}
use Rattle.replay.specs.Counting.{seen_of, ItemVerdict, verdict-of}
use Rattle.replay.specs.Items.{words_before, words_after, item_of, not-whole, judged}
use Rattle.replay.proofs.judge.Goals as goal

-- what is said of the parts that words were split into is said of the words
of_words : (h : List ℕ) (n : Sizes) (ws front back : List ℕ) (b a : ℕ) (held r : Bool)
    → front ≡ take b ws → back ≡ drop b ws → b ≡ words_before n → a ≡ words_after n → held ≡ item_of h n front (take a back) → held ≡ r
    → ItemVerdict (seen_of r) (item_of h n (take (words_before n) ws) (take (words_after n) (drop (words_before n) ws)))
of_words h n ws front back b a held r front-is back-is b-is a-is told e =
    let before = front-is ∙ ap (λ (k : ℕ). take k ws) b-is in
    let after = ap₂ (λ (k : ℕ) (x : List ℕ). take k x) a-is (back-is ∙ ap (λ (k : ℕ). drop k ws) b-is) in
    verdict-of {r = seen_of r} {h = r} refl (sym e ∙ told ∙ ap₂ (item_of h n) before after)

pub returns-then-mark-ne0-clause-judged : goal.returns-then-mark-ne0-clause-judged
returns-then-mark-ne0-clause-judged c =
    not-whole _

pub returns-then-holds-clause-judged : goal.returns-then-holds-clause-judged
returns-then-holds-clause-judged c =
    judged c.args.header.now c.args.n.now c.split_at_mut-before.result.0.now (take c.after.result c.split_at_mut-before.result.1.now) c.requires.says (omega (arith, c.split_at_mut-before.ensures.front_len, c.before-2.ensures.value)) (omega (arith, c.after.ensures.value, length-take-le c.after.result c.split_at_mut-before.result.1.now (omega (arith, c.after.ensures.value, c.before-2.ensures.value, c.split_at_mut-before.ensures.back_len, c.requires.words_len)))) (sym c.holds-holds.ensures ∙ c.if-holds.true)

pub returns-else-holds-clause-judged : goal.returns-else-holds-clause-judged
returns-else-holds-clause-judged c =
    judged c.args.header.now c.args.n.now c.split_at_mut-before.result.0.now (take c.after.result c.split_at_mut-before.result.1.now) c.requires.says (omega (arith, c.split_at_mut-before.ensures.front_len, c.before-2.ensures.value)) (omega (arith, c.after.ensures.value, length-take-le c.after.result c.split_at_mut-before.result.1.now (omega (arith, c.after.ensures.value, c.before-2.ensures.value, c.split_at_mut-before.ensures.back_len, c.requires.words_len)))) (sym c.holds-holds.ensures ∙ c.if-holds.false)

pub returns-then-holds-clause-verdict : goal.returns-then-holds-clause-verdict
returns-then-holds-clause-verdict c =
    let split = c.split_at_mut-before in
    of_words c.args.header.now c.args.n.now c.args.words.now split.result.0.now split.result.1.now c.before-2.result c.after.result c.holds-holds.result true
    split.ensures.front split.ensures.back c.before-2.ensures.value c.after.ensures.value c.holds-holds.ensures c.if-holds.true

pub returns-else-holds-clause-verdict : goal.returns-else-holds-clause-verdict
returns-else-holds-clause-verdict c =
    let split = c.split_at_mut-before in
    of_words c.args.header.now c.args.n.now c.args.words.now split.result.0.now split.result.1.now c.before-2.result c.after.result c.holds-holds.result false
    split.ensures.front split.ensures.back c.before-2.ensures.value c.after.ensures.value c.holds-holds.ensures c.if-holds.false
