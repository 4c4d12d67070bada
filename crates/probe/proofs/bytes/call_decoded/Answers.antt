-- `probe::bytes::call_decoded` meets its contract: a call leaves as many words as it was lent.
-- Assumes nothing.
use Rattle.std.proofs.Common.{ap, ◌∙◌, length}
use Rattle.probe.proofs.Decoding.{whole-inside, exact-inside, as-many}
use Rattle.probe.proofs.bytes.call_decoded.Goals as goal

pub put_words-requires : goal.put_words-requires
put_words-requires c =
    as-many _ _ _ (c.call-answer.auto.lent.0 ∙ ap length (c.as_mut_words-s.ensures.value ∙ c.exact.ensures)) (exact-inside c.args.lent.state.now)

pub put_words-requires-2 : goal.put_words-requires-2
put_words-requires-2 c =
    as-many _ _ _ (c.call-answer.auto.lent.1.0 ∙ ap length (c.as_mut_words-l.ensures.value ∙ c.whole.ensures)) (whole-inside c.args.lent.left.now)

pub put_words-requires-3 : goal.put_words-requires-3
put_words-requires-3 c =
    as-many _ _ _ (c.call-answer.auto.lent.1.1.0 ∙ ap length (c.as_mut_words-r.ensures.value ∙ c.whole-2.ensures)) (whole-inside c.args.lent.right.now)

pub put_words-requires-4 : goal.put_words-requires-4
put_words-requires-4 c =
    as-many _ _ _ (c.call-answer.auto.lent.1.1.1.0 ∙ ap length (c.as_mut_words-t.ensures.value ∙ c.whole-3.ensures)) (whole-inside c.args.lent.third.now)

pub put_words-requires-5 : goal.put_words-requires-5
put_words-requires-5 c =
    as-many _ _ _ (c.call-answer.auto.lent.1.1.1.1.0 ∙ ap length (c.as_mut_words-o.ensures.value ∙ c.exact-2.ensures)) (exact-inside c.args.lent.out.now)
