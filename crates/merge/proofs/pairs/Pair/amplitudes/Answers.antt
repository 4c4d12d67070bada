-- `merge::pairs::Pair::amplitudes` meets its contract. Assumes nothing.
use Rattle.std.proofs.Common.{◌≡◌, ℕ, [], ◌∷◌, sym, ap, ap₂, ◌∙◌, subst}
use Rattle.merge.specs.declared.MergeEq.TheVariants as answer
use Rattle.merge.specs.declared.pairs.Pair.{Pair}
use Rattle.merge.specs.declared.record.Record.{Record}
use Rattle.merge.specs.Laws.{answer-lhs, answer-rhs, answer-both, record-width}
use Rattle.merge.specs.Pairs.{answer_of}
use Rattle.merge.specs.Records.{amplitude_of}
use Rattle.merge.specs.Walks.{InPair, Whole, records_of}
use Rattle.merge.proofs.pairs.Pair.amplitudes.Goals as goal

-- by the width that a record has among others
wide : (n : ℕ) (x : Record) → Whole n x.words.now → amplitude_of x.n x.words.now ≡ amplitude_of n x.words.now
wide n x w = ap (λ (m : ℕ). amplitude_of m x.words.now) (record-width n x w)

pub returns-in-Lhs : goal.returns-in-Lhs
returns-in-Lhs c =
    λ n w.
    let v = subst (λ (p : Pair). InPair (Whole n) (records_of p)) c.in-Lhs.is w in
    ap answer.Lhs (c.amplitude.ensures ∙ wide n c.in-Lhs.x v) ∙ sym (ap (λ (p : Pair). answer_of n (records_of p ∷ [])) c.in-Lhs.is ∙ answer-lhs n _ [])

pub returns-in-Rhs : goal.returns-in-Rhs
returns-in-Rhs c =
    λ n w.
    let v = subst (λ (p : Pair). InPair (Whole n) (records_of p)) c.in-Rhs.is w in
    ap answer.Rhs (c.amplitude-in-Rhs.ensures ∙ wide n c.in-Rhs.y v) ∙ sym (ap (λ (p : Pair). answer_of n (records_of p ∷ [])) c.in-Rhs.is ∙ answer-rhs n _ [])

pub returns-in-Both : goal.returns-in-Both
returns-in-Both c =
    λ n w.
    let v = subst (λ (p : Pair). InPair (Whole n) (records_of p)) c.in-Both.is w in
    ap₂ answer.Both (c.amplitude-in-Both.ensures ∙ wide n c.in-Both.x v.0) (c.amplitude-in-Both-2.ensures ∙ wide n c.in-Both.y v.1)
    ∙ sym (ap (λ (p : Pair). answer_of n (records_of p ∷ [])) c.in-Both.is ∙ answer-both n _ _ [])
