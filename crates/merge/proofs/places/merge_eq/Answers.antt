-- `merge::places::merge_eq` meets its contract: the amplitudes are those of the records that are
-- next. Assumes nothing.
use Prim.Native.Nat.{ℕ, ◌+◌, ◌*◌}
use mathlib.Core.Path.{◌≡◌, sym, ap, ap₂, ◌∙◌}
use Rattle.merge.specs.declared.MergeEq.TheVariants.{Lhs, Rhs, Both}
use Rattle.merge.specs.declared.places.NextEq.{NextEq}
use Rattle.merge.specs.declared.places.NextEq.TheVariants as next
use Rattle.merge.specs.declared.record.Record.{Record}
use Rattle.merge.specs.Laws.{record-from, here, Ahead, ahead_of, answer-lhs, answer-rhs, answer-both, answer-end}
use Rattle.merge.specs.Pairs.{next_eq_of, answer_of}
use Rattle.merge.specs.Records.{record_at, record_from, amplitude_of}
use Rattle.merge.proofs.places.merge_eq.Goals.{Start}
use Rattle.merge.proofs.places.merge_eq.Goals as goal

-- what is next, by the side that was found
ahead : (c : Start) (m : NextEq) → c.args.next ≡ m → (q i e0 j e1 : ℕ) → let a = c.args in
    a.next ≡ next_eq_of (here a.n q a.ws.now i e0 j e1) → Ahead a.n q a.ws.now i e0 j e1 m
ahead c m e q i e0 j e1 f = let a = c.args in ahead_of a.n q a.ws.now i e0 j e1 m (sym e ∙ f)

-- the amplitude of the record that begins at a word
amplitude-of : (c : Start) (x : Record) (i at : ℕ) → let a = c.args in x.n ≡ a.n → x.words.now ≡ record_from a.n a.ws.now at → at ≡ i * (a.n + 2)
    → amplitude_of x.n x.words.now ≡ amplitude_of a.n (record_at a.n a.ws.now i)
amplitude-of c x i at k w e = let a = c.args in ap₂ amplitude_of k (w ∙ record-from a.n i at a.ws.now e)

pub returns-in-Lhs : goal.returns-in-Lhs
returns-in-Lhs c =
    λ q i e0 j e1 p r f.
    let s = (goal.at.returns-in-Lhs c).Start in
    let n = s.args.n in
    let t = ahead s next.Lhs c.in-Lhs.is q i e0 j e1 f in
    ap Lhs (c.amplitude.ensures ∙ amplitude-of s c.at.result i _ c.at.ensures.n_value c.at.ensures.words_value p) ∙ sym (ap (answer_of n) t.1 ∙ answer-lhs n _ _)

pub returns-in-Rhs : goal.returns-in-Rhs
returns-in-Rhs c =
    λ q i e0 j e1 p r f.
    let s = (goal.at.returns-in-Rhs c).Start in
    let n = s.args.n in
    let t = ahead s next.Rhs c.in-Rhs.is q i e0 j e1 f in
    ap Rhs (c.amplitude-in-Rhs.ensures ∙ amplitude-of s c.at-in-Rhs.result j _ c.at-in-Rhs.ensures.n_value c.at-in-Rhs.ensures.words_value r) ∙ sym (ap (answer_of n) t.1 ∙ answer-rhs n _ _)

pub returns-in-Both : goal.returns-in-Both
returns-in-Both c =
    λ q i e0 j e1 p r f.
    let s = (goal.at.returns-in-Both c).Start in
    let n = s.args.n in
    let t = ahead s next.Both c.in-Both.is q i e0 j e1 f in
    ap₂ Both (c.amplitude-lhs.ensures ∙ amplitude-of s c.at-in-Both.result i _ c.at-in-Both.ensures.n_value c.at-in-Both.ensures.words_value p)
    (c.amplitude-rhs.ensures ∙ amplitude-of s c.at-in-Both-2.result j _ c.at-in-Both-2.ensures.n_value c.at-in-Both-2.ensures.words_value r)
    ∙ sym (ap (answer_of n) t.2 ∙ answer-both n _ _ _)

pub returns-in-End : goal.returns-in-End
returns-in-End c =
    λ q i e0 j e1 p r f.
    let s = (goal.at.returns-in-End c).Start in
    let n = s.args.n in
    sym (ap (answer_of n) (ahead s next.End c.in-End.is q i e0 j e1 f) ∙ answer-end n)
