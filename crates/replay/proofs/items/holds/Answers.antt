-- `replay::items::holds` meets its contract. Assumes nothing.
use Rattle.std.proofs.Common.{◌≡◌, ◌≢◌, ◌+◌, List, ℕ, Bool, true, false, ◌&&◌, MatchBool, length, take, drop, get_or, eqb, refl, sym, ap, ◌∙◌, arith}
use Rattle.std.proofs.Math.Bool.{and_assoc}
use Rattle.std.proofs.Math.Seq.{take-length}
use Rattle.std.proofs.lemmas.List.{drop-drop}
use Rattle.std.specs.Cmp.Lexicographic.{told_text}
use Rattle.keys.specs.Keys.{same}
use Rattle.keys.specs.Laws.{same-is, not_same}
use Rattle.words.specs.Words.{answer_number}
use Rattle.numbered.specs.Numbered.{AfterCall}
use Rattle.replay.specs.Calls.{stands_at, leaves, item_holds}
use Rattle.replay.specs.Items.{parts-of}
use Rattle.replay.proofs.items.holds.Goals as goal

-- what `==` says of a part and of the words of ws that begin `rest`
stands : (ws rest part x : List ℕ) (at n : ℕ) (r : Bool) → MatchBool r (part ≡ x) (part ≢ x)
    → rest ≡ drop at ws → x ≡ take n rest → length part ≡ n → r ≡ stands_at ws at part
stands ws rest part x at n r told rest-is x-is len = go r told ∙ ap (λ (k : List ℕ). same k part) (x-is ∙ (λ i. take (sym len i) (rest-is i)))
  where
    go : (r : Bool) → MatchBool r (part ≡ x) (part ≢ x) → r ≡ same x part
    go true e = sym (same-is x part (sym e))
    go false n = sym (not_same x part (λ e. n (sym e)))

-- what follows the next n words
following : (ws rest rest' : List ℕ) (at n m : ℕ) → rest ≡ drop at ws → rest' ≡ drop n rest → m ≡ n → rest' ≡ drop (at + m) ws
following ws rest rest' at n m rest-is rest'-is e = rest'-is ∙ (λ i. drop (sym e i) (rest-is i)) ∙ drop-drop m at ws

grouped : (o : AfterCall) (ws : List ℕ) (answer : ℕ)
    → (stands_at ws 0 o.state && stands_at ws (length o.state) o.left && stands_at ws (length o.state + length o.left) o.right && stands_at ws (length o.state + length o.left + length o.right) o.third
    && stands_at ws (length o.state + length o.left + length o.right + length o.third) o.out && eqb o.answer answer)
    ≡ leaves o ws answer
grouped o ws answer = simp and_assoc

pub returns : goal.returns
unfolding item_holds
returns c =
    let a = c.args in
    let state = c.split_at_mut-state in
    let arg = c.split_at_mut-arg in
    let arg2 = c.split_at_mut-arg2 in
    let left = c.split_at_mut-left in
    let right = c.split_at_mut-right in
    let third = c.split_at_mut-third in
    let lent = c.call.new.lent in
    let s : length lent.0 ≡ a.n.now.state = omega arith in
    let l : length lent.1.0 ≡ a.n.now.left = omega arith in
    let r : length lent.1.1.0 ≡ a.n.now.right = omega arith in
    let t : length lent.1.1.1.0 ≡ a.n.now.third = omega arith in
    let ws = a.after.now in
    let from_left = c.split_at.ensures.back ∙ ap (λ (n : ℕ). drop n ws) (sym s) in
    let from_right = following ws _ _ _ _ _ from_left c.split_at-2.ensures.back l in
    let from_third = following ws _ _ _ _ _ from_right c.split_at-3.ensures.back r in
    let from_out = following ws _ _ _ _ _ from_third c.split_at-4.ensures.back t in
    let state_after = c.split_at.result.0.now in
    let left_after = c.split_at-2.result.0.now in
    let right_after = c.split_at-3.result.0.now in
    let third_after = c.split_at-4.result.0.now in
    let out_after = c.split_at-4.result.1.now in
    let o : length lent.1.1.1.1.0 ≡ length out_after = omega arith in
    rw (
      stands ws ws lent.0 state_after 0 _ c.eq.result (told_text _ state_after c.eq.result c.eq.ensures) refl c.split_at.ensures.front s,
      stands ws _ lent.1.0 left_after _ _ c.eq-2.result (told_text _ left_after c.eq-2.result c.eq-2.ensures) from_left c.split_at-2.ensures.front l,
      stands ws _ lent.1.1.0 right_after _ _ c.eq-3.result (told_text _ right_after c.eq-3.result c.eq-3.ensures) from_right c.split_at-3.ensures.front r,
      stands ws _ lent.1.1.1.0 third_after _ _ c.eq-4.result (told_text _ third_after c.eq-4.result c.eq-4.ensures) from_third c.split_at-4.ensures.front t,
      stands ws _ lent.1.1.1.1.0 out_after _ _ c.eq-5.result (told_text _ out_after c.eq-5.result c.eq-5.ensures) from_out (sym (take-length out_after)) o,
      c.answer_number-answer.ensures,
    )
    (grouped (record { answer = answer_number c.call.result; state = lent.0; left = lent.1.0; right = lent.1.1.0; third = lent.1.1.1.0; out = lent.1.1.1.1.0 }) ws (get_or a.header.now 11 0)
    ∙ ap (λ (o : AfterCall). leaves o ws (get_or a.header.now 11 0)) c.call.ensures
    ∙ parts-of a.header.now a.n.now a.before.now ws
    state.ensures.front state.ensures.back arg.ensures.front arg.ensures.back arg2.ensures.front arg2.ensures.back
    left.ensures.front left.ensures.back right.ensures.front right.ensures.back third.ensures.front third.ensures.back)
