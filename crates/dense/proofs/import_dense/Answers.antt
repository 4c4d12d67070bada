-- `dense::import_dense` meets its contract: the call by what its passes give. Assumes nothing.
-- ---- what the tests of the list say
-- ---- the call by them
use Rattle.statevector.specs.declared.State.{State}
use Rattle.std.specs.Prelude.{Err, Ok, Result}
use Prim.Native.Nat.{ℕ, ◌<◌}
use mathlib.Core.Path.{◌≡◌, refl, sym, ap, ap₂, ◌∙◌, subst}
use mathlib.Core.List.{List, [], ◌∷◌}
use mathlib.Core.Bool.{true, false, not}
use borrow.Author.Tests.{not-false}
use lib.Dec.{ltb}
use lib.ListN.{length}
use Rattle.std.proofs.lemmas.Result.{err_from_is_err_and}
use Rattle.keys.specs.Keys.{listed}
use Rattle.merge.specs.Laws.{width-range}
use Rattle.merge.specs.Records.{capacity}
use Rattle.statevector.specs.declared.Refusal.{Refusal}
use Rattle.statevector.specs.declared.Refusal.TheVariants as no
use Rattle.statevector.specs.declared.Side.{Side}
use Rattle.statevector.specs.declared.Side.TheVariants.{Left, Right}
use Rattle.dense.specs.Dense.{dense_from, dense_tests, dense_call, finite_word, list_rows}
use Rattle.dense.specs.Passes.{wanted_in, counted_of, dense_by, dense_over}
use Rattle.statevector.specs.Endings.{Ending, by_front}
use Rattle.statevector.specs.Refusals.{Test, first, if_fine, Tested}
use Rattle.statevector.specs.States.{front_of, back_of}
use Rattle.statevector.specs.Tests.{all}
use Rattle.statevector.specs.Laws.{fine-first, first-after, first-before, both-clauses}
use Rattle.dense.specs.Laws.{record-count, dense-response}
use Rattle.statevector.specs.Answers.{made-response}
use Rattle.dense.proofs.import_dense.Goals.{Else-not-is_width, In_ok-count}
use Rattle.dense.proofs.import_dense.Goals as goal

Told : List ℕ → Result ℕ Refusal → Type 0
Told ws (Ok c) = (first (list_rows ws) ≡ Ok tt) × (c ≡ wanted_in ws)
Told ws (Err r) = first (list_rows ws) ≡ Err r

told : (ws : List ℕ) (c : Result ℕ Refusal) → c ≡ counted_of ws → Told ws c
unfolding counted_of Told
told ws c e = subst (Told ws) (sym e) (go (first (list_rows ws)) refl)
  where
    go : (t : Tested) → first (list_rows ws) ≡ t → Told ws (if_fine t (Ok (wanted_in ws)) (λ r. Err r))
    go (Ok tt) f = (f, refl)
    go (Err r) f = f

list-finite : (ws : List ℕ) → first (list_rows ws) ≡ Ok tt → all finite_word ws ≡ true
list-finite ws e = not-false _ (fine-first (not (all finite_word ws)) no.NotFinite _ e).0

module _ (n : ℕ) (ws : List ℕ) (mark : Side) (left right : List ℕ) where
  -- both stores as they were
  abbrev refused_with : Refusal → Ending (Result State Refusal)
  refused_with r = record { answer = Err r; left = left; right = right }

  stays : (m : Side) (r : Refusal) → by_front m (dense_by (Err r) n m (dense_from n 0 ws) (front_of m left right) (back_of m left right)) ≡ refused_with r
  stays Left r = refl
  stays Right r = refl

  narrow : listed n ≡ false → dense_call n ws mark left right ≡ refused_with no.Width
  unfolding dense_call dense_tests first
  narrow e = rw e (stays mark no.Width)

  -- the test of the store
  abbrev room_row : List Test
  room_row = (ltb (capacity n (front_of mark left right)) (length (dense_from n 0 ws)), no.Full) ∷ []

  refused : listed n ≡ true → (r : Refusal) → first (list_rows ws) ≡ Err r → dense_call n ws mark left right ≡ refused_with r
  unfolding dense_call dense_tests first
  refused l r e = rw (l, first-before (list_rows ws) room_row r e) (stays mark r)

  laid : listed n ≡ true → first (list_rows ws) ≡ Ok tt → dense_call n ws mark left right ≡ by_front mark (dense_over n ws mark (front_of mark left right) (back_of mark left right))
  unfolding dense_call dense_tests dense_over first
  laid l e = rw (l, first-after (list_rows ws) room_row e)

  -- whichever store it is, the other one stays
  aside : (t : Tested) (m : Side) (rs : List (List ℕ)) (front : List ℕ)
      → record { answer = (dense_by t n m rs front []).answer; left = front_of m (dense_by t n m rs front []).front left; right = back_of m (dense_by t n m rs front []).front right }
      ≡ by_front m (dense_by t n m rs front (back_of m left right))
  aside (Ok tt) Left rs front = refl
  aside (Ok tt) Right rs front = refl
  aside (Err r) Left rs front = refl
  aside (Err r) Right rs front = refl

  laid_in : (k : Side) → mark ≡ k → (answer : Result State Refusal) (store : List ℕ) → answer ≡ (dense_over n ws mark (front_of k left right) []).answer → store ≡ (dense_over n ws mark (front_of k left right) []).front
      → record { answer = answer; left = front_of k store left; right = back_of k store right } ≡ by_front mark (dense_over n ws mark (front_of mark left right) (back_of mark left right))
  unfolding dense_over
  laid_in k e answer store x y =
      subst (λ (m : Side). record { answer = answer; left = front_of m store left; right = back_of m store right } ≡ by_front mark (dense_over n ws mark (front_of mark left right) (back_of mark left right))) e
      (ap₂ (λ (a : Result State Refusal) (d : List ℕ). record { answer = a; left = front_of mark d left; right = back_of mark d right })
      (x ∙ ap (λ (m : Side). (dense_over n ws mark (front_of m left right) []).answer) (sym e))
      (y ∙ ap (λ (m : Side). (dense_over n ws mark (front_of m left right) []).front) (sym e))
      ∙ aside (first room_row) mark (dense_from n 0 ws) (front_of mark left right))

-- in the code's terms: the width is one of the list, and the list has its wanted pairs
is-listed : (c : Else-not-is_width) → listed c.args.width ≡ true
is-listed c = sym c.is_width.ensures ∙ c.if-not-is_width.false

is-counted : (c : In_ok-count) → let a = c.args in
    Told a.words.now (Ok c.in_ok-count.count)
is-counted c = told _ _ (c.in_ok-count.ensures)

may-lay : (c : In_ok-count) (is-listed : listed c.args.width ≡ true) → let a = c.args in
    ((0 < a.width) × (a.width < 63)) × ((all finite_word a.words.now ≡ true) × (c.in_ok-count.count ≡ length (dense_from a.width 0 a.words.now)))
unfolding Told
may-lay c is-listed =
    let a = c.args in
    let t = is-counted c in
    (width-range a.width (is-listed), (list-finite a.words.now t.0, t.1 ∙ sym (record-count a.width 0 a.words.now)))

-- what is laid over the named store
is-laid : (c : In_ok-count) (is-listed : listed c.args.width ≡ true) → let a = c.args in
    dense_call a.width a.words.now a.mark a.left.now a.right.now
    ≡ by_front a.mark (dense_over a.width a.words.now a.mark (front_of a.mark a.left.now a.right.now) (back_of a.mark a.left.now a.right.now))
unfolding Told
is-laid c is-listed = laid _ _ _ _ _ (is-listed) (is-counted c).0

pub returns-then-not-is_width : goal.returns-then-not-is_width
returns-then-not-is_width c =
    let a = c.args in
    let h = both-clauses (λ (o : Ending (Result State Refusal)). made-response o.answer) (sym (narrow a.width a.words.now a.mark a.left.now a.right.now (sym c.is_width.ensures ∙ c.if-not-is_width.true))) (dense-response _ _ _ _ _) in
    record { right_after = h.0; result_value = h.1 }

pub write_dense-requires : goal.write_dense-requires
write_dense-requires c =
    let h = may-lay (goal.at.write_dense-requires c).In_ok-count (is-listed (goal.at.write_dense-requires c).Else-not-is_width) in
    record { width_nonzero = h.0; words_value = h.1.0; count_value = h.1.1 }

pub write_dense-requires-in-Right : goal.write_dense-requires-in-Right
write_dense-requires-in-Right c =
    let h = may-lay (goal.at.write_dense-requires-in-Right c).In_ok-count (is-listed (goal.at.write_dense-requires-in-Right c).Else-not-is_width) in
    record { width_nonzero = h.0; words_value = h.1.0; count_value = h.1.1 }

pub returns-in_err-count : goal.returns-in_err-count
unfolding Told
returns-in_err-count c =
    let p = err_from_is_err_and c.from_residual.result c.from_residual.ensures.1 in
    let h = both-clauses (λ (o : Ending (Result State Refusal)). made-response o.answer) (sym (refused _ _ _ _ _ (is-listed (goal.at.returns-in_err-count c).Else-not-is_width) _ (told _ _ c.in_err-count.ensures))) (dense-response _ _ _ _ _) in
    rw (p.1, p.2) (record { right_after = h.0; result_value = h.1 })

pub returns-in-Left : goal.returns-in-Left
returns-in-Left c =
    let a = c.args in
    let h = both-clauses (λ (o : Ending (Result State Refusal)). made-response o.answer) (laid_in a.width a.words.now a.mark a.left.now a.right.now Left c.in-Left.is _ _ c.write_dense.ensures.value c.write_dense.ensures.store_after ∙ sym (is-laid (goal.at.returns-in-Left c).In_ok-count (is-listed (goal.at.returns-in-Left c).Else-not-is_width))) (dense-response _ _ _ _ _) in
    record { right_after = h.0; result_value = h.1 }

pub returns-in-Right : goal.returns-in-Right
returns-in-Right c =
    let a = c.args in
    let h = both-clauses (λ (o : Ending (Result State Refusal)). made-response o.answer) (laid_in a.width a.words.now a.mark a.left.now a.right.now Right c.in-Right.is _ _ c.write_dense-in-Right.ensures.value c.write_dense-in-Right.ensures.store_after ∙ sym (is-laid (goal.at.returns-in-Right c).In_ok-count (is-listed (goal.at.returns-in-Right c).Else-not-is_width))) (dense-response _ _ _ _ _) in
    record { right_after = h.0; result_value = h.1 }
