-- `gates::put_unpaired` meets its contract: a record in the lent tail of the store is one in the
-- store. Assumes nothing.
use Rattle.std.proofs.Common.{◌≡◌, Bool, true, false, not, refl, ap, ◌∙◌, arith}
use Rattle.amplitudes.specs.declared.Complex.{Complex}
use Rattle.amplitudes.specs.Amplitudes.{finite_c}
use Rattle.merge.specs.Records.{new_key, amplitude_of, encode}
use Rattle.gates.specs.Passes.{unpaired_at}
use Rattle.gates.proofs.Newly.{made-alone, alone-put}
use Rattle.gates.proofs.put_unpaired.Goals.{Joined-set, Joined-set-2, then-set, else-set, then-set-2, else-set-2}
use Rattle.gates.proofs.put_unpaired.Goals as goal

-- the products are those of the sides that they go to
product0 : (c : Joined-set) → let a = c.args in c.if-set.product0 ≡ unpaired_at a.g a.set false (amplitude_of a.x.n a.x.words.now)
product0 c =
    let a = c.args in
    elim c.if-set.branch [
      | then-set w ↦ w.product0-is ∙ made-alone a.g a.set true false _ _ _ w.if-set.true c.amplitude.ensures c.apply-p.ensures
      | else-set w ↦ w.product0-is ∙ made-alone a.g a.set false false _ _ _ w.if-set.false c.amplitude.ensures c.apply-p.ensures
    ]

product1 : (c : Joined-set-2) → let a = c.args in c.if-set-2.product1 ≡ unpaired_at a.g a.set true (amplitude_of a.x.n a.x.words.now)
product1 c =
    let a = c.args in
    elim c.if-set-2.branch [
      | then-set-2 w ↦ w.product1-is ∙ made-alone a.g a.set true true _ _ _ w.if-set-2.true c.amplitude.ensures c.apply-p.ensures
      | else-set-2 w ↦ w.product1-is ∙ made-alone a.g a.set false true _ _ _ w.if-set-2.false c.amplitude.ensures c.apply-p.ensures
    ]

pub put-requires-clause-a_value : goal.put-requires-clause-a_value
put-requires-clause-a_value c = ap finite_c (product0 (goal.at.put-requires-clause-a_value c).Joined-set) ∙ c.requires.finite_unpaired.0

pub put-requires-2-clause-a_value : goal.put-requires-2-clause-a_value
put-requires-2-clause-a_value c = ap finite_c (product1 (goal.at.put-requires-2-clause-a_value c).Joined-set-2) ∙ c.requires.finite_unpaired.1

pub returns-clause-value : goal.returns-clause-value
returns-clause-value c = refl

pub returns-clause-back_after : goal.returns-clause-back_after
returns-clause-back_after c =
    let a = c.args in
    let entry = λ (t : Bool) (x : Complex). encode (record { key = new_key a.x.n a.q t a.x.words.now; amp = x }) in
    alone-put a.back.now _ _ a.o.at a.o.o0 a.o.o1 _ _ _ _ (omega (arith, c.requires.n_in_bounds.1, c.put.auto.dst)) c.put.ensures c.put-2.ensures
    (ap (entry a.set) (product0 (goal.at.returns-clause-back_after c).Joined-set))
    (ap (entry (not a.set)) (product1 (goal.at.returns-clause-back_after c).Joined-set-2))
