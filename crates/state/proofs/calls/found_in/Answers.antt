-- `state::calls::found_in` meets its contract. Assumes nothing.
use Rattle.std.specs.Prelude.{Some}
use mathlib.Core.Path.{◌≡◌, sym, ap, ap₂, ◌∙◌, subst}
use mathlib.Core.Bool.{true}
use Rattle.merge.specs.Records.{amplitude_of, part, entries, at, finite_record}
use Rattle.merge.specs.Laws.{record-fits, part-each, Right, position-right}
use Rattle.state.proofs.calls.found_in.Goals.{In_ok-r}
use Rattle.state.proofs.calls.found_in.Goals as goal

-- what the search found is right
right : (c : In_ok-r) → let a = c.args in
    Right a.n a.ws.now a.key.now a.from a.to (at a.key.now (entries a.n (part a.n a.ws.now a.from a.to))) (Some c.in_ok-r.r)
right c =
    let a = c.args in
    subst (Right a.n a.ws.now a.key.now a.from a.to (at a.key.now (entries a.n (part a.n a.ws.now a.from a.to))))
    (sym c.in_ok-r.ensures) (position-right a.n a.ws.now a.key.now a.from a.to c.requires.from_le_to.0)

pub returns-in_err-r : goal.returns-in_err-r
returns-in_err-r c =
    let a = c.args in
    let h = subst (Right a.n a.ws.now a.key.now a.from a.to (at a.key.now (entries a.n (part a.n a.ws.now a.from a.to)))) (sym c.in_err-r.ensures) (position-right a.n a.ws.now a.key.now a.from a.to c.requires.from_le_to.0) in
    c.from_residual.ensures ∙ sym h

pub nth-requires : goal.nth-requires
nth-requires c =
    let a = c.args in
    record-fits a.n c.in_ok-r.r a.to a.ws.now (right (goal.at.nth-requires c).In_ok-r).1 c.requires.from_le_to.1

pub amplitude-requires : goal.amplitude-requires
amplitude-requires c =
    let a = c.args in
    let k = right (goal.at.amplitude-requires c).In_ok-r in
    ap₂ finite_record c.nth.ensures.n_value c.nth.ensures.words_value ∙ part-each (λ x. finite_record a.n x ≡ true) a.n a.ws.now a.from c.in_ok-r.r a.to k.0 k.1 c.requires.rising.1

pub returns : goal.returns
returns c =
    ap Some (c.amplitude.ensures ∙ ap₂ amplitude_of c.nth.ensures.n_value c.nth.ensures.words_value) ∙ sym (right (goal.at.returns c).In_ok-r).2
