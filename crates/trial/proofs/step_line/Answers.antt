-- `trial::step_line` meets its contract. Assumes nothing.
use Rattle.std.proofs.Common.{◌≡◌, ℕ, sym, ap, ap₂, ◌∙◌, subst, Ok, Option}
use Rattle.run.specs.Laws.{NoNan}
use Rattle.run.specs.Steps.{Answer}
use Rattle.state.specs.declared.Squares.{Squares}
use Rattle.text.specs.Text.{step_text_of, step_line, step_line_with_sums}
use Rattle.trial.specs.Session.{sized}
use Rattle.trial.proofs.step_line.Goals as goal

of_done : {a : Answer} {o p : Option Squares} → a ≡ Ok o → o ≡ p → a ≡ Ok p
of_done e f = e ∙ ap (λ (x : Option Squares). Ok x) f

pub to_bits-s0-requires : goal.to_bits-s0-requires
to_bits-s0-requires c =
    (subst NoNan (of_done c.in-Ok.is c.in-Some.is) c.requires).0

pub to_bits-s1-requires : goal.to_bits-s1-requires
to_bits-s1-requires c =
    (subst NoNan (of_done c.in-Ok.is c.in-Some.is) c.requires).1

pub returns-in-None : goal.returns-in-None
unfolding step_text_of
returns-in-None c =
    let a = c.args in
    c.step_line.ensures ∙ sym (ap (sized a.i a.t.state.n0 a.t.state.n1) (of_done c.in-Ok.is c.in-None.is))

pub returns-in-Some : goal.returns-in-Some
unfolding step_text_of
returns-in-Some c =
    let a = c.args in
    c.step_line-in-Some.ensures
    ∙ ap₂ (λ (x y : ℕ). step_line_with_sums a.i 0 a.t.state.n0 a.t.state.n1 x y) c.to_bits-s0.ensures c.to_bits-s1.ensures
    ∙ sym (ap (sized a.i a.t.state.n0 a.t.state.n1) (of_done c.in-Ok.is c.in-Some.is))

pub returns-in-Err : goal.returns-in-Err
unfolding step_text_of
returns-in-Err c =
    let a = c.args in
    c.step_line-in-Err.ensures
    ∙ ap (λ (x : ℕ). step_line a.i x a.t.state.n0 a.t.state.n1) c.number.ensures
    ∙ sym (ap (sized a.i a.t.state.n0 a.t.state.n1) c.in-Err.is)
