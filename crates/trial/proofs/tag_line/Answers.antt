-- `trial::tag_line` meets its contract. Assumes nothing.
use Rattle.std.proofs.Common.{rules, ◌≡◌, ◌∙◌, ℕ, Option, None, Some, ap}
use Rattle.std.specs.Option.{MatchOption, IsSomeAnd}
use Rattle.text.specs.Text.{tag_text_of}
use Rattle.trial.specs.Session.{tag_lines}
use Rattle.trial.proofs.tag_line.Goals as goal

mapped : (P : ℕ → ℕ → Type 0) (t r : Option ℕ) → MatchOption t (r ≡ None) (λ x. IsSomeAnd r (P x)) → ((x y : ℕ) → P x y → y ≡ x) → tag_text_of r ≡ tag_lines t
unfolding tag_text_of
mapped P None r h f = ap tag_text_of h
mapped P (Some x) None h f = absurd h
mapped P (Some x) (Some y) h f = ap (λ (q : ℕ). tag_lines (Some q)) (f x y h)

pub returns : goal.returns
returns c =
    c.tag_line.ensures ∙ mapped _ c.args.tag c.map.result c.map.ensures.cases (λ x y h. search rules)
