-- `trial::Trial::begin` meets its contract: there is room for a record. Assumes nothing.
use Rattle.std.proofs.Common.{◌≡◌, rules, List, ℕ, ap, ap₂, ◌∙◌, replicate, lit≤}
use Rattle.statevector.specs.declared.State.{State}
use Rattle.state.specs.Fresh.{LeftEnding, fresh_state}
use Rattle.trial.specs.Laws.{fresh-fits}
use Rattle.trial.specs.Session.{store_words}
use Rattle.trial.proofs.Trial.begin.Goals as goal

pub unwrap-state-requires : goal.unwrap-state-requires
unwrap-state-requires c =
    let e = c.fresh.ensures.left_after in
    let made = ap (λ (o : LeftEnding). o.answer) e ∙ fresh-fits (replicate store_words 0) (lit≤ tt) in
    rw made (search rules)

pub returns : goal.returns
returns c =
    let e = c.fresh.ensures.left_after in
    let made = ap (λ (o : LeftEnding). o.answer) e ∙ fresh-fits (replicate store_words 0) (lit≤ tt) in
    let s : c.unwrap-state.result ≡ fresh_state 1 = cc c.unwrap-state.ensures in
    ap₂ (λ (s : State) (l : List ℕ). record { state = s; left = l; right = replicate store_words 0 }) s (ap (λ (o : LeftEnding). o.left) e)
