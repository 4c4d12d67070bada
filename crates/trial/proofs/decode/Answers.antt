-- `trial::decode` meets its contract: 80 bytes fill the ten words. Assumes nothing.
use mathlib.Core.Path.{◌≡◌, ap, ◌∙◌}
use Prim.Native.Nat.{ℕ}
use native.Mathlib.Omega.{arith}
use mathlib.Core.List.{List}
use lib.ListN.{length, replicate}
use Rattle.run.specs.Steps.{step_from}
use Rattle.text.specs.Laws.{words-fill}
use Rattle.trial.specs.Session.{step_in}
use Rattle.trial.proofs.decode.Goals as goal

pub returns : goal.returns
unfolding step_in
returns c =
    let bs = c.args.bytes.now in
    let h : length bs ≡ 80 = omega arith in
    c.read_step.ensures ∙ ap (λ (ws : List ℕ). step_from ws 0) (c.read_words.ensures ∙ words-fill bs (replicate 10 0) h)
