-- `gates::count_kept` meets its contract. Assumes nothing.
use Prim.Native.Nat.{ℕ}
use mathlib.Core.Path.{ap, ap₂, ◌∙◌}
use mathlib.Core.Bool.{Bool, false, cond}
use Rattle.amplitudes.specs.declared.Combined.{Combined}
use Rattle.amplitudes.specs.Pairs.{is_kept, combined}
use Rattle.statevector.specs.Laws.{one_if}
use Rattle.gates.proofs.count_kept.Goals as goal

pub returns : goal.returns
returns c =
    let p = c.combine-p.ensures ∙ ap₂ (combined c.args.g false) c.amplitude.ensures c.amplitude-2.ensures in
    ap₂ (λ (x y : ℕ). record { n0 = x; n1 = y })
    (c.from.ensures ∙ one_if c.is_kept.result ∙ ap (λ (b : Bool). cond b 1 0) (c.is_kept.ensures ∙ ap (λ (p : Combined). is_kept p.stay.verdict) p))
    (c.from-2.ensures ∙ one_if c.is_kept-2.result ∙ ap (λ (b : Bool). cond b 1 0) (c.is_kept-2.ensures ∙ ap (λ (p : Combined). is_kept p.flip.verdict) p))
