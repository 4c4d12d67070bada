-- `merge::record::Records::of` meets its contract. Assumes nothing.
use Rattle.std.proofs.Common.{◌≡◌, ◌-◌, ◌+◌, ◌*◌, ℕ, take, drop, ap, ◌∙◌, add-mul, arith}
use Rattle.merge.specs.Laws.{records-part}
use Rattle.merge.proofs.record.Records.of.Goals as goal

pub returns-clause-part_value : goal.returns-clause-part_value
returns-clause-part_value c =
    let a = c.args in
    let m : a.e * (a.n + 2) ≡ a.i * (a.n + 2) + (a.e - a.i) * (a.n + 2) = ap (λ (k : ℕ). k * (a.n + 2)) (omega (arith, c.requires.n_in_bounds.0)) ∙ add-mul a.i (a.e - a.i) (a.n + 2) in
    records-part a.n a.i a.e a.ws.now _ c.requires.n_in_bounds.1 (ap (λ (k : ℕ). take k (drop (a.i * (a.n + 2)) a.ws.now)) (omega (arith, m)))
