-- `exact::is_small_whole` meets its contract, by what `any` answers of the sizes. Assumes nothing.
use Rattle.std.specs.Prelude.{◌≡◌, true, false, refl, pos}
use Rattle.std.specs.Float.{binary64}
use Rattle.std.specs.Float.Ieee.{eq, of_int}
use Rattle.std.proofs.Common.{rules, tests}
use Rattle.std.proofs.lemmas.Iterator.{cases_from_any, YieldsList-from_range}
use Rattle.exact.proofs.WeighedLaws.{small-tested}
use Rattle.exact.proofs.is_small_whole.Goals as goal

pub returns : goal.returns
returns c =
    let y = c.abs-size.result in
    small-tested _ y _ c.abs-size.ensures
    (cases_from_any _ _ _ (λ n. eq y (of_int binary64 (pos n)) ≡ true) (λ n. eq y (of_int binary64 (pos n)) ≡ false) c.any.ensures.ran (YieldsList-from_range 0 17 17 refl refl) (λ x q k. search (rules, tests)) (λ x q k. search (rules, tests)))
