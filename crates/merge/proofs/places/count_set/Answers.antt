-- `merge::places::count_set` meets its contract: no record begins at the end or after it. Assumes
-- nothing.
use mathlib.Core.Path.{sym, ap, ◌∙◌}
use mathlib.Core.Bool.{true}
use lib.ListN.{length}
use Rattle.merge.specs.Laws.{part_none, side-none}
use Rattle.merge.specs.Sorting.{side}
use Rattle.merge.proofs.places.count_set.Goals as goal

pub returns-else-i-e : goal.returns-else-i-e
returns-else-i-e c =
    let a = c.args in
    sym (ap length (ap (side a.n a.q true) (part_none a.n a.ws.now a.i a.e c.if-i-e.false) ∙ side-none a.n a.q true))
