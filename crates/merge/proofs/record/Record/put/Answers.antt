-- `merge::record::Record::put` meets its contract: a key, and two patterns after it. Assumes nothing.
use Rattle.std.proofs.Common.{◌≡◌, sym, subst, true, not, ◌&&◌, T}
use Rattle.std.specs.Float.{Float}
use Rattle.std.specs.Float.Ieee.{is_nan}
use Rattle.std.specs.Float.Ieee.Scale.{finite}
use Rattle.amplitudes.proofs.Laws.{finite-no-nan}
use Rattle.keys.specs.Lists.{and-true-l, and_true_r}
use Rattle.merge.specs.Records.{new_key}
use Rattle.merge.specs.Laws.{new-key-length, entry-sets}
use Rattle.merge.proofs.record.Record.put.Goals as goal

-- neither part is a NaN
no-nans : (x y : Float) → (finite x && finite y) ≡ true → T (not (is_nan x)) × T (not (is_nan y))
no-nans x y e = (finite-no-nan x (subst T (sym (and-true-l (finite x) (finite y) e)) tt), finite-no-nan y (subst T (sym (and_true_r (finite x) (finite y) e)) tt))

pub to_bits-requires : goal.to_bits-requires
to_bits-requires c = (no-nans c.args.a.re c.args.a.im c.requires.a_value).0

pub to_bits-requires-2 : goal.to_bits-requires-2
to_bits-requires-2 c = (no-nans c.args.a.re c.args.a.im c.requires.a_value).1

pub returns : goal.returns
returns c =
    let a = c.args in
    let r = a.self.words.now in
    let k = new_key a.self.n a.q a.toggled r in
    entry-sets a.dst.now _ (record { key = k; amp = a.a }) a.to a.self.n _ _ c.put_key.ensures (new-key-length a.self.n a.q a.toggled r a.self.whole) c.to_bits.ensures c.to_bits-2.ensures
