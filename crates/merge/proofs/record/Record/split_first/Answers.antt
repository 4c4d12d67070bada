-- `merge::record::Record::split_first` meets its contract. Assumes nothing.
use Rattle.std.proofs.Common.{refl}
use Rattle.merge.specs.Laws.{records-none, records-some}
use Rattle.merge.proofs.record.Record.split_first.Goals as goal

pub returns-then-ws-n-clause-none : goal.returns-then-ws-n-clause-none
returns-then-ws-n-clause-none c = records-none c.args.n c.args.ws.now c.if-ws-n.true

pub returns-clause-some : goal.returns-clause-some
returns-clause-some c = (refl, rw (c.split_at.ensures.front, c.split_at.ensures.back) (records-some c.args.n c.args.ws.now c.if-ws-n.false))
