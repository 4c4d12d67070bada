-- `estimates::Accepted::record` meets its contract. Assumes nothing.
use Rattle.estimates.proofs.Estimating.{whole}
use Rattle.estimates.proofs.Accepted.record.Goals as goal

pub nth-requires : goal.nth-requires
nth-requires c = whole c.args.self.now c.args.r c.requires
