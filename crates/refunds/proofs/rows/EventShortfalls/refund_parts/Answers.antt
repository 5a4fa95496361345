use Rattle.std.proofs.Common.{rules}
use Rattle.refunds.proofs.rows.EventShortfalls.refund_parts.Goals as goal

pub returns : goal.returns
returns g c k l = let h = c.by_resource.ensures k l in search rules
