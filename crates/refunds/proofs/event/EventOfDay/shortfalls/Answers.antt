use Rattle.std.proofs.Common.{rules}
use Rattle.refunds.proofs.event.EventOfDay.shortfalls.Goals as goal

pub returns : goal.returns
returns c k l = let h = c.by_resource.ensures k l in search rules
