use Rattle.std.proofs.Common.{rules}
use Rattle.refunds.proofs.raising.larger.Goals as goal

pub returns : goal.returns
returns c k l = let h = c.by_place.ensures.first k l in search rules
