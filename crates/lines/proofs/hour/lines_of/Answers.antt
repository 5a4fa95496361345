use Rattle.std.proofs.Common.{rules}
use Rattle.lines.proofs.hour.lines_of.Goals as goal

pub returns-clause-members : goal.returns-clause-members
returns-clause-members c m l = let h = c.by_place.ensures.first m l in search rules
