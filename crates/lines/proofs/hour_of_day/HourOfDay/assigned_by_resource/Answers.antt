use Rattle.std.proofs.Common.{rules}
use Rattle.lines.proofs.hour_of_day.HourOfDay.assigned_by_resource.Goals as goal

pub returns : goal.returns
returns c k l = let h = c.by_resource.ensures k l in search rules
