use Rattle.std.proofs.Common.{arith}
use Rattle.std.proofs.lemmas.Int.{ints}
use Rattle.lines.proofs.Settling.{reserve_is}
use Rattle.lines.proofs.hour_of_day.HourOfDay.reserve.Goals as goal

pub returns : goal.returns
returns c = let e = reserve_is c.args.self.now.tables.now c.args.self.now.hour.place c.assigned_by_resource.result c.assigned_by_resource.ensures in omega (arith, ints)
