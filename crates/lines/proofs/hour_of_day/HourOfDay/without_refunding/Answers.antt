use Rattle.std.proofs.Common.{rules}
use Rattle.std.proofs.lemmas.Int.{ints}
use Rattle.lines.proofs.hour_of_day.HourOfDay.without_refunding.Goals as goal

pub returns : goal.returns
returns c m l = let h = c.by_member.ensures m l in search (rules, ints)
