use Rattle.std.proofs.Common.{rules, get_or, ap}
use Rattle.std.proofs.lemmas.Int.{ints}
use Rattle.hours.specs.declared.hour.Hour.{Hour}
use Rattle.lines.proofs.hour_of_day.HourOfDay.loads_by_member.Goals as goal

pub returns : goal.returns
returns c m l =
    let h = c.by_member.ensures m l in
    let e = ap (λ (x : Hour). get_or x.loads m 0) c.hour_at.ensures in
    search (rules, ints)
