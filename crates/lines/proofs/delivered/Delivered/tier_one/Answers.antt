use Rattle.std.proofs.Common.{rules}
use Rattle.std.proofs.lemmas.Int.{ints}
use Rattle.settlement.specs.Days.{assignment}
use Rattle.settlement.specs.Figures.{the_day}
use Rattle.lines.proofs.Crediting.{tier_one_is}
use Rattle.lines.proofs.delivered.Delivered.tier_one.Goals as goal

pub returns : goal.returns
returns c r l =
    let t = c.args.self.now.hour.tables.now in
    let k = c.args.self.now.hour.hour.place in
    let h = c.by_resource.ensures r l in
    let z = c.args.self.now.defined r l in
    tier_one_is (the_day t) k r (assignment (the_day t) k r) _ _ (search rules) z (search (rules, ints))
