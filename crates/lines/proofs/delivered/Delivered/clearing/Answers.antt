use Rattle.std.proofs.Common.{◌≤◌, rules, arith, refl}
use Rattle.std.proofs.iter.Serving.{serving}
use Rattle.std.proofs.lemmas.Int.{ints}
use Rattle.settlement.specs.Days.{assignment}
use Rattle.settlement.specs.Figures.{the_day, the_hour}
use Rattle.settlement.proofs.Tables.{few_resources}
use Rattle.lines.proofs.Crediting.{credit_is, delivered_small}
use Rattle.lines.proofs.delivered.Delivered.clearing.Goals as goal

pub by_resource-requires : goal.by_resource-requires
by_resource-requires c r l =
    let t = c.args.self.now.hour.tables.now in
    let k = c.args.self.now.hour.hour.place in
    let few = few_resources t in
    let v = delivered_small t k c.args.self.now.hour.hour.within r l in
    let p : c.hour_at-prices.result.synchronized_price ≤ 400000 = rw c.hour_at-prices.ensures (t.hours.synchronized k c.args.self.now.hour.hour.within) in
    grind (arith, ints, serving)

pub returns : goal.returns
returns c r l =
    let t = c.args.self.now.hour.tables.now in
    let k = c.args.self.now.hour.hour.place in
    let h = c.by_resource.ensures r l in
    let z = c.args.self.now.defined r l in
    credit_is (the_day t) k (the_hour t k) r (assignment (the_day t) k r) _ _ _ refl c.hour_at-prices.ensures z (search (rules, ints))
