use Rattle.std.proofs.Common.{rules, arith, refl}
use Rattle.std.proofs.iter.Serving.{serving}
use Rattle.std.proofs.lemmas.Int.{ints}
use Rattle.settlement.specs.Days.{assignment}
use Rattle.settlement.specs.Figures.{the_day, the_hour}
use Rattle.settlement.proofs.Tables.{bounded, few_resources}
use Rattle.lines.proofs.Crediting.{cost_is, delivered_small, credit_small}
use Rattle.lines.proofs.delivered.Delivered.opportunity_costs.Goals as goal

pub by_resource-requires : goal.by_resource-requires
by_resource-requires c r l =
    let t = c.args.self.now.hour.tables.now in
    let k = c.args.self.now.hour.hour.place in
    let i = c.args.self.now.hour.hour.within in
    let few = few_resources t in
    let v = delivered_small t k i r l in
    let w = credit_small t k i r l in
    let s = (bounded t k i).day.assignments k r i l in
    grind (arith, ints, serving)

pub returns : goal.returns
returns c r l =
    let t = c.args.self.now.hour.tables.now in
    let k = c.args.self.now.hour.hour.place in
    let h = c.by_resource.ensures r l in
    let z = c.args.self.now.defined r l in
    let y = c.requires r l in
    cost_is (the_day t) k (the_hour t k) r (assignment (the_day t) k r) _ _ _ refl z y (search (rules, ints))
