use Rattle.std.proofs.Common.{refl, rules, arith}
use Rattle.std.proofs.iter.Serving.{serving}
use Rattle.std.proofs.lemmas.Int.{ints, clamps}
use Rattle.settlement.specs.Settlement.{counted_here}
use Rattle.settlement.specs.Days.{assigned}
use Rattle.settlement.specs.Shortfalls.{shortfall}
use Rattle.settlement.specs.Figures.{the_day}
use Rattle.settlement.proofs.Bounds.{largest_above}
use Rattle.settlement.proofs.Tables.{few_resources}
use Rattle.lines.proofs.Sizes.{assigned_bounds}
use Rattle.lines.proofs.Crediting.{delivered_is}
use Rattle.lines.proofs.hour_of_day.HourOfDay.delivered_by_resource.Goals as goal

pub by_resource-kwh-requires : goal.by_resource-kwh-requires
by_resource-kwh-requires c r l =
    let t = c.args.self.now.tables.now in
    let k = c.args.self.now.hour.place in
    let few = few_resources t in
    let b = assigned_bounds t k c.args.self.now.hour.within r l in
    let s = c.requires r l in
    let z = largest_above (counted_here (the_day t) k) (λ e. shortfall (the_day t) e r) in
    grind (arith, ints, serving)

pub invariant_of-result : goal.invariant_of-result
invariant_of-result c = record {
  defined = λ r l.
      let t = c.args.self.now.tables.now in
      let k = c.args.self.now.hour.place in
      let h = c.by_resource-kwh.ensures r l in
      let s = c.requires r l in
      let b = assigned_bounds t k c.args.self.now.hour.within r l in
      let z = largest_above (counted_here (the_day t) k) (λ e. shortfall (the_day t) e r) in
      delivered_is (the_day t) k r (assigned (the_day t) k r) _ _ refl s (search (rules, ints, clamps));
}
