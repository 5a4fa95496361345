use Rattle.std.proofs.Common.{ℕ, ◌<◌, ◌≤◌, get_or, length, pos, ◌≤ℤ◌, arith, rules}
use Rattle.std.proofs.lemmas.Int.{ints}
use Rattle.events.specs.Resources.{no_resource}
use Rattle.settlement.specs.Sums.{at}
use Rattle.settlement.specs.Shortfalls.{day_refund}
use Rattle.settlement.specs.Laws.{Lawful}
use Rattle.settlement.specs.Figures.{the_day}
use Rattle.settlement.proofs.Refunds.{worst_above, worst_small}
use Rattle.settlement.proofs.Tables.{bounded_day}
use Rattle.refunds.proofs.rows.EventShortfalls.day_refunds.Goals as goal

pub by_resource-requires : goal.by_resource-requires
by_resource-requires g c =
    let d = the_day c.args.self.now.tables.now in
    let b = bounded_day c.args.self.now.tables.now in
    let s = c.args.rule.now in
    let t = g.R.AllocationRule.shares s in
    let lawful : Lawful t = record { counted = g.met.R.AllocationRule.counted s; whole = g.met.R.AllocationRule.whole s; rounded = g.met.R.AllocationRule.rounded s } in
    let low : (k : ℕ) → k < length d.roll → pos 0 ≤ℤ at c.largest_retroactive-largest.result k = λ k l. let w = worst_above d b t k in let v = c.largest_retroactive-largest.ensures k l in omega (arith, ints) in
    let most : (k : ℕ) → k < length d.roll → at c.largest_retroactive-largest.result k ≤ℤ pos 500000 = λ k l. let w = worst_small d b t k lawful l in let v = c.largest_retroactive-largest.ensures k l in omega (arith, ints) in
    let price : (k : ℕ) → k < length d.roll → (get_or d.roll k no_resource).interval_price_sum ≤ 4000000 = b.price_sums in
    search rules

pub returns : goal.returns
unfolding day_refund
returns g c k l = let h = c.by_resource.ensures k l in let v = c.largest_retroactive-largest.ensures k l in search rules
