use Rattle.std.proofs.Common.{◌≡◌, length, nat_abs, ap, arith, rules}
use Rattle.std.proofs.lemmas.Int.{ints}
use Rattle.settlement.specs.Settlement.{clearing_credit_of, opportunity_cost_credit_of, total_clearing, total_opportunity_cost, adjusted_obligation_of, adjusted_obligations, buyers}
use Rattle.settlement.specs.Laws.{Lawful}
use Rattle.settlement.specs.Figures.{the_day, the_hour, the_sales}
use Rattle.settlement.proofs.Steps.{accepted_at}
use Rattle.settlement.proofs.Acceptance.{clearing, opportunity_costs, A_small, C_above, C_scaled, O_above, O_small}
use Rattle.settlement.proofs.Tables.{bounded}
use Rattle.lines.proofs.Crediting.{delivered_modest, clearing_modest, costs_modest}
use Rattle.lines.proofs.Sizes.{moderate, carried, adjusted_small}
use Rattle.lines.proofs.Settling.{front_list, clearing_is, costs_is, clearing_charges_are, cost_charges_are, buyers_are, own_columns}
use Rattle.lines.proofs.hour_of_day.HourOfDay.clear.Goals as goal
use Rattle.lines.proofs.hour_of_day.HourOfDay.clear.Given as given

lawful : (g : given.Over) (s : g.row.R.Denot) → Lawful (g.R.AllocationRule.shares s)
lawful g s = record { counted = g.met.R.AllocationRule.counted s; whole = g.met.R.AllocationRule.whole s; rounded = g.met.R.AllocationRule.rounded s }

pub sum_by_resource-clearing-requires : goal.sum_by_resource-clearing-requires
sum_by_resource-clearing-requires g c = moderate _ _ (clearing_modest c.args.self.now.tables.now c.args.self.now.hour.place c.args.self.now.hour.within c.args.credits.now c.requires.credits)

pub sum_by_resource-costs-requires : goal.sum_by_resource-costs-requires
sum_by_resource-costs-requires g c = moderate _ _ (costs_modest c.args.self.now.tables.now c.args.self.now.hour.place c.args.self.now.hour.within c.args.credits.now c.requires.credits)

pub less_own-purchases-requires-clause-adjusted : goal.less_own-purchases-requires-clause-adjusted
less_own-purchases-requires-clause-adjusted g c m l =
    let s = c.args.rule.now in
    let z = adjusted_small c.args.self.now.tables.now c.args.self.now.hour.place c.args.self.now.hour.within _ (lawful g s) c.requires.owed.loaded m l in
    omega (arith, ap nat_abs (c.requires.owed.adjusted m l))

pub less_own-purchases-requires-clause-small : goal.less_own-purchases-requires-clause-small
less_own-purchases-requires-clause-small g c = delivered_modest c.args.self.now.tables.now c.args.self.now.hour.place c.args.self.now.hour.within c.args.credits.now c.requires.credits

pub own_sums-requires : goal.own_sums-requires
own_sums-requires g c = clearing_modest c.args.self.now.tables.now c.args.self.now.hour.place c.args.self.now.hour.within c.args.credits.now c.requires.credits

pub own_sums-requires-2 : goal.own_sums-requires-2
own_sums-requires-2 g c = costs_modest c.args.self.now.tables.now c.args.self.now.hour.place c.args.self.now.hour.within c.args.credits.now c.requires.credits

pub shares_of-requires-clause-allocable : goal.shares_of-requires-clause-allocable
shares_of-requires-clause-allocable g c =
    let t = c.args.self.now.tables.now in
    let k = c.args.self.now.hour.place in
    let d = the_day t in
    let x = the_hour t k in
    let q = the_sales t k in
    let i = c.args.self.now.hour.within in
    let s = c.args.rule.now in
    let u = g.R.AllocationRule.shares s in
    let js = c.args.owed.now.adjusted in
    let n : length js ≡ 16 = search rules in
    let e = clearing_is t k c.args.credits.now.clearing c.requires.credits.clearing in
    accepted_at _ (total_clearing d k x) _ (adjusted_obligations u d k x q) (omega (arith, ints))
    (front_list t c.member_count-count.result js (adjusted_obligation_of u d k x q) n c.member_count-count.ensures.value c.requires.owed.adjusted)
    (clearing d k x q (bounded t k i) u (lawful g s) (carried t k i u (lawful g s) c.requires.owed.loaded))

pub shares_of-requires-2-clause-allocable : goal.shares_of-requires-2-clause-allocable
shares_of-requires-2-clause-allocable g c =
    let t = c.args.self.now.tables.now in
    let k = c.args.self.now.hour.place in
    let d = the_day t in
    let x = the_hour t k in
    let q = the_sales t k in
    let i = c.args.self.now.hour.within in
    let s = c.args.rule.now in
    let u = g.R.AllocationRule.shares s in
    let js = c.args.owed.now.adjusted in
    let ps = c.less_own-purchases.result in
    let n : length js ≡ 16 = search rules in
    let n' : length ps ≡ 16 = search rules in
    let e = costs_is t k c.args.credits.now.opportunity_costs c.requires.credits.opportunity_costs in
    let w = buyers_are t k u c.member_count-count.result js ps c.args.credits.now.delivered c.or_else-buyers.result.now n n'
    c.member_count-count.ensures.value c.requires.owed.adjusted c.less_own-purchases.ensures c.requires.credits.delivered c.or_else-buyers.ensures in
    accepted_at _ (total_opportunity_cost d k x) _ (buyers u d k x q) (omega (arith, ints)) w.0
    (opportunity_costs d k x q (bounded t k i) u (lawful g s) (carried t k i u (lawful g s) c.requires.owed.loaded))

pub overflow_add-result : goal.overflow_add-result
overflow_add-result g c =
    let t = c.args.self.now.tables.now in
    let k = c.args.self.now.hour.place in
    let d = the_day t in
    let x = the_hour t k in
    let q = the_sales t k in
    let b = bounded t k c.args.self.now.hour.within in
    let e = clearing_is t k c.args.credits.now.clearing c.requires.credits.clearing in
    let f = costs_is t k c.args.credits.now.opportunity_costs c.requires.credits.opportunity_costs in
    omega (arith, ints, A_small d k x q b, C_above d k x q b, C_scaled d k x q b, O_above d k x q b, O_small d k x q b)

pub returns : goal.returns
returns g c =
    let t = c.args.self.now.tables.now in
    let k = c.args.self.now.hour.place in
    let d = the_day t in
    let x = the_hour t k in
    let q = the_sales t k in
    let b = bounded t k c.args.self.now.hour.within in
    let u = g.R.AllocationRule.shares c.args.rule.now in
    let js = c.args.owed.now.adjusted in
    let ps = c.less_own-purchases.result in
    let n : length js ≡ 16 = search rules in
    let n' : length ps ≡ 16 = search rules in
    let e = clearing_is t k c.args.credits.now.clearing c.requires.credits.clearing in
    let f = costs_is t k c.args.credits.now.opportunity_costs c.requires.credits.opportunity_costs in
    let w = buyers_are t k u c.member_count-count.result js ps c.args.credits.now.delivered c.or_else-buyers.result.now n n'
    c.member_count-count.ensures.value c.requires.owed.adjusted c.less_own-purchases.ensures c.requires.credits.delivered c.or_else-buyers.ensures in
    record {
      clearing_credits = own_columns t _ _ (clearing_credit_of d k x) c.own_sums.ensures.value c.requires.credits.clearing;
      opportunity_cost_credits = own_columns t _ _ (opportunity_cost_credit_of d k x) c.own_sums-2.ensures.value c.requires.credits.opportunity_costs;
      clearing_charges = clearing_charges_are t k u _ _ _ c.shares_of.ensures (omega (arith, ints))
          (front_list t c.member_count-count.result js (adjusted_obligation_of u d k x q) n c.member_count-count.ensures.value c.requires.owed.adjusted);
      opportunity_cost_charges = cost_charges_are t k u _ _ _ c.shares_of-2.ensures (omega (arith, ints)) w.0 w.1;
      total = omega (arith, ints, A_small d k x q b, C_above d k x q b, C_scaled d k x q b, O_above d k x q b, O_small d k x q b);
    }
