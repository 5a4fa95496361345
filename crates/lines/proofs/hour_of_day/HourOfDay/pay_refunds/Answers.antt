use Rattle.std.proofs.Common.{◌≡◌, true, false, length, nat_abs, refl, ap, arith, lit≤, rules, w64, to_z, of_z}
use Rattle.std.proofs.lemmas.Int.{ints}
use Rattle.settlement.specs.Shortfalls.{refund_part}
use Rattle.settlement.specs.Settlement.{total_refund, payees}
use Rattle.settlement.specs.Laws.{Lawful}
use Rattle.settlement.specs.Figures.{the_day, the_hour, the_sales}
use Rattle.settlement.proofs.Steps.{accepted_at}
use Rattle.settlement.proofs.Refunds.{part_bounds}
use Rattle.settlement.proofs.Tables.{bounded_day}
use Rattle.lines.specs.Steps.{no_payee}
use Rattle.lines.proofs.Crediting.{tier_one_modest}
use Rattle.lines.proofs.Sizes.{modest_by, moderate, adjusted_small}
use Rattle.lines.proofs.Settling.{refund_is, no_payee_is, payees_are, paid_are, own_columns}
use Rattle.lines.proofs.Lines.{refund_allocable}
use Rattle.lines.proofs.hour_of_day.HourOfDay.pay_refunds.Goals as goal
use Rattle.lines.proofs.hour_of_day.HourOfDay.pay_refunds.Given as given

lawful : (g : given.Over) (s : g.row.R.Denot) → Lawful (g.R.AllocationRule.shares s)
lawful g s = record { counted = g.met.R.AllocationRule.counted s; whole = g.met.R.AllocationRule.whole s; rounded = g.met.R.AllocationRule.rounded s }

pub sum_by_resource-total-requires : goal.sum_by_resource-total-requires
sum_by_resource-total-requires g c =
    let t = c.args.self.now.tables.now in
    let k = c.args.self.now.hour.place in
    let i = c.args.self.now.hour.within in
    let s = c.args.rule.now in
    let u = g.R.AllocationRule.shares s in
    moderate _ _ (modest_by (length (the_day t).roll) 2000000000 c.refund_parts-parts.result (refund_part u (the_day t) k) (rw c.requires.same at c.refund_parts-parts.ensures)
    (λ r l. part_bounds (the_day t) (bounded_day t) u k r (lawful g s) i l) (lit≤ tt))

pub less_own-remaining-requires-clause-adjusted : goal.less_own-remaining-requires-clause-adjusted
less_own-remaining-requires-clause-adjusted g c m l =
    let t = c.args.self.now.tables.now in
    let k = c.args.self.now.hour.place in
    let i = c.args.self.now.hour.within in
    let s = c.args.rule.now in
    let z = adjusted_small t k i _ (lawful g s) c.requires.owed.loaded m l in
    omega (arith, ap nat_abs (c.requires.owed.adjusted m l))

pub less_own-remaining-requires-clause-small : goal.less_own-remaining-requires-clause-small
less_own-remaining-requires-clause-small g c = tier_one_modest c.args.self.now.tables.now c.args.self.now.hour.place c.args.self.now.hour.within c.args.tier_one.now c.requires.tier_one

pub returns-then-lacks_payee : goal.returns-then-lacks_payee
returns-then-lacks_payee g c =
    let t = c.args.self.now.tables.now in
    let k = c.args.self.now.hour.place in
    let u = g.R.AllocationRule.shares c.args.rule.now in
    let o : length c.args.owed.now.owed ≡ 16 = search rules in
    let n : length c.without_refunding-weights.result ≡ 16 = search rules in
    let p = rw c.requires.same at c.refund_parts-parts.ensures in
    let r = rw c.requires.same at c.day_refunds-refunds.ensures in
    let e = refund_is t k u c.refund_parts-parts.result p in
    let w = payees_are t k u c.member_count-count.result c.args.owed.now.adjusted c.args.owed.now.owed c.less_own-remaining.result c.args.tier_one.now c.day_refunds-refunds.result
    c.without_refunding-weights.result c.or_else-payees.result.now o n c.member_count-count.ensures.value c.requires.owed.adjusted c.requires.owed.owed c.less_own-remaining.ensures c.requires.tier_one
    r c.without_refunding-weights.ensures c.or_else-payees.ensures in
    (no_payee_is t k u (to_z w64 (of_z w64 c.sum_by_resource-total.result)) c.or_else-payees.result.now true c.if-lacks_payee.ensures (omega (arith, ints)) w.0, refl)

pub own_sums-charged-requires : goal.own_sums-charged-requires
own_sums-charged-requires g c =
    let t = c.args.self.now.tables.now in
    let k = c.args.self.now.hour.place in
    let i = c.args.self.now.hour.within in
    let s = c.args.rule.now in
    let u = g.R.AllocationRule.shares s in
    modest_by (length (the_day t).roll) 2000000000 c.refund_parts-parts.result (refund_part u (the_day t) k) (rw c.requires.same at c.refund_parts-parts.ensures)
    (λ r l. part_bounds (the_day t) (bounded_day t) u k r (lawful g s) i l) (lit≤ tt)

pub shares_of-paid-requires-clause-allocable : goal.shares_of-paid-requires-clause-allocable
shares_of-paid-requires-clause-allocable g c =
    let t = c.args.self.now.tables.now in
    let k = c.args.self.now.hour.place in
    let i = c.args.self.now.hour.within in
    let s = c.args.rule.now in
    let u = g.R.AllocationRule.shares s in
    let o : length c.args.owed.now.owed ≡ 16 = search rules in
    let n : length c.without_refunding-weights.result ≡ 16 = search rules in
    let p = rw c.requires.same at c.refund_parts-parts.ensures in
    let r = rw c.requires.same at c.day_refunds-refunds.ensures in
    let e = refund_is t k u c.refund_parts-parts.result p in
    let w = payees_are t k u c.member_count-count.result c.args.owed.now.adjusted c.args.owed.now.owed c.less_own-remaining.result c.args.tier_one.now c.day_refunds-refunds.result
    c.without_refunding-weights.result c.or_else-payees.result.now o n c.member_count-count.ensures.value c.requires.owed.adjusted c.requires.owed.owed c.less_own-remaining.ensures c.requires.tier_one
    r c.without_refunding-weights.ensures c.or_else-payees.ensures in
    let ok : no_payee u t k ≡ false = no_payee_is t k u (to_z w64 (of_z w64 c.sum_by_resource-total.result)) c.or_else-payees.result.now false c.if-lacks_payee.ensures (omega (arith, ints)) w.0 in
    accepted_at _ (total_refund u (the_day t) k) _ (payees u (the_day t) k (the_hour t k) (the_sales t k)) (omega (arith, ints)) w.0 (refund_allocable u t k i (lawful g s) c.requires.owed.loaded ok)

pub returns : goal.returns
returns g c =
    let t = c.args.self.now.tables.now in
    let k = c.args.self.now.hour.place in
    let u = g.R.AllocationRule.shares c.args.rule.now in
    let o : length c.args.owed.now.owed ≡ 16 = search rules in
    let n : length c.without_refunding-weights.result ≡ 16 = search rules in
    let p = rw c.requires.same at c.refund_parts-parts.ensures in
    let r = rw c.requires.same at c.day_refunds-refunds.ensures in
    let e = refund_is t k u c.refund_parts-parts.result p in
    let w = payees_are t k u c.member_count-count.result c.args.owed.now.adjusted c.args.owed.now.owed c.less_own-remaining.result c.args.tier_one.now c.day_refunds-refunds.result
    c.without_refunding-weights.result c.or_else-payees.result.now o n c.member_count-count.ensures.value c.requires.owed.adjusted c.requires.owed.owed c.less_own-remaining.ensures c.requires.tier_one
    r c.without_refunding-weights.ensures c.or_else-payees.ensures in
    record {
      payable = no_payee_is t k u (to_z w64 (of_z w64 c.sum_by_resource-total.result)) c.or_else-payees.result.now false c.if-lacks_payee.ensures (omega (arith, ints)) w.0;
      charged = own_columns t _ _ (refund_part u (the_day t) k) c.own_sums-charged.ensures.value p;
      paid = paid_are t k u _ _ _ c.shares_of-paid.ensures (omega (arith, ints)) w.0 w.1;
      total = omega (arith, ints);
    }
