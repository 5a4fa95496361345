use Rattle.std.proofs.Common.{lit≤}
use Rattle.settlement.proofs.Refunds.{shortfall_above, shortfall_small}
use Rattle.settlement.proofs.Steps.{small_at}
use Rattle.settlement.proofs.Tables.{bounded_day}
use Rattle.settlement.specs.Figures.{the_day}
use Rattle.refunds.proofs.NetShares.{net_allocable, members_more}
use Rattle.refunds.proofs.event.EventOfDay.retroactive_shortfalls.Goals as goal

pub allocate_net-requires-clause-small : goal.allocate_net-requires-clause-small
allocate_net-requires-clause-small g c r l =
    let x = c.args.self.now in
    let d = the_day x.tables.now in
    let b = bounded_day x.tables.now in
    small_at _ _ 500000 (c.requires r l) (shortfall_above d b x.event.now r) (shortfall_small d b x.event.now r x.start l) (lit≤ tt)

pub allocate_net-requires-clause-allocable : goal.allocate_net-requires-clause-allocable
allocate_net-requires-clause-allocable g c =
    let x = c.args.self.now in
    net_allocable (the_day x.tables.now) x.event.now c.args.shortfalls.now c.over_responses-over_responses.result c.requires c.over_responses-over_responses.ensures.value (bounded_day x.tables.now) c.loop-member.member x.start

pub loop-member-preserved : goal.loop-member-preserved
loop-member-preserved g c =
    let x = c.args.self.now in
    members_more (the_day x.tables.now) x.event.now c.args.shortfalls.now c.over_responses-over_responses.result c.requires c.over_responses-over_responses.ensures.value
    (g.R.AllocationRule.shares c.args.rule.now) c.loop-member.member c.loop-member.retroactive c.allocate_net.new.out c.allocate_net.ensures c.loop-member.invariant
