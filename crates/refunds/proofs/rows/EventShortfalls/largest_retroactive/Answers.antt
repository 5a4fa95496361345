use Rattle.std.proofs.Common.{Bool, cond, length, pos, sym, ap, ◌∙◌, arith, rules}
use Rattle.std.proofs.lemmas.List.{length_push}
use Rattle.events.specs.States.{no_event}
use Rattle.settlement.specs.Shortfalls.{counts, counted, retroactive_shortfall, largest_shortfall}
use Rattle.settlement.specs.Figures.{the_day}
use Rattle.settlement.proofs.Tables.{bounded_day}
use Rattle.refunds.proofs.Events.{Beside, turn, ended, early}
use Rattle.refunds.proofs.Largest.{raised, not_raised, largest_all}
use Rattle.refunds.proofs.rows.EventShortfalls.largest_retroactive.Goals as goal

pub invariant_of-event : goal.invariant_of-event
invariant_of-event g c =
    let s = c.args.self.now in
    let b : Beside s (length c.loop-event.yielded) c.in-Some.event.now c.in-Some.row.now = turn s c.loop-event.yielded c.into_iter-event-iterator.result c.loop-event.event-iterator c.next.new.self c.next.result (search rules) (search rules) c.loop-event.yielded_by (c.in-Some.event, c.in-Some.row) c.in-Some.is c.next.ensures.steps in
    record { start = early s (length c.loop-event.yielded) c.in-Some.event.now c.in-Some.row.now b }

pub loop-event-preserved-then-is_counted : goal.loop-event-preserved-then-is_counted
loop-event-preserved-then-is_counted g c r l =
    let s = c.args.self.now in
    let d = the_day s.tables.now in
    let t = g.R.AllocationRule.shares c.args.rule.now in
    let e = c.in-Some.event.now in
    let n = length c.loop-event.yielded in
    let b : Beside s n e c.in-Some.row.now = turn s c.loop-event.yielded c.into_iter-event-iterator.result c.loop-event.event-iterator c.next.new.self c.next.result (search rules) (search rules) c.loop-event.yielded_by (c.in-Some.event, c.in-Some.row) c.in-Some.is c.next.ensures.steps in
    let few = (bounded_day s.tables.now).few_resources in
    raised d.closed (λ e. cond (counts e) (retroactive_shortfall t d r e) (pos 0)) n _ no_event e _ _ _ b.here b.event (length_push c.loop-event.yielded _) (c.larger-largest.ensures r (omega arith))
    (c.retroactive_shortfalls.ensures r l ∙ ap (λ (b : Bool). cond b (retroactive_shortfall t d r e) (pos 0)) c.if-is_counted.ensures)
    (c.loop-event.invariant r l)

pub loop-event-preserved : goal.loop-event-preserved
loop-event-preserved g c r l =
    let s = c.args.self.now in
    let d = the_day s.tables.now in
    let t = g.R.AllocationRule.shares c.args.rule.now in
    let e = c.in-Some.event.now in
    let n = length c.loop-event.yielded in
    let b : Beside s n e c.in-Some.row.now = turn s c.loop-event.yielded c.into_iter-event-iterator.result c.loop-event.event-iterator c.next.new.self c.next.result (search rules) (search rules) c.loop-event.yielded_by (c.in-Some.event, c.in-Some.row) c.in-Some.is c.next.ensures.steps in
    not_raised d.closed (λ e. cond (counts e) (retroactive_shortfall t d r e) (pos 0)) n _ no_event e _ b.here b.event (length_push c.loop-event.yielded _)
    (sym (ap (λ (b : Bool). cond b (retroactive_shortfall t d r e) (pos 0)) c.if-is_counted.ensures)) (c.loop-event.invariant r l)

pub returns : goal.returns
unfolding largest_shortfall counted
returns g c r l =
    let s = c.args.self.now in
    let d = the_day s.tables.now in
    let t = g.R.AllocationRule.shares c.args.rule.now in
    largest_all counts d.closed (retroactive_shortfall t d r) _ _ (ended s c.loop-event.yielded c.into_iter-event-iterator.result c.loop-event.event-iterator c.next.new.self c.next.result (search rules) (search rules) c.loop-event.yielded_by (search rules) c.in-None.is c.next.ensures.steps) (c.loop-event.invariant r l)
