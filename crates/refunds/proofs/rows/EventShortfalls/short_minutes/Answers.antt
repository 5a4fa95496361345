use Rattle.std.proofs.Common.{cond, length, pos, arith, w64, SFits, rules}
use lib.Signed.{lt_z}
use Rattle.std.proofs.lemmas.Int.{ints, to_z-of_z}
use Rattle.std.proofs.lemmas.List.{length_push}
use Rattle.events.specs.declared.event.Event.{Event}
use Rattle.events.specs.States.{no_event}
use Rattle.settlement.specs.Sums.{at}
use Rattle.settlement.specs.Shortfalls.{counts, counted, shortfall, minutes_in, refund_minutes}
use Rattle.settlement.specs.Figures.{the_day}
use Rattle.settlement.proofs.Refunds.{minutes_small}
use Rattle.settlement.proofs.Tables.{bounded_day}
use Rattle.refunds.proofs.Events.{Beside, turn, ended, row_is}
use Rattle.refunds.proofs.ShortMinutes.{sum_front_more, sum_kept_twice, above_zero, not_above_zero}
use Rattle.refunds.proofs.rows.EventShortfalls.short_minutes.Goals as goal

pub overflow_add-minutes : goal.overflow_add-minutes
overflow_add-minutes c =
    let s = c.args.self.now in
    let e = c.in-Some.event.now in
    let b : Beside s (length c.loop-event.yielded) e c.in-Some.row.now = turn s c.loop-event.yielded c.into_iter-event-iterator.result c.loop-event.event-iterator c.next.new.self c.next.result (search rules) (search rules) c.loop-event.yielded_by (c.in-Some.event, c.in-Some.row) c.in-Some.is c.next.ensures.steps in
    let few = (bounded_day s.tables.now).few_events in
    let here = b.here in
    let most = minutes_small e c.args.hour in
    let m = c.minutes_in-minutes.ensures in omega (arith, ints, c.loop-event.invariant.1)

pub loop-event-preserved-then-row-resource-gt0 : goal.loop-event-preserved-then-row-resource-gt0
loop-event-preserved-then-row-resource-gt0 c =
    let s = c.args.self.now in
    let d = the_day s.tables.now in
    let r = c.args.resource in
    let e = c.in-Some.event.now in
    let n = length c.loop-event.yielded in
    let b : Beside s n e c.in-Some.row.now = turn s c.loop-event.yielded c.into_iter-event-iterator.result c.loop-event.event-iterator c.next.new.self c.next.result (search rules) (search rules) c.loop-event.yielded_by (c.in-Some.event, c.in-Some.row) c.in-Some.is c.next.ensures.steps in
    let few = (bounded_day s.tables.now).few_events in
    let here = b.here in
    let next = length_push c.loop-event.yielded (c.in-Some.event, c.in-Some.row) in
    let small : SFits w64 (at c.in-Some.row.now r) = search rules in
    let row = row_is s n r e c.in-Some.row.now b c.requires.resource in
    let most = minutes_small e c.args.hour in
    let v = above_zero (counts e) (shortfall d e r) _ (minutes_in e c.args.hour) row (simp to_z-of_z at c.if-row-resource-gt0.true) in
    let more = sum_front_more d.closed (λ (e : Event). cond (counts e) (cond (lt_z (pos 0) (shortfall d e r)) (minutes_in e c.args.hour) (pos 0)) (pos 0)) n _ no_event e here b.event next in
    let m = c.minutes_in-minutes.ensures in
    (omega (arith, ints, c.loop-event.invariant), omega (arith, ints, c.loop-event.invariant))

pub loop-event-preserved : goal.loop-event-preserved
loop-event-preserved c =
    let s = c.args.self.now in
    let d = the_day s.tables.now in
    let r = c.args.resource in
    let e = c.in-Some.event.now in
    let n = length c.loop-event.yielded in
    let b : Beside s n e c.in-Some.row.now = turn s c.loop-event.yielded c.into_iter-event-iterator.result c.loop-event.event-iterator c.next.new.self c.next.result (search rules) (search rules) c.loop-event.yielded_by (c.in-Some.event, c.in-Some.row) c.in-Some.is c.next.ensures.steps in
    let few = (bounded_day s.tables.now).few_events in
    let here = b.here in
    let next = length_push c.loop-event.yielded (c.in-Some.event, c.in-Some.row) in
    let small : SFits w64 (at c.in-Some.row.now r) = search rules in
    let row = row_is s n r e c.in-Some.row.now b c.requires.resource in
    let v = not_above_zero (counts e) (shortfall d e r) _ (minutes_in e c.args.hour) row (simp to_z-of_z at c.if-row-resource-gt0.false) in
    let more = sum_front_more d.closed (λ (e : Event). cond (counts e) (cond (lt_z (pos 0) (shortfall d e r)) (minutes_in e c.args.hour) (pos 0)) (pos 0)) n _ no_event e here b.event next in
    (omega (arith, ints, c.loop-event.invariant), omega (arith, ints, c.loop-event.invariant))

pub returns : goal.returns
unfolding refund_minutes counted
returns c =
    let s = c.args.self.now in
    let d = the_day s.tables.now in
    sum_kept_twice counts (λ e. lt_z (pos 0) (shortfall d e c.args.resource)) d.closed (λ e. minutes_in e c.args.hour) (length c.loop-event.yielded) _
    (ended s c.loop-event.yielded c.into_iter-event-iterator.result c.loop-event.event-iterator c.next.new.self c.next.result (search rules) (search rules) c.loop-event.yielded_by (search rules) c.in-None.is c.next.ensures.steps) c.loop-event.invariant.0
