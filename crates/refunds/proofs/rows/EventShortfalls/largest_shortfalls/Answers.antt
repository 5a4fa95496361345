use Rattle.std.proofs.Common.{◌≡◌, Bool, true, false, cond, length, pos, sym, refl, ap, ◌∙◌, arith, rules}
use lib.Signed.{lt_z}
use Rattle.std.proofs.lemmas.Int.{ints}
use Rattle.std.proofs.lemmas.List.{length_push}
use Rattle.events.specs.declared.event.Event.{Event}
use Rattle.events.specs.States.{no_event}
use Rattle.settlement.specs.Shortfalls.{counts, counted, minutes_in, shortfall}
use Rattle.settlement.specs.Figures.{the_day}
use Rattle.settlement.proofs.Tables.{bounded_day}
use Rattle.refunds.proofs.Events.{Beside, turn, ended, row_is}
use Rattle.refunds.proofs.Largest.{raised, not_raised, largest_all, largest_kept}
use Rattle.refunds.proofs.rows.EventShortfalls.largest_shortfalls.Goals as goal

both_zero : (b : Bool) → cond b (pos 0) (pos 0) ≡ pos 0
both_zero true = refl
both_zero false = refl

pub loop-event-preserved-then-minutes_in-gt0 : goal.loop-event-preserved-then-minutes_in-gt0
loop-event-preserved-then-minutes_in-gt0 c r l =
    let s = c.args.self.now in
    let d = the_day s.tables.now in
    let k = c.args.hour.place in
    let e = c.in-Some.event.now in
    let n = length c.loop-event.yielded in
    let b : Beside s n e c.in-Some.row.now = turn s c.loop-event.yielded c.into_iter-event-iterator.result c.loop-event.event-iterator c.next.new.self c.next.result (search rules) (search rules) c.loop-event.yielded_by (c.in-Some.event, c.in-Some.row) c.in-Some.is c.next.ensures.steps in
    let few = (bounded_day s.tables.now).few_resources in
    let above : lt_z (pos 0) (minutes_in e k) ≡ true = rw (sym c.index.ensures.value, sym c.minutes_in.ensures) (grind (arith, ints)) in
    raised d.closed (λ e. cond (counts e) (cond (lt_z (pos 0) (minutes_in e k)) (shortfall d e r) (pos 0)) (pos 0)) n _ no_event e _ _ _ b.here b.event (length_push c.loop-event.yielded _) (c.larger-largest.ensures r (omega arith))
    (row_is s n r e c.in-Some.row.now b l ∙ sym (ap (λ (t : Bool). cond (counts e) (cond t (shortfall d e r) (pos 0)) (pos 0)) above))
    (c.loop-event.invariant r l)

pub loop-event-preserved : goal.loop-event-preserved
loop-event-preserved c r l =
    let s = c.args.self.now in
    let d = the_day s.tables.now in
    let k = c.args.hour.place in
    let e = c.in-Some.event.now in
    let n = length c.loop-event.yielded in
    let b : Beside s n e c.in-Some.row.now = turn s c.loop-event.yielded c.into_iter-event-iterator.result c.loop-event.event-iterator c.next.new.self c.next.result (search rules) (search rules) c.loop-event.yielded_by (c.in-Some.event, c.in-Some.row) c.in-Some.is c.next.ensures.steps in
    let none : lt_z (pos 0) (minutes_in e k) ≡ false = rw (sym c.index.ensures.value, sym c.minutes_in.ensures) (grind (arith, ints)) in
    not_raised d.closed (λ e. cond (counts e) (cond (lt_z (pos 0) (minutes_in e k)) (shortfall d e r) (pos 0)) (pos 0)) n _ no_event e _ b.here b.event (length_push c.loop-event.yielded _)
    (ap (λ (t : Bool). cond (counts e) (cond t (shortfall d e r) (pos 0)) (pos 0)) none ∙ both_zero (counts e)) (c.loop-event.invariant r l)

pub returns : goal.returns
unfolding counted
returns c r l =
    let s = c.args.self.now in
    let d = the_day s.tables.now in
    let here = λ (e : Event). lt_z (pos 0) (minutes_in e c.args.hour.place) in
    largest_all counts d.closed (λ e. cond (here e) (shortfall d e r) (pos 0)) _ _ (ended s c.loop-event.yielded c.into_iter-event-iterator.result c.loop-event.event-iterator c.next.new.self c.next.result (search rules) (search rules) c.loop-event.yielded_by (search rules) c.in-None.is c.next.ensures.steps) (c.loop-event.invariant r l)
    ∙ sym (largest_kept here (counted d) (λ e. shortfall d e r))
