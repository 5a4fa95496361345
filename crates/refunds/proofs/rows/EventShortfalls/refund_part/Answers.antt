use Rattle.std.proofs.Common.{◌≡◌, List, map, ℤ, pos, ap, ◌∙◌, w64, SFits, rules}
use Rattle.std.proofs.lemmas.Int.{to_z-of_z}
use Rattle.std.proofs.lemmas.List.FromFn.{fill_by_all}
use Rattle.settlement.specs.Sums.{at}
use Rattle.settlement.specs.Days.{hours}
use Rattle.settlement.specs.Shortfalls.{day_refund, refund_minutes, refund_part}
use Rattle.settlement.specs.Laws.{Lawful}
use Rattle.settlement.specs.Figures.{the_day}
use Rattle.settlement.proofs.Refunds.{refunds_accepted}
use Rattle.settlement.proofs.Steps.{allocated_at, accepted_at}
use Rattle.settlement.proofs.Tables.{bounded_day}
use Rattle.refunds.proofs.rows.EventShortfalls.refund_part.Goals as goal

pub allocate_amount-requires-clause-allocable : goal.allocate_amount-requires-clause-allocable
allocate_amount-requires-clause-allocable g c =
    let s = c.args.rule.now in
    let d = the_day c.args.self.now.tables.now in
    let t = g.R.AllocationRule.shares s in
    let lawful : Lawful t = record { counted = g.met.R.AllocationRule.counted s; whole = g.met.R.AllocationRule.whole s; rounded = g.met.R.AllocationRule.rounded s } in
    let minutes : c.by_place-minutes.result ≡ map (refund_minutes d c.args.resource) hours = fill_by_all (refund_minutes d c.args.resource) c.by_place-minutes.result 24 (pos 0) (search rules) (λ k l. let h = c.by_place-minutes.ensures.first k l in search rules) in
    accepted_at _ _ _ _ (to_z-of_z w64 _ c.ranges.refund ∙ c.requires.refund) minutes (refunds_accepted d (bounded_day c.args.self.now.tables.now) t c.args.resource lawful c.requires.resource)

pub returns : goal.returns
unfolding refund_part
returns g c =
    let d = the_day c.args.self.now.tables.now in
    let t = g.R.AllocationRule.shares c.args.rule.now in
    let small : SFits w64 (at c.allocate_amount.new.shares c.index.result) = search rules in
    let minutes : c.by_place-minutes.result ≡ map (refund_minutes d c.args.resource) hours = fill_by_all (refund_minutes d c.args.resource) c.by_place-minutes.result 24 (pos 0) (search rules) (λ k l. let h = c.by_place-minutes.ensures.first k l in search rules) in
    let parts = allocated_at t _ (day_refund t d c.args.resource) _ (map (refund_minutes d c.args.resource) hours) c.allocate_amount.new.shares
    c.allocate_amount.ensures (to_z-of_z w64 _ c.ranges.refund ∙ c.requires.refund) minutes in
    to_z-of_z w64 _ small ∙ ap (at c.allocate_amount.new.shares) c.index.ensures.value ∙ ap (λ (zs : List ℤ). at zs c.args.hour.place) parts
