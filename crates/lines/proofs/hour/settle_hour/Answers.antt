use Rattle.std.proofs.Common.{◌≡◌, length, arith, rules}
use Rattle.std.proofs.lemmas.Int.{ints}
use Rattle.settlement.specs.Laws.{Lawful}
use Rattle.settlement.specs.Figures.{the_day, the_hour, the_sales}
use Rattle.settlement.proofs.Acceptance.{A_small, C_above, C_scaled, O_above, O_small, R_above, R_small}
use Rattle.settlement.proofs.Tables.{bounded}
use Rattle.lines.proofs.Sizes.{carried}
use Rattle.lines.proofs.Settling.{payees_length}
use Rattle.lines.proofs.Lines.{refused_load, refused_payee, accepted, lines_are, refund_allocable, total_is}
use Rattle.lines.proofs.hour.settle_hour.Goals as goal
use Rattle.lines.proofs.hour.settle_hour.Given as given

lawful : (g : given.Over) (s : g.row.R.Denot) → Lawful (g.R.AllocationRule.shares s)
lawful g s = record { counted = g.met.R.AllocationRule.counted s; whole = g.met.R.AllocationRule.whole s; rounded = g.met.R.AllocationRule.rounded s }

pub returns-in_err-owed : goal.returns-in_err-owed
returns-in_err-owed g c =
    let h = refused_load (g.R.AllocationRule.shares c.args.rule.now) c.args.tables.now c.args.hour.place c.in_err-owed.ensures.0 in
    let e = c.in_err-owed.ensures.1 in
    search rules

pub returns-in_err-payments : goal.returns-in_err-payments
returns-in_err-payments g c =
    let h = refused_payee (g.R.AllocationRule.shares c.args.rule.now) c.args.tables.now c.args.hour.place c.in_err-payments.ensures.0 in
    let e = c.in_err-payments.ensures.1 in
    search rules

pub overflow_add-result : goal.overflow_add-result
overflow_add-result g c =
    let t = c.args.tables.now in
    let k = c.args.hour.place in
    let i = c.args.hour.within in
    let s = c.args.rule.now in
    let u = g.R.AllocationRule.shares s in
    let d = the_day t in
    let x = the_hour t k in
    let q = the_sales t k in
    let b = bounded t k i in
    let o = c.in_ok-owed.ensures in
    let p = c.in_ok-payments.ensures in
    let l = carried t k i u (lawful g s) o.loaded in
    let e = c.clear-cleared.ensures.total in
    let f = p.total in
    omega (arith, ints, A_small d k x q b, C_above d k x q b, C_scaled d k x q b, O_above d k x q b, O_small d k x q b, R_above d k x q b u (lawful g s) l, R_small d k x q b u (lawful g s) l)

pub returns : goal.returns
returns g c =
    let t = c.args.tables.now in
    let k = c.args.hour.place in
    let i = c.args.hour.within in
    let s = c.args.rule.now in
    let u = g.R.AllocationRule.shares s in
    let d = the_day t in
    let x = the_hour t k in
    let q = the_sales t k in
    let b = bounded t k i in
    let o = c.in_ok-owed.ensures in
    let p = c.in_ok-payments.ensures in
    let l = carried t k i u (lawful g s) o.loaded in
    let e = c.clear-cleared.ensures.total in
    let f = p.total in
    let n : length c.in_ok-owed.owed.owed ≡ 16 = search rules in
    let z = total_is u t k (lawful g s) (refund_allocable u t k i (lawful g s) o.loaded p.payable) (payees_length t k u c.in_ok-owed.owed.owed n o.owed) in (
      accepted u t k o.loaded p.payable,
      (
        lines_are u t k c.in_ok-owed.owed c.clear-cleared.result c.in_ok-payments.payments c.member_count.result _ o c.clear-cleared.ensures p c.member_count.ensures.value c.lines_of.ensures.members c.lines_of.ensures.rest,
        omega (arith, ints, A_small d k x q b, C_above d k x q b, C_scaled d k x q b, O_above d k x q b, O_small d k x q b, R_above d k x q b u (lawful g s) l, R_small d k x q b u (lawful g s) l),
      ),
    )
