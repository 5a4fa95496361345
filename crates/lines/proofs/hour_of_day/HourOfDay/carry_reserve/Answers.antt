use Rattle.std.proofs.Common.{◌≡◌, true, false, map, length, nat_abs, refl, ap, arith, lit≤, rules, w64, to_z, of_z}
use Rattle.std.proofs.lemmas.Int.{ints}
use Rattle.settlement.specs.Days.{load, members}
use Rattle.settlement.specs.Settlement.{total_assigned}
use Rattle.settlement.specs.Laws.{Lawful}
use Rattle.settlement.specs.Figures.{the_day, the_hour}
use Rattle.settlement.proofs.Steps.{accepted_at}
use Rattle.settlement.proofs.Tables.{few_members, bounded}
use Rattle.lines.proofs.Sizes.{share_at, reserve_allocable, owed_small, net_small, modest_by, moderate, magnitude_fits}
use Rattle.lines.proofs.Settling.{front_list, no_load_is, owed_are, adjusted_is}
use Rattle.lines.proofs.hour_of_day.HourOfDay.carry_reserve.Goals as goal
use Rattle.lines.proofs.hour_of_day.HourOfDay.carry_reserve.Given as given

lawful : (g : given.Over) (s : g.row.R.Denot) → Lawful (g.R.AllocationRule.shares s)
lawful g s = record { counted = g.met.R.AllocationRule.counted s; whole = g.met.R.AllocationRule.whole s; rounded = g.met.R.AllocationRule.rounded s }

pub total_of-requires : goal.total_of-requires
total_of-requires g c =
    let t = c.args.self.now.tables.now in
    let h = c.args.self.now.hour in
    let xs = c.loads_by_member-loads.result in
    let small = modest_by _ 100000000 xs (load (the_hour t h.place)) c.loads_by_member-loads.ensures (λ m l. let b = (bounded t h.place h.within).loads m l in (omega (arith, ints), omega (arith, ints))) (lit≤ tt) in
    rw c.member_count.ensures.value (magnitude_fits _ xs (few_members t) (moderate _ xs small))

pub returns-then-lacks_load : goal.returns-then-lacks_load
returns-then-lacks_load g c =
    let t = c.args.self.now.tables.now in
    let k = c.args.self.now.hour.place in
    let n : length c.loads_by_member-loads.result ≡ 16 = search rules in
    let loads = front_list t c.member_count.result c.loads_by_member-loads.result (load (the_hour t k)) n c.member_count.ensures.value c.loads_by_member-loads.ensures in
    let lacks = no_load_is t k _ (to_z w64 (of_z w64 c.reserve-reserve.result)) (to_z w64 (of_z w64 c.total_of.result)) true c.if-lacks_load.ensures loads (omega (arith, ints)) (omega (arith, ints)) in
    (lacks, refl)

pub shares_of-owed-requires-clause-allocable : goal.shares_of-owed-requires-clause-allocable
shares_of-owed-requires-clause-allocable g c =
    let t = c.args.self.now.tables.now in
    let k = c.args.self.now.hour.place in
    let i = c.args.self.now.hour.within in
    let s = c.args.rule.now in
    let u = g.R.AllocationRule.shares s in
    let n : length c.loads_by_member-loads.result ≡ 16 = search rules in
    let loads = front_list t c.member_count.result c.loads_by_member-loads.result (load (the_hour t k)) n c.member_count.ensures.value c.loads_by_member-loads.ensures in
    let loaded = no_load_is t k _ (to_z w64 (of_z w64 c.reserve-reserve.result)) (to_z w64 (of_z w64 c.total_of.result)) false c.if-lacks_load.ensures loads (omega (arith, ints)) (omega (arith, ints)) in
    accepted_at _ (total_assigned (the_day t) k) _ (map (load (the_hour t k)) (members (the_day t))) (omega (arith, ints)) loads (reserve_allocable t k i u (lawful g s) loaded)

pub added-adjusted-requires : goal.added-adjusted-requires
added-adjusted-requires g c =
    let t = c.args.self.now.tables.now in
    let k = c.args.self.now.hour.place in
    let i = c.args.self.now.hour.within in
    let s = c.args.rule.now in
    let u = g.R.AllocationRule.shares s in
    let n : length c.loads_by_member-loads.result ≡ 16 = search rules in
    let loads = front_list t c.member_count.result c.loads_by_member-loads.result (load (the_hour t k)) n c.member_count.ensures.value c.loads_by_member-loads.ensures in
    let loaded = no_load_is t k _ (to_z w64 (of_z w64 c.reserve-reserve.result)) (to_z w64 (of_z w64 c.total_of.result)) false c.if-lacks_load.ensures loads (omega (arith, ints)) (omega (arith, ints)) in
    let owed = owed_are t k u c.shares_of-owed.result _ _ c.shares_of-owed.ensures (omega (arith, ints)) loads in
    record {
      first = λ m l. let z = owed_small t k i u (lawful g s) loaded m l in omega (arith, ap nat_abs (share_at t c.shares_of-owed.result _ m owed l));
      second = λ m l. let z = net_small t k i u (lawful g s) loaded m l in omega (arith, ap nat_abs (c.net_sales_by_member-net.ensures m l));
    }

pub returns : goal.returns
returns g c =
    let t = c.args.self.now.tables.now in
    let k = c.args.self.now.hour.place in
    let u = g.R.AllocationRule.shares c.args.rule.now in
    let n : length c.loads_by_member-loads.result ≡ 16 = search rules in
    let loads = front_list t c.member_count.result c.loads_by_member-loads.result (load (the_hour t k)) n c.member_count.ensures.value c.loads_by_member-loads.ensures in
    let loaded = no_load_is t k _ (to_z w64 (of_z w64 c.reserve-reserve.result)) (to_z w64 (of_z w64 c.total_of.result)) false c.if-lacks_load.ensures loads (omega (arith, ints)) (omega (arith, ints)) in
    let owed = owed_are t k u c.shares_of-owed.result _ _ c.shares_of-owed.ensures (omega (arith, ints)) loads in
    record {
      loaded = loaded;
      owed = owed;
      adjusted = λ m l. adjusted_is t k u m _ _ _ (c.added-adjusted.ensures m l) (share_at t c.shares_of-owed.result _ m owed l) (c.net_sales_by_member-net.ensures m l);
    }
