use Rattle.std.proofs.Common.{◌<◌, ◌≤◌, length, sym, ◌∙◌, rules}
use Rattle.rolls.proofs.Pushes.{pushed_few, pushed_each}
use Rattle.events.specs.Resources.{no_resource}
use Rattle.inputs.proofs.Pushes.{not_found, resources_apart}
use Rattle.inputs.proofs.tables.Tables.register.Goals as goal

pub invariant_of-self : goal.invariant_of-self
invariant_of-self c =
    let t = c.args.self.now in
    let none = sym c.place_of.ensures.value ∙ not_found c.place_of.result c.is_some.result c.is_some.ensures c.if-is_some.false in
    let each = pushed_each 16 c.push.result t.resources c.push.new.self _ c.push.ensures in
    record {
      few_members = t.few_members;
      few_resources = pushed_few 16 c.push.result t.resources c.push.new.self _ c.push.ensures t.few_resources;
      enrolled = t.enrolled;
      registered = resources_apart c.push.result t.resources c.push.new.self _ c.push.ensures none t.registered;
      owners = each (λ r. r.owner < length t.members) no_resource (search rules) t.owners;
      sums = each (λ r. r.interval_price_sum ≤ 4000000) no_resource (search rules) t.sums;
      sellers = t.sellers;
      buyers = t.buyers;
    }

pub invariant_of-self-2 : goal.invariant_of-self-2
invariant_of-self-2 c =
    let t = c.args.self.now in
    let none = sym c.place_of.ensures.value ∙ not_found c.place_of.result c.is_some.result c.is_some.ensures c.if-is_some.false in
    let each = pushed_each 16 c.push.result t.resources c.push.new.self _ c.push.ensures in
    record {
      few_members = t.few_members;
      few_resources = pushed_few 16 c.push.result t.resources c.push.new.self _ c.push.ensures t.few_resources;
      enrolled = t.enrolled;
      registered = resources_apart c.push.result t.resources c.push.new.self _ c.push.ensures none t.registered;
      owners = each (λ r. r.owner < length t.members) no_resource (search rules) t.owners;
      sums = each (λ r. r.interval_price_sum ≤ 4000000) no_resource (search rules) t.sums;
      sellers = t.sellers;
      buyers = t.buyers;
    }
