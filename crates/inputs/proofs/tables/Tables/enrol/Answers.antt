use Rattle.std.proofs.Common.{sym, ◌∙◌, arith}
use Rattle.rolls.proofs.Pushes.{pushed_few, pushed_grows}
use Rattle.inputs.proofs.Pushes.{not_found, members_apart}
use Rattle.inputs.proofs.tables.Tables.enrol.Goals as goal

pub invariant_of-self : goal.invariant_of-self
invariant_of-self c =
    let t = c.args.self.now in
    let none = sym c.place_of.ensures.value ∙ not_found c.place_of.result c.is_some.result c.is_some.ensures c.if-is_some.false in
    let more = pushed_grows 16 c.push.result t.members c.push.new.self _ c.push.ensures in
    record {
      few_members = pushed_few 16 c.push.result t.members c.push.new.self _ c.push.ensures t.few_members;
      few_resources = t.few_resources;
      enrolled = members_apart c.push.result t.members c.push.new.self _ c.push.ensures none t.enrolled;
      registered = t.registered;
      owners = λ k l. omega (arith, t.owners k l);
      sums = t.sums;
      sellers = λ k l. t.sellers k (omega arith);
      buyers = λ k l. t.buyers k (omega arith);
    }

pub invariant_of-self-2 : goal.invariant_of-self-2
invariant_of-self-2 c =
    let t = c.args.self.now in
    let none = sym c.place_of.ensures.value ∙ not_found c.place_of.result c.is_some.result c.is_some.ensures c.if-is_some.false in
    let more = pushed_grows 16 c.push.result t.members c.push.new.self _ c.push.ensures in
    record {
      few_members = pushed_few 16 c.push.result t.members c.push.new.self _ c.push.ensures t.few_members;
      few_resources = t.few_resources;
      enrolled = members_apart c.push.result t.members c.push.new.self _ c.push.ensures none t.enrolled;
      registered = t.registered;
      owners = λ k l. omega (arith, t.owners k l);
      sums = t.sums;
      sellers = λ k l. t.sellers k (omega arith);
      buyers = λ k l. t.buyers k (omega arith);
    }
