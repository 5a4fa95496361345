use Rattle.std.proofs.Common.{arith}
use Rattle.std.proofs.lemmas.Int.{ints}
use Rattle.allocation.specs.Verdicts.{admitted}
use Rattle.allocation.specs.Remainders.{serving_starts, servable, serving_on, serving_ends}
use Rattle.allocation.proofs.rule.Examined.write_shares.Goals as goal

pub take_all_down-left-requires-clause-places : goal.take_all_down-left-requires-clause-places
take_all_down-left-requires-clause-places c = (admitted _ _ _ _ c.requires).places

pub loop-init : goal.loop-init
loop-init c =
    let s = c.args.self.now in
    let o = c.take_all_down-left.ensures in
    let l = o.left in
    serving_starts _ _ _ _ _ _ s.passed.above s.sum o.shares o.keys (omega (arith, ints))

pub hand_out_one-requires : goal.hand_out_one-requires
hand_out_one-requires c =
    let s = servable _ _ _ _ _ c.args.self.now.passed c.loop.invariant in
    record { some = s.some; places = s.places; small = s.small }

pub loop-preserved : goal.loop-preserved
loop-preserved c =
    serving_on _ _ _ _ _ _ _ _ c.args.self.now.passed.above (omega (arith, ints)) (omega (arith, ints)) c.hand_out_one.ensures.shares c.hand_out_one.ensures.keys c.loop.invariant

pub returns : goal.returns
returns c = serving_ends _ _ _ _ _ (omega (arith, ints)) c.loop.invariant
