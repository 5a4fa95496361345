use Rattle.std.proofs.Common.{◌+◌, get_or, set, ℤ, pos, ◌-ℤ◌, refl, ◌∙◌, arith, w64, SFits, to_z, of_z, rules}
use Rattle.std.proofs.lemmas.Int.{ints, to_z-of_z}
use Rattle.allocation.specs.Verdicts.{product_size, weight_size}
use Rattle.allocation.specs.Remainders.{Lowering, lower_turn, lowering_size}
use Rattle.allocation.proofs.rule.Examined.take_all_down.Goals as goal

-- the loop's facts after this turn
turned : (c : goal.After-struct_told-in-loop-place-1) (left : ℤ)
    → Lowering c.args.self.now.amount c.args.self.now.whole c.args.self.now.weights.now c.loop-place.place left c.loop-place.shares c.loop-place.keys
    → Lowering c.args.self.now.amount c.args.self.now.whole c.args.self.now.weights.now (c.loop-place.place + 1)
    (left -ℤ to_z w64 (of_z w64 c.take_down-share.result.0))
    (set c.loop-place.shares c.loop-place.place (to_z w64 (of_z w64 c.take_down-share.result.0)))
    (set c.loop-place.keys c.loop-place.place (to_z w64 (of_z w64 c.take_down-share.result.1)))
turned c left inv =
    let ws = c.args.self.now.weights.now in
    let x = get_or ws c.loop-place.place (pos 0) in
    let fx : SFits w64 x = search rules in
    let fr : SFits w64 c.take_down-share.result.0 = search rules in
    let fk : SFits w64 c.take_down-share.result.1 = search rules in
    lower_turn _ _ ws c.loop-place.shares c.loop-place.keys c.loop-place.place _ _ (to_z w64 (of_z w64 x)) _ _ c.loop-place-test.true (omega arith) (omega arith) (to_z-of_z w64 x fx)
    (to_z-of_z w64 _ fr ∙ c.take_down-share.ensures.share) (to_z-of_z w64 _ fk ∙ c.take_down-share.ensures.drop) refl inv

pub take_down-share-requires : goal.take_down-share-requires
take_down-share-requires c =
    let s = c.args.self.now in
    let ws = s.weights.now in
    let fx : SFits w64 (get_or ws c.loop-place.place (pos 0)) = search rules in
    simp to_z-of_z (product_size s.amount ws _ s.passed (weight_size ws c.loop-place.place c.loop-place-test.true))

pub overflow_sub-left : goal.overflow_sub-left
overflow_sub-left c =
    let s = c.args.self.now in
    let n = lowering_size _ _ _ _ _ _ _ (rw s.sum s.passed.above) s.passed (turned c _ c.loop-place.invariant) in
    omega (arith, ints)

pub loop-place-preserved : goal.loop-place-preserved
loop-place-preserved c = rw (to_z-of_z w64 _ (overflow_sub-left c)) (turned c _ c.loop-place.invariant)
