use Rattle.std.proofs.Common.{◌==◌, ◌∷◌, [], map, rules, tests, arith}
use Rattle.std.proofs.lemmas.Iterator.Consumers.{YieldsList-at, YieldsList-turn, YieldsList-end}
use Rattle.std.proofs.lemmas.Iterator.Splits.{YieldsList-from_slice_split}
use Rattle.std.proofs.lemmas.List.{map-append}
use Rattle.allocate.proofs.Fields.{every_number-push, every_number-none}
use Rattle.allocate.proofs.request.numbers.Goals as goal

pub returns-in_default : goal.returns-in_default
returns-in_default c =
    let here = YieldsList-turn (YieldsList-at c.into_iter-field-iterator.ensures.into_iter_gives (YieldsList-from_slice_split _ (λ b. b == 44) c.args.line.now c.split-field-items.ensures.rest c.split-field-items.ensures.done c.split-field-items.ensures.closure (λ x b q k. search (rules, tests)))) c.loop-field.yielded _ c.loop-field.yielded_by _ _ c.in-Some.field c.in-Some.is c.next.ensures.steps in
    let none = every_number-none _ _ _ here.0 here.1 in
    grind arith

pub loop-field-preserved : goal.loop-field-preserved
loop-field-preserved c =
    let fields = map-append (λ x. x.now) c.loop-field.yielded (c.in-Some.field ∷ []) in
    let more = every_number-push (map (λ x. x.now) c.loop-field.yielded) c.in-Some.field.now in
    let before = c.loop-field.invariant in
    grind arith

pub returns : goal.returns
returns c =
    let all = YieldsList-end (YieldsList-at c.into_iter-field-iterator.ensures.into_iter_gives (YieldsList-from_slice_split _ (λ b. b == 44) c.args.line.now c.split-field-items.ensures.rest c.split-field-items.ensures.done c.split-field-items.ensures.closure (λ x b q k. search (rules, tests)))) c.loop-field.yielded _ c.loop-field.yielded_by _ _ c.in-None.is c.next.ensures.steps in
    grind arith
