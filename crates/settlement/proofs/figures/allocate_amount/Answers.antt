use Rattle.std.proofs.Common.{◌≡◌, pos, sym, ◌∙◌, arith}
use Rattle.std.proofs.lemmas.Int.{ints, to_z-of_z}
use Rattle.settlement.proofs.Shares.{zero_allocated}
use Rattle.settlement.proofs.Steps.{zeros_are, allocated_fixed, some_allocated}
use Rattle.settlement.proofs.figures.allocate_amount.Goals as goal

pub returns-then-amount-eq0 : goal.returns-then-amount-eq0
returns-then-amount-eq0 g c =
    let z : c.args.amount ≡ pos 0 = omega (arith, ints) in
    c.fill.ensures.after (λ y e. e) ∙ zeros_are c.args.weights.now _ c.requires.places ∙ sym (zero_allocated (g.R.AllocationRule.shares c.args.rule.now) c.args.amount c.args.weights.now z)

pub returns-else-amount-eq0 : goal.returns-else-amount-eq0
returns-else-amount-eq0 g c =
    let f = c.ranges.amount in
    let p = some_allocated (g.R.AllocationRule.shares c.args.rule.now) c.args.amount c.args.weights.now (λ e. c.if-amount-eq0.false (omega (arith, ints))) c.requires.allocable in
    allocated_fixed c.args.amount c.args.weights.now _ c.allocate.result c.args.shares.now c.allocate.new.out _ p.0 c.requires.places (simp to_z-of_z at c.allocate.ensures) ∙ sym p.1
