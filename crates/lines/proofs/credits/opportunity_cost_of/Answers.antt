use Rattle.std.proofs.Common.{◌≡◌, ℤ, pos, ◌*ℤ◌, ◌≤ℤ◌, sym, ap, ◌∙◌, arith}
use Rattle.std.proofs.lemmas.Int.{ints, clamps}
use Rattle.allocation.specs.Rounding.{half_up}
use Rattle.hours.specs.Assignments.{offer_of}
use Rattle.settlement.specs.Settlement.{opportunity_cost}
use Rattle.lines.proofs.Crediting.{cents_bounds, pool_is}
use Rattle.lines.proofs.credits.opportunity_cost_of.Goals as goal

-- what the offer comes to
priced : (c : goal.After-cents) → (pos 0 ≤ℤ c.cents.result) × (c.cents.result ≤ℤ pos 200000000)
priced c =
    let o = ap offer_of c.in-PoolScheduled.is in
    let b = cents_bounds c.args.delivered c.in-PoolScheduled.offer c.requires.low c.requires.most (omega arith) in
    let e = c.cents.ensures ∙ ap (λ (z : ℤ). half_up (z *ℤ pos c.in-PoolScheduled.offer) (pos 1000)) (omega (arith, ints)) in
    rw e b

pub overflow_add-cents : goal.overflow_add-cents
overflow_add-cents c = omega (arith, ints, priced c)

pub overflow_sub-cents : goal.overflow_sub-cents
overflow_sub-cents c = omega (arith, ints, priced c)

pub returns-in-PoolScheduled : goal.returns-in-PoolScheduled
returns-in-PoolScheduled c =
    let o = ap offer_of c.in-PoolScheduled.is in
    let b = cents_bounds c.args.delivered c.in-PoolScheduled.offer c.requires.low c.requires.most (omega arith) in
    let e : c.cents.result ≡ half_up (c.args.delivered *ℤ pos c.in-PoolScheduled.offer) (pos 1000) =
    c.cents.ensures ∙ ap (λ (z : ℤ). half_up (z *ℤ pos c.in-PoolScheduled.offer) (pos 1000)) (omega (arith, ints)) in
    pool_is c.in-PoolScheduled.kwh c.in-PoolScheduled.offer c.in-PoolScheduled.costs c.args.delivered c.args.clearing _ c.if-kwh-gt0.true (omega (arith, ints, clamps, b.0, b.1))
    ∙ sym (ap (λ a. opportunity_cost a c.args.delivered c.args.clearing) c.in-PoolScheduled.is)
