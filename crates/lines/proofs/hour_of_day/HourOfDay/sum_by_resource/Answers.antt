use Rattle.std.proofs.Common.{ℕ, length, take, refl, ap, ◌∙◌, arith}
use Rattle.std.proofs.lemmas.Int.{ints}
use Rattle.allocation.specs.Weights.{total}
use Rattle.settlement.specs.Sums.{at}
use Rattle.settlement.specs.Figures.{the_day}
use Rattle.settlement.proofs.Tables.{few_resources}
use Rattle.lines.proofs.Sizes.{first_list, magnitude_fits}
use Rattle.lines.proofs.hour_of_day.HourOfDay.sum_by_resource.Goals as goal

pub total_of-requires : goal.total_of-requires
total_of-requires c = rw (ap length c.resources.ensures.value) (magnitude_fits _ c.args.figures.now (few_resources c.args.self.now.tables.now) c.requires)

pub returns : goal.returns
returns c =
    let t = c.args.self.now.tables.now in
    let xs = c.args.figures.now in
    let few = few_resources t in
    let e = ap total (ap (λ (i : ℕ). take i xs) (ap length c.resources.ensures.value) ∙ first_list (length (the_day t).roll) xs (at xs) (omega arith) (λ r l. refl)) in
    omega (arith, ints)
