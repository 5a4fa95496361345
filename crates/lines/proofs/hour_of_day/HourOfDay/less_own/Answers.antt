use Rattle.std.proofs.Common.{ℤ, ◌≡◌, ◌-ℤ◌, ap, ◌∙◌, rules}
use Rattle.std.proofs.lemmas.Int.{ints, clamps}
use Rattle.settlement.specs.Sums.{at, at_least_zero}
use Rattle.lines.proofs.hour_of_day.HourOfDay.less_own.Goals as goal

pub returns : goal.returns
returns c m l =
    let h = c.by_member.ensures m l in
    let a = c.requires.adjusted m l in
    let s = c.own_sums-own.ensures.size m l in
    let e : at c.by_member.result m ≡ at_least_zero (at c.args.adjusted.now m -ℤ at c.own_sums-own.result m) = search (rules, ints, clamps) in
    e ∙ ap (λ (z : ℤ). at_least_zero (at c.args.adjusted.now m -ℤ z)) (c.own_sums-own.ensures.value m l)
