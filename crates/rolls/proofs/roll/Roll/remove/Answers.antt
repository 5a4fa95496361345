use Rattle.std.proofs.Common.{rules}
use Rattle.std.proofs.lemmas.List.{length-take}
use Rattle.rolls.proofs.Fronts.{sum_removed}
use Rattle.rolls.proofs.roll.Roll.remove.Goals as goal

pub returns-then-place-self-clause-sums : goal.returns-then-place-self-clause-sums
returns-then-place-self-clause-sums g c = rw (← c.self.view_is) (λ l f d. search (rules, sum_removed, length-take))
