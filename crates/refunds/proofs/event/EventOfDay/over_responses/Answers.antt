use Rattle.std.proofs.Common.{◌≤◌, nat_abs, arith, rules}
use Rattle.settlement.specs.Sums.{at}
use Rattle.refunds.proofs.event.EventOfDay.over_responses.Goals as goal

pub returns-clause-value : goal.returns-clause-value
returns-clause-value c k l = let h = c.by_resource.ensures k l in search rules

pub returns-clause-size : goal.returns-clause-size
returns-clause-size c k l = let h = c.by_resource.ensures k l in let small : nat_abs (at c.by_resource.result k) ≤ 4294967295 = search rules in omega arith
