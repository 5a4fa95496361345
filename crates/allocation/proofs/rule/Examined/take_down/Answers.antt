use Rattle.std.proofs.Common.{◌*ℤ◌, rules}
use Rattle.std.proofs.lemmas.Int.{unsigned_abs-mul}
use Rattle.allocation.specs.Rounding.{floor}
use Rattle.allocation.specs.Products.{rest_is}
use Rattle.allocation.proofs.rule.Examined.take_down.Goals as goal

pub returns-clause-share : goal.returns-clause-share
unfolding floor
returns-clause-share c =
    let t = unsigned_abs-mul c.args.self.now.amount c.args.weight in
    search rules

pub returns-clause-drop : goal.returns-clause-drop
returns-clause-drop c =
    let t = unsigned_abs-mul c.args.self.now.amount c.args.weight in
    let r = rest_is (c.args.self.now.amount *ℤ c.args.weight) c.args.self.now.whole (rw c.args.self.now.sum c.args.self.now.passed.above) in
    search rules
