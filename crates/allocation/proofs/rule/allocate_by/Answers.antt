use Rattle.std.proofs.Common.{◌≡◌, ℕ, List, ℤ, Ok, Result, ap, ◌∙◌}
use Rattle.std.proofs.lemmas.Int.{to_z-of_z}
use Rattle.allocation.specs.Weights.{total}
use Rattle.allocation.specs.Refusals.{verdict, Admissible}
use Rattle.allocation.specs.declared.refusal.AllocationRefusal.{AllocationRefusal}
use Rattle.allocation.specs.Rules.{Allocated}
use Rattle.allocation.specs.Verdicts.{admitted, at_ok}
use Rattle.allocation.specs.RoundingLemmas.{each_close}
use Rattle.allocation.proofs.rule.allocate_by.Goals as goal

-- where the rule answers Ok, the weights passed and the places hold its shares
passed : (a : ℤ) (ws : List ℤ) (n : ℕ) (r : Result (Unit {0}) AllocationRefusal) (before after shares : List ℤ)
    → Allocated (verdict a ws n) r before after shares → r ≡ Ok tt → Admissible a ws × (after ≡ shares)
passed a ws n r before after shares h e = let q = at_ok _ r before after shares h e in ((admitted a ws n _ q.1).fit, q.2)

pub returns-clause-whole : goal.returns-clause-whole
returns-clause-whole g c =
    let fa = c.ranges.amount in
    λ e.
    let q = passed _ _ _ _ _ _ _ (simp to_z-of_z at c.allocate.ensures) e in
    ap total q.1 ∙ g.met.R.AllocationRule.whole c.args.rule.now c.args.amount c.args.weights.now q.0

pub returns-clause-close : goal.returns-clause-close
returns-clause-close g c =
    let fa = c.ranges.amount in
    λ e k l.
    let q = passed _ _ _ _ _ _ _ (simp to_z-of_z at c.allocate.ensures) e in
    rw q.1 (each_close _ _ _ q.0.above (g.met.R.AllocationRule.rounded c.args.rule.now c.args.amount c.args.weights.now q.0) k l)
