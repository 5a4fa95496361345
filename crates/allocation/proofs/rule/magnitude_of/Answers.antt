use Rattle.std.proofs.Common.{◌≡◌, List, [], ◌∷◌, ℤ, unsigned_abs, refl, ◌∙◌, arith, rules}
use Rattle.std.specs.List.{sum_by}
use Rattle.std.proofs.lemmas.List.Sums.{sum_by-cons}
use Rattle.allocation.specs.Weights.{magnitude}
use Rattle.allocation.proofs.rule.magnitude_of.Goals as goal

sum_by-unsigned_abs : (xs : List ℤ) → sum_by unsigned_abs xs ≡ magnitude xs
sum_by-unsigned_abs [] = refl
sum_by-unsigned_abs (x ∷ xs) = let e = sum_by-unsigned_abs xs in omega (arith, sum_by-cons unsigned_abs x xs)

pub returns : goal.returns
returns c = let e : c.sum.result ≡ sum_by unsigned_abs c.args.weights.now = search rules in e ∙ sum_by-unsigned_abs _
