use Rattle.std.proofs.Common.{◌≡◌, ℕ, ◌<◌, ◌≤◌, [], length, get_or, replicate, refl, lit≤}
use Rattle.hours.specs.declared.assignment.Assignment.{Assignment}
use Rattle.hours.specs.declared.assignment.Assignment.TheVariants.{Unassigned}
use Rattle.hours.specs.Assignments.{assignment_at, kwh_of, offer_of, costs_of}
use Rattle.hours.proofs.Cells.{of_alike}
use Rattle.hours.proofs.assignment.AssignmentTable.blank.Goals as goal

-- a figure of assignments that are all alike
alike : (f : Assignment ℕ → ℕ) (n : ℕ) (a : Assignment ℕ) → f a ≤ n → (h r : ℕ) → h < 24 → r < 16 → f (assignment_at (replicate 24 (replicate 16 a)) h r) ≤ n
alike f n a p h r l k = of_alike (λ row. f (get_or row r Unassigned) ≤ n) 24 (replicate 16 a) [] (of_alike (λ x. f x ≤ n) 16 a Unassigned p r k) h l

pub invariant_of-result : goal.invariant_of-result
invariant_of-result c = record {
  wide = of_alike (λ row. length row ≡ 16) 24 _ [] refl;
  energy = alike kwh_of 500000 _ (lit≤ tt);
  offers = alike offer_of 400000 _ (lit≤ tt);
  costs = alike costs_of 300000000 _ (lit≤ tt);
}
