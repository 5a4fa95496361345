-- A figure of every assignment stays within its bound when one assignment is set.
use Rattle.std.proofs.Common.{◌≡◌, ℕ, ◌<◌, ◌≤◌, List, [], length, get_or, set, arith}
use Rattle.hours.specs.declared.assignment.Assignment.{Assignment}
use Rattle.hours.specs.declared.assignment.Assignment.TheVariants.{Unassigned}
use Rattle.hours.specs.Assignments.{assignment_at, with_assignment}
use Rattle.hours.proofs.Cells.{of_set}

module _ (rows : List (List (Assignment ℕ))) (h r : ℕ) (a : Assignment ℕ)
    (many : length rows ≡ 24) (wide : (i : ℕ) → i < 24 → length (get_or rows i []) ≡ 16) (lh : h < 24) (lr : r < 16) where
  pub bounded : (f : Assignment ℕ → ℕ) (n : ℕ) → f a ≤ n → ((i j : ℕ) → i < 24 → j < 16 → f (assignment_at rows i j) ≤ n)
      → (i j : ℕ) → i < 24 → j < 16 → f (assignment_at (with_assignment rows h r a) i j) ≤ n
  bounded f n p q i j li lj =
      of_set (λ z. f (get_or z j Unassigned) ≤ n) 24 rows h (set (get_or rows h []) r a) [] (omega arith)
      (λ _. of_set (λ z. f z ≤ n) 16 (get_or rows h []) r a Unassigned (omega (arith, wide h lh)) (λ _. p) (λ k lk. q h k lh lk) j lj)
      (λ k lk. q k j lk lj) i li
