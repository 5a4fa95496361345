-- Assignments by hour and resource.
use Rattle.std.specs.Prelude.{ℕ, ◌≤◌, List, [], slice_index_or, slice_set}
use Rattle.hours.specs.declared.assignment.Assignment.{Assignment}
use Rattle.hours.specs.declared.assignment.Assignment.TheVariants.{Unassigned, TierOne, SelfScheduled, PoolScheduled}

abbrev pub kwh_of : Assignment ℕ → ℕ
kwh_of Unassigned = 0
kwh_of (TierOne kwh) = kwh
kwh_of (SelfScheduled kwh) = kwh
kwh_of (PoolScheduled kwh offer costs) = kwh

abbrev pub offer_of : Assignment ℕ → ℕ
offer_of Unassigned = 0
offer_of (TierOne kwh) = 0
offer_of (SelfScheduled kwh) = 0
offer_of (PoolScheduled kwh offer costs) = offer

abbrev pub costs_of : Assignment ℕ → ℕ
costs_of Unassigned = 0
costs_of (TierOne kwh) = 0
costs_of (SelfScheduled kwh) = 0
costs_of (PoolScheduled kwh offer costs) = costs

abbrev pub assignment_at : List (List (Assignment ℕ)) → ℕ → ℕ → Assignment ℕ
assignment_at rows h r = slice_index_or (slice_index_or rows h []) r Unassigned

-- one assignment set, and no other moved
abbrev pub with_assignment : List (List (Assignment ℕ)) → ℕ → ℕ → Assignment ℕ → List (List (Assignment ℕ))
with_assignment rows h r a = slice_set rows h (slice_set (slice_index_or rows h []) r a)

-- within the bounds of its figures
pub record Small (a : Assignment ℕ) : Type 0 where
  pub kwh : kwh_of a ≤ 500000
  pub offer : offer_of a ≤ 400000
  pub costs : costs_of a ≤ 300000000
