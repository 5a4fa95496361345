-- The day's inputs as settlement reads them: what all hours have in common, and what belongs to one hour.
-- Places count from 0: the hour at place k is hour ending k + 1.
use Rattle.std.specs.Prelude.{ℕ, Bool, true, false, List, length, ℤ, pos, filter, ◌==◌, slice_index_or}
use Rattle.std.specs.List.{range_with_len}
use Rattle.events.specs.declared.event.Event.{Event}
use Rattle.events.specs.declared.event.Reading.{Reading}
use Rattle.events.specs.declared.resource.Resource.{Resource}
use Rattle.events.specs.Resources.{no_resource}
use Rattle.events.specs.DayEvents.{silent}
use Rattle.events.specs.States.{no_event}
use Rattle.hours.specs.declared.hour.Hour.{Hour}
use Rattle.hours.specs.declared.assignment.Assignment.{Assignment}
use Rattle.hours.specs.declared.assignment.Assignment.TheVariants.{Unassigned, TierOne, SelfScheduled, PoolScheduled}
use Rattle.hours.specs.Hours.{load_at, hour_at}
use Rattle.hours.specs.Assignments.{assignment_at, kwh_of}
use Rattle.inputs.specs.Inputs.{Inputs}

-- what a change of clears every hour
pub record Day : Type 0 where
  pub member_count : ℕ
  -- the resources in order of registration
  pub roll : List Resource
  -- by the hour's place, then by the resource's
  pub assignments : List (List (Assignment ℕ))
  -- the closed events in order
  pub closed : List Event

abbrev pub day_of : Inputs → Day
day_of i = record { member_count = length i.members; roll = i.resources; assignments = i.assignments; closed = i.events }

-- the places of the members, of the resources and of the hours
abbrev pub members : Day → List ℕ
members d = range_with_len 0 d.member_count

abbrev pub resources : Day → List ℕ
resources d = range_with_len 0 (length d.roll)

abbrev pub hours : List ℕ
hours = range_with_len 0 24

abbrev pub resource : Day → ℕ → Resource
resource d r = slice_index_or d.roll r no_resource

abbrev pub owns : Day → ℕ → ℕ → Bool
owns d m r = (resource d r).owner == m

-- the resources of a member among the given, in order
abbrev pub owned : Day → ℕ → List ℕ → List ℕ
owned d m rs = filter (owns d m) rs

abbrev pub assignment : Day → ℕ → ℕ → Assignment ℕ
assignment d k r = assignment_at d.assignments k r

abbrev pub is_tier_one : Assignment ℕ → Bool
is_tier_one Unassigned = false
is_tier_one (TierOne kwh) = true
is_tier_one (SelfScheduled kwh) = false
is_tier_one (PoolScheduled kwh offer costs) = false

-- kWh assigned to resource r in hour k
abbrev pub assigned : Day → ℕ → ℕ → ℤ
assigned d k r = pos (kwh_of (assignment d k r))

abbrev pub event : Day → ℕ → Event
event d n = slice_index_or d.closed n no_event

abbrev pub reading : Event → ℕ → Reading
reading e r = slice_index_or e.readings r silent

-- a member's load in kWh
abbrev pub load : Hour → ℕ → ℤ
load x m = pos (load_at x m)

-- the kWh that a seller sells to a buyer in an hour
abbrev pub Sales : Type 0
Sales = ℕ → ℕ → ℕ

abbrev pub sales_in : Inputs → ℕ → Sales
sales_in i k seller buyer = i.traded (record { hour = k; seller = seller; buyer = buyer })

abbrev pub hour_of : Inputs → ℕ → Hour
hour_of i k = hour_at i.hours k
