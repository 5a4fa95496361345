-- Shortfalls in events, and the refunds of the day.
use Rattle.std.specs.Prelude.{ℕ, ◌+◌, ◌-◌, ◌*◌, ◌/◌, min, max, Bool, cond, List, map, length, ℤ, pos, ◌-ℤ◌, ◌*ℤ◌, Some, None, filter, Option, int_lt, nat_le}
use Rattle.std.specs.List.{range_with_len}
use Rattle.events.specs.declared.event.Event.{Event}
use Rattle.events.specs.declared.event.Reading.{Reading}
use Rattle.events.specs.declared.resource.ResourceKind.{ResourceKind}
use Rattle.events.specs.declared.resource.ResourceKind.TheVariants.{Generator, Demand}
use Rattle.settlement.specs.Sums.{sum, largest, at_least_zero, is_zero, at, per_thousand, Meaning, allocated}
use Rattle.settlement.specs.Days.{Day, resources, hours, resource, owned, assigned, reading}

-- an event's minutes, start to end − 1, in the hour at place k, which holds minutes 60 k to 60 k + 59
unfoldable pub minutes_in : Event → ℕ → ℤ
minutes_in e k = pos (min e.end (60 * k + 60) - max e.start (60 * k))

-- an event counts with 10 minutes or more
abbrev pub counts : Event → Bool
counts e = nat_le 10 (e.end - e.start)

-- how far one reading is above the other, zero at least; zero if either is silent
abbrev pub rise : Option ℕ → Option ℕ → ℤ
rise None high = pos 0
rise (Some low) None = pos 0
rise (Some low) (Some high) = at_least_zero (pos high -ℤ pos low)

-- a generator responds by raising its output, a demand resource by lowering its draw
abbrev pub response_of : ResourceKind → Reading → ℤ
response_of Generator r = rise r.start r.end
response_of Demand r = rise r.end r.start

module _ (d : Day) where
  unfoldable pub counted : List Event
  counted = filter counts d.closed

  unfoldable pub response : Event → ℕ → ℤ
  response e r = response_of (resource d r).kind (reading e r)

  -- kWh assigned in the event's starting hour
  abbrev pub held : Event → ℕ → ℤ
  held e r = assigned d (e.start / 60) r

  unfoldable pub shortfall : Event → ℕ → ℤ
  shortfall e r = at_least_zero (held e r -ℤ response e r)

  unfoldable pub over_response : Event → ℕ → ℤ
  over_response e r = cond (is_zero (held e r)) (pos 0) (at_least_zero (response e r -ℤ held e r))

  -- what the shortfalls of an owner's resources exceed their over-responses by
  unfoldable pub net_shortfall : Event → ℕ → ℤ
  net_shortfall e m = at_least_zero (sum (owned d m (resources d)) (shortfall e) -ℤ sum (owned d m (resources d)) (over_response e))

  -- the minutes in hour k of the counted events in which resource r had a shortfall
  unfoldable pub refund_minutes : ℕ → ℕ → ℤ
  refund_minutes r k = sum (filter (λ e. int_lt (pos 0) (shortfall e r)) counted) (λ e. minutes_in e k)

module _ (t : Meaning) (d : Day) where
  -- an owner's net shortfall, allocated over its resources by their shortfalls
  unfoldable pub retroactive_shortfalls : Event → ℕ → List ℤ
  retroactive_shortfalls e m = allocated t (net_shortfall d e m) (map (shortfall d e) (owned d m (resources d)))

  -- that of resource r: its place is the number of the owner's resources before it
  unfoldable pub retroactive_shortfall : ℕ → Event → ℤ
  retroactive_shortfall r e = at (retroactive_shortfalls e (resource d r).owner) (length (owned d (resource d r).owner (range_with_len 0 r)))

  -- the largest of the day
  unfoldable pub largest_shortfall : ℕ → ℤ
  largest_shortfall r = largest (counted d) (retroactive_shortfall r)

  unfoldable pub day_refund : ℕ → ℤ
  day_refund r = per_thousand (largest_shortfall r *ℤ pos (resource d r).interval_price_sum)

  -- the part of a resource's day refund that falls to hour k
  unfoldable pub refund_part : ℕ → ℕ → ℤ
  refund_part k r = at (allocated t (day_refund r) (map (refund_minutes d r) hours)) k
