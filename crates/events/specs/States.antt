-- Whether an event runs, and what is read past the end of the closed events.
use Rattle.std.specs.Prelude.{ℕ, []}
use Rattle.events.specs.declared.event.Event.{Event}
use Rattle.events.specs.declared.event.EventState.{EventState}
use Rattle.events.specs.declared.event.EventState.TheVariants.{Quiet, Running}

-- how many events run: none or one
abbrev pub running_count : EventState → ℕ
running_count Quiet = 0
running_count (Running start) = 1

-- the minute at which the running event began, or the start of the day
abbrev pub running_start : EventState → ℕ
running_start Quiet = 0
running_start (Running start) = start

-- what is read past the end of the closed events
abbrev pub no_event : Event
no_event = record { start = 0; end = 0; readings = [] }
