-- The events of a day and what each call does to them.
use Rattle.std.specs.Prelude.{ℕ, ◌||◌, List, [], ◌∷◌, ◌++◌, length, replicate, Some, None, Ok, Err, fold, Option, Result, nat_le, nat_lt, slice_index_or, slice_set}
use Rattle.events.specs.declared.fault.BookFault.{BookFault}
use Rattle.events.specs.declared.fault.BookFault.TheVariants.{NoSuchResource, EventRuns, NoEventRuns, BadMinute, EventsFull}
use Rattle.events.specs.declared.resource.Resource.{Resource}
use Rattle.events.specs.declared.sample.Sample.{Sample}
use Rattle.events.specs.declared.event.Edge.{Edge}
use Rattle.events.specs.declared.event.Edge.TheVariants.{Start, End}
use Rattle.events.specs.declared.event.Reading.{Reading}
use Rattle.events.specs.declared.event.Event.{Event}
use Rattle.events.specs.declared.event.RunningEvent.{RunningEvent}
use Rattle.events.specs.declared.event.EventState.{EventState}
use Rattle.events.specs.declared.event.EventState.TheVariants.{Quiet, Running}
use Rattle.events.specs.declared.event.Events.{Events}
use Rattle.events.specs.declared.calls.EventCall.{EventCall}
use Rattle.events.specs.declared.calls.EventCall.TheVariants.{Begin, Read, Close, Cancel}
use Rattle.events.specs.Outcomes.{accepted, refuse_if}
use Rattle.events.specs.Resources.{place_named, kind_at}
use Rattle.events.specs.Samples.{reading_of}

pub record DayEvents : Type 0 where
  pub closed : List Event
  pub running : Option RunningEvent

abbrev pub running_of : EventState → List Reading → Option RunningEvent
running_of Quiet readings = None
running_of (Running start) readings = Some (record { start = start; readings = readings })

-- what the tables stand for
abbrev pub day_events : Events → DayEvents
day_events e = record { closed = e.closed; running = running_of e.state e.readings }

abbrev pub silent : Reading
silent = record { start = None; end = None }

-- the end of the last closed event, or the start of the day
abbrev pub last_end : List Event → ℕ
last_end events = fold (λ _ e. e.end) 0 events

-- a reading entered at one of the two edges
abbrev pub entered : Reading → Edge → Option ℕ → Reading
entered r Start kw = record { start = kw; end = r.end }
entered r End kw = record { start = r.start; end = kw }

-- the reading of one resource entered, and no other moved
abbrev pub with_reading : List Reading → ℕ → Edge → Option ℕ → List Reading
with_reading rs i edge kw = slice_set rs i (entered (slice_index_or rs i silent) edge kw)

-- why a reading is refused: no such resource, or a sample that cannot be read of its kind
abbrev pub unread : Result (Option ℕ) BookFault → Option BookFault
unread (Ok kw) = accepted
unread (Err fault) = Some fault

abbrev pub reading_refusal : List Resource → Option ℕ → Sample → Option BookFault
reading_refusal rs None sample = Some NoSuchResource
reading_refusal rs (Some i) sample = unread (reading_of (kind_at rs i) sample)

-- the first refusal that applies, by whether an event runs and by the call
abbrev pub event_refusal : List Resource → List Event → Option RunningEvent → EventCall → Option BookFault
event_refusal rs closed None (Begin start) =
    refuse_if (nat_le 4 (length closed)) EventsFull
    (refuse_if (nat_lt 1439 start || nat_lt start (last_end closed)) BadMinute accepted)
event_refusal rs closed None (Read resource edge sample) = Some NoEventRuns
event_refusal rs closed None (Close end) = Some NoEventRuns
event_refusal rs closed None Cancel = Some NoEventRuns
event_refusal rs closed (Some run) (Begin start) = Some EventRuns
event_refusal rs closed (Some run) (Read resource edge sample) = reading_refusal rs (place_named rs resource.now) sample
event_refusal rs closed (Some run) (Close end) = refuse_if (nat_lt end run.start || nat_lt 1440 end) BadMinute accepted
event_refusal rs closed (Some run) Cancel = accepted

-- the running event with one reading entered
abbrev pub read_into : List Reading → Option ℕ → Edge → Result (Option ℕ) BookFault → List Reading
read_into rs (Some i) edge (Ok kw) = with_reading rs i edge kw
read_into rs (Some i) edge (Err fault) = rs
read_into rs None edge result = rs

abbrev pub kind_named : List Resource → Option ℕ → Sample → Result (Option ℕ) BookFault
kind_named rs None sample = Err NoSuchResource
kind_named rs (Some i) sample = reading_of (kind_at rs i) sample

-- what an accepted call leaves
abbrev pub after_event : List Resource → List Event → Option RunningEvent → EventCall → DayEvents
after_event rs closed running (Begin start) = record { closed = closed; running = Some (record { start = start; readings = replicate 16 silent }) }
after_event rs closed None (Read resource edge sample) = record { closed = closed; running = None }
after_event rs closed (Some run) (Read resource edge sample) =
    record {
      closed = closed;
      running = Some (record {
        start = run.start;
        readings = read_into run.readings (place_named rs resource.now) edge (kind_named rs (place_named rs resource.now) sample);
      });
    }
after_event rs closed None (Close end) = record { closed = closed; running = None }
after_event rs closed (Some run) (Close end) =
    record { closed = closed ++ record { start = run.start; end = end; readings = run.readings } ∷ []; running = None }
after_event rs closed running Cancel = record { closed = closed; running = None }
