-- What the book's tables stand for: the inputs, the running event and the settled hours.
use Rattle.std.specs.Prelude.{ℕ, Bool, true, false, List, replicate, None, Option, slice_set}
use Rattle.events.specs.declared.event.RunningEvent.{RunningEvent}
use Rattle.events.specs.DayEvents.{day_events}
use Rattle.trades.specs.Trades.{quantity_at}
use Rattle.inputs.specs.declared.tables.Tables.{Tables}
use Rattle.inputs.specs.Inputs.{Inputs, no_inputs}

pub record State : Type 0 where
  pub inputs : Inputs
  pub running : Option RunningEvent
  -- by the hour's place
  pub settled : List Bool

abbrev pub opened : State
opened = record { inputs = no_inputs; running = None; settled = replicate 24 false }

abbrev pub state_of : Tables → State
state_of t = record {
  inputs = record {
    members = t.members;
    resources = t.resources;
    hours = t.hours.hours;
    assignments = t.assignments.rows;
    traded = quantity_at t.trades.places;
    events = (day_events t.events).closed;
  };
  running = (day_events t.events).running;
  settled = t.settled.flags;
}

-- one hour settled
abbrev pub hour_settled : ℕ → State → State
hour_settled h s = record { inputs = s.inputs; running = s.running; settled = slice_set s.settled h true }
