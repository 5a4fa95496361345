-- What was entered for the day, by whatever calls.
use Rattle.std.specs.Prelude.{ℕ, cond, List, [], replicate, None, Option}
use Rattle.std.specs.Str.{bytes_eq}
use Rattle.rolls.specs.declared.code.Code.{Code}
use Rattle.rolls.specs.Codes.{good, code_of}
use Rattle.std.specs.Prelude.{position}
use Rattle.events.specs.declared.resource.Resource.{Resource}
use Rattle.events.specs.declared.event.Event.{Event}
use Rattle.hours.specs.declared.hour.Hour.{Hour}
use Rattle.hours.specs.declared.assignment.Assignment.{Assignment}
use Rattle.hours.specs.declared.assignment.Assignment.TheVariants.{Unassigned}
use Rattle.hours.specs.Hours.{blank_hour}
use Rattle.trades.specs.Trades.{Traded, no_trades}

pub record Inputs : Type 0 where
  -- in order of enrolment
  pub members : List Code
  -- in order of registration
  pub resources : List Resource
  -- by the hour's place: hour ending h stands at h − 1
  pub hours : List Hour
  -- by the hour's place, then by the resource's
  pub assignments : List (List (Assignment ℕ))
  -- the kWh under each key of hour, seller and buyer
  pub traded : Traded
  -- closed, in order
  pub events : List Event

-- at opening all is empty or zero
abbrev pub no_inputs : Inputs
no_inputs = record {
  members = [];
  resources = [];
  hours = replicate 24 blank_hour;
  assignments = replicate 24 (replicate 16 Unassigned);
  traded = no_trades;
  events = [];
}

-- the place of the member that a text names; a text that is no code names none
abbrev pub member_named : List Code → List ℕ → Option ℕ
member_named ms text = cond (good text) (position (λ m. bytes_eq m.signs (code_of text).signs) ms) None
