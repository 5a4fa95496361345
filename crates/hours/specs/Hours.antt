-- The hours of the day.
use Rattle.std.specs.Prelude.{ℕ, List, [], replicate, slice_index, slice_index_or}
use Rattle.hours.specs.declared.hour.Hour.{Hour}

-- no price and no load
abbrev pub blank_hour : Hour
blank_hour = record { synchronized_price = 0; non_synchronized_price = 0; loads = replicate 16 0 }

-- what is read past the end of the table
abbrev pub no_hour : Hour
no_hour = record { synchronized_price = 0; non_synchronized_price = 0; loads = [] }

abbrev pub hour_at : List Hour → ℕ → Hour
hour_at hs h = slice_index_or hs h no_hour

abbrev pub load_at : Hour → ℕ → ℕ
load_at x m = slice_index x.loads m
