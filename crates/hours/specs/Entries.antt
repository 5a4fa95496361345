-- What is entered for an hour.
use Rattle.std.specs.Prelude.{ℕ, List, slice_set}
use Rattle.hours.specs.declared.hour.Hour.{Hour}
use Rattle.hours.specs.Hours.{hour_at}

-- both prices of one hour set
abbrev pub with_price : List Hour → ℕ → ℕ → ℕ → List Hour
with_price hs h synchronized other =
    slice_set hs h (record { synchronized_price = synchronized; non_synchronized_price = other; loads = (hour_at hs h).loads })

-- the load of one member in one hour set
abbrev pub with_load : List Hour → ℕ → ℕ → ℕ → List Hour
with_load hs h m kwh =
    slice_set hs h (record {
      synchronized_price = (hour_at hs h).synchronized_price;
      non_synchronized_price = (hour_at hs h).non_synchronized_price;
      loads = slice_set (hour_at hs h).loads m kwh;
    })
