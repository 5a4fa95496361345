-- Hours as places in tables.
use Rattle.std.specs.Prelude.{ℕ, ◌-◌, cond, ◌||◌, Some, None, Option, ◌==◌, nat_lt}

-- the place of hour ending 1 to 24; another hour has none
abbrev pub place_of_hour : ℕ → Option ℕ
place_of_hour hour = cond (hour == 0 || nat_lt 24 hour) None (Some (hour - 1))
