-- The tables as settlement reads them, and figures in arrays, by the places of resources or of members.
use Rattle.std.specs.Prelude.{◌≡◌, ℕ, ◌<◌, ◌≤◌, List, length, ℤ, unsigned_abs}
use Rattle.hours.specs.declared.hour.Hour.{Hour}
use Rattle.inputs.specs.declared.tables.Tables.{Tables}
use Rattle.inputs.specs.States.{state_of}
use Rattle.settlement.specs.Sums.{at}
use Rattle.settlement.specs.Days.{Day, day_of, hour_of, Sales, sales_in}

-- the day, an hour and its trades as the tables have them
abbrev pub the_day : Tables → Day
the_day tables = day_of (state_of tables).inputs

abbrev pub the_hour : Tables → ℕ → Hour
the_hour tables k = hour_of (state_of tables).inputs k

abbrev pub the_sales : Tables → ℕ → Sales
the_sales tables k = sales_in (state_of tables).inputs k

-- the figure at each of the first n places
abbrev pub First : ℕ → List ℤ → (ℕ → ℤ) → Type 0
First n xs f = (k : ℕ) → k < n → at xs k ≡ f k

-- a figure for each resource, and for each member
abbrev pub ByResource : Tables → List ℤ → (ℕ → ℤ) → Type 0
ByResource tables xs f = First (length (the_day tables).roll) xs f

abbrev pub ByMember : Tables → List ℤ → (ℕ → ℤ) → Type 0
ByMember tables xs f = First (the_day tables).member_count xs f

-- figures of which 16 can be added up, and sums of these
abbrev pub Modest : ℕ → List ℤ → Type 0
Modest n xs = (k : ℕ) → k < n → unsigned_abs (at xs k) ≤ 1000000000000

abbrev pub Moderate : ℕ → List ℤ → Type 0
Moderate n xs = (k : ℕ) → k < n → unsigned_abs (at xs k) ≤ 16000000000000
