-- What a settled hour owes under every rule: the bounds of the inputs, and the laws of an hour.
use Rattle.std.specs.Prelude.{◌≡◌, ℕ, ◌<◌, ◌≤◌, false, ◌⊎◌, All, List, map, length, ℤ, pos, ◌+ℤ◌, ◌-ℤ◌, ◌*ℤ◌, ◌≤ℤ◌, ◌<ℤ◌, unsigned_abs}
use Rattle.allocation.specs.Weights.{total}
use Rattle.allocation.specs.Refusals.{Admissible}
use Rattle.allocation.specs.Rules.{EachRounded}
use Rattle.hours.specs.declared.hour.Hour.{Hour}
use Rattle.hours.specs.Hours.{load_at}
use Rattle.hours.specs.Assignments.{Small}
use Rattle.settlement.specs.Sums.{sum, Meaning}
use Rattle.settlement.specs.Days.{Day, members, resources, hours, resource, owned, assignment, load, Sales}
use Rattle.settlement.specs.Shortfalls.{counted, shortfall, net_shortfall, day_refund, refund_minutes}
use Rattle.settlement.specs.Settlement.{line, total_assigned, total_load, total_clearing, total_opportunity_cost, total_refund, net_sales, adjusted_obligations, buyers, payees, unsettleable}

-- the laws of a rule, said of its meaning
pub record Lawful (t : Meaning) : Type 0 where
  pub counted : (amount : ℤ) (weights : List ℤ) → Admissible amount weights → length (t amount weights) ≡ length weights
  pub whole : (amount : ℤ) (weights : List ℤ) → Admissible amount weights → total (t amount weights) ≡ amount
  pub rounded : (amount : ℤ) (weights : List ℤ) → Admissible amount weights → EachRounded amount weights (t amount weights)

-- nothing to allocate, or an amount and weights that no rule refuses
abbrev pub Allocable : ℤ → List ℤ → Type 0
Allocable amount weights = (amount ≡ pos 0) ⊎ Admissible amount weights

-- no allocation of the hour is refused
pub record NoneRefused (t : Meaning) (d : Day) (k : ℕ) (x : Hour) (q : Sales) : Type 0 where
  pub shortfalls : (m : ℕ) → All (λ e. Allocable (net_shortfall d e m) (map (shortfall d e) (owned d m (resources d)))) (counted d)
  pub day_refunds : (r : ℕ) → r < length d.roll → Allocable (day_refund t d r) (map (refund_minutes d r) hours)
  pub reserve : Allocable (total_assigned d k) (map (load x) (members d))
  pub clearing : Allocable (total_clearing d k x) (adjusted_obligations t d k x q)
  pub opportunity_costs : Allocable (total_opportunity_cost d k x) (buyers t d k x q)
  pub refunds : Allocable (total_refund t d k) (payees t d k x q)

-- credits less charges over all members are zero
pub record Balanced (t : Meaning) (d : Day) (k : ℕ) (x : Hour) (q : Sales) : Type 0 where
  pub clearing : sum (members d) (λ m. (line t d k x q m).clearing_credit -ℤ (line t d k x q m).clearing_charge) ≡ pos 0
  pub opportunity_costs : sum (members d) (λ m. (line t d k x q m).opportunity_cost_credit -ℤ (line t d k x q m).opportunity_cost_charge) ≡ pos 0
  pub refunds : sum (members d) (λ m. (line t d k x q m).refund_paid -ℤ (line t d k x q m).refund_charged) ≡ pos 0

-- a charge is less than 1 + C ÷ A from C × (A × L + B × T) ÷ (A × T), written with no division
abbrev pub Close : ℤ → ℤ → ℤ → ℤ → ℤ → ℤ → Type 0
Close charge A T C L B = pos (unsigned_abs (charge *ℤ A *ℤ T -ℤ C *ℤ (A *ℤ L +ℤ B *ℤ T))) <ℤ (A *ℤ T +ℤ C *ℤ T)

abbrev pub ChargesClose : Meaning → Day → ℕ → Hour → Sales → Type 0
ChargesClose t d k x q =
    (m : ℕ) → m < d.member_count → pos 0 <ℤ total_assigned d k →
    Close (line t d k x q m).clearing_charge (total_assigned d k) (total_load d x) (total_clearing d k x) (load x m) (net_sales d q m)

-- the bounds of the day
pub record BoundedDay (d : Day) : Type 0 where
  pub few_members : d.member_count ≤ 16
  pub few_resources : length d.roll ≤ 16
  pub owners : (r : ℕ) → r < length d.roll → (resource d r).owner < d.member_count
  pub price_sums : (r : ℕ) → r < length d.roll → (resource d r).interval_price_sum ≤ 4000000
  pub assignments : (h r : ℕ) → h < 24 → r < length d.roll → Small (assignment d h r)
  pub few_events : length d.closed ≤ 4
  pub starts : All (λ e. e.start ≤ 1439) d.closed
  pub ends : All (λ e. e.end ≤ 1440) d.closed

-- and of the hour
pub record Bounded (d : Day) (k : ℕ) (x : Hour) (q : Sales) : Type 0 where
  pub day : BoundedDay d
  pub hour : k < 24
  pub price : x.synchronized_price ≤ 400000
  pub loads : (m : ℕ) → m < d.member_count → load_at x m ≤ 100000000
  -- 64 trades of 500,000 kWh
  pub trades : sum (members d) (λ seller. sum (members d) (λ buyer. pos (q seller buyer))) ≤ℤ pos 32000000

-- what every hour that can be settled keeps
pub record Settles (t : Meaning) (d : Day) (k : ℕ) (x : Hour) (q : Sales) : Type 0 where
  pub none_refused : NoneRefused t d k x q
  pub balanced : Balanced t d k x q
  pub charges_close : ChargesClose t d k x q

abbrev pub SettlesEvery : Meaning → Type 0
SettlesEvery t = (d : Day) (k : ℕ) (x : Hour) (q : Sales) → Bounded d k x q → unsettleable t d k x q ≡ false → Settles t d k x q
