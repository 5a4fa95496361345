-- The settlement of an hour: each member's line.
use Rattle.std.specs.Prelude.{ℕ, Bool, cond, ◌&&◌, ◌||◌, List, map, ℤ, pos, ◌+ℤ◌, ◌-ℤ◌, ◌*ℤ◌, filter, ◌==◌, int_lt, slice_index_or}
use Rattle.events.specs.declared.event.Event.{Event}
use Rattle.hours.specs.declared.hour.Hour.{Hour}
use Rattle.hours.specs.declared.assignment.Assignment.{Assignment}
use Rattle.hours.specs.declared.assignment.Assignment.TheVariants.{Unassigned, TierOne, SelfScheduled, PoolScheduled}
use Rattle.inputs.specs.Inputs.{Inputs}
use Rattle.settlement.specs.declared.line.Line.{Line}
use Rattle.settlement.specs.Sums.{sum, largest, at_least_zero, is_zero, all_zero, or_else, at, per_thousand, Meaning, allocated}
use Rattle.settlement.specs.Days.{Day, day_of, members, resources, owned, assignment, is_tier_one, assigned, load, Sales, sales_in, hour_of}
use Rattle.settlement.specs.Shortfalls.{minutes_in, counted, shortfall, day_refund, refund_part}

-- of a pool assignment above zero: offer × delivered, and costs, less what clearing pays, zero at least
abbrev pub opportunity_cost : Assignment ℕ → ℤ → ℤ → ℤ
opportunity_cost Unassigned delivered clearing = pos 0
opportunity_cost (TierOne kwh) delivered clearing = pos 0
opportunity_cost (SelfScheduled kwh) delivered clearing = pos 0
opportunity_cost (PoolScheduled kwh offer costs) delivered clearing =
    cond (kwh == 0) (pos 0) (at_least_zero (per_thousand (pos offer *ℤ delivered) +ℤ pos costs -ℤ clearing))

module _ (d : Day) (k : ℕ) where
  unfoldable pub total_assigned : ℤ
  total_assigned = sum (resources d) (assigned d k)

  -- the counted events with a minute in the hour
  abbrev pub counted_here : List Event
  counted_here = filter (λ e. int_lt (pos 0) (minutes_in e k)) (counted d)

  -- assigned kWh less the largest shortfall in these events, zero at least
  unfoldable pub delivered : ℕ → ℤ
  delivered r = at_least_zero (assigned d k r -ℤ largest counted_here (λ e. shortfall d e r))

  unfoldable pub delivered_tier_one : ℕ → ℤ
  delivered_tier_one r = cond (is_tier_one (assignment d k r)) (delivered r) (pos 0)

unfoldable pub total_load : Day → Hour → ℤ
total_load d x = sum (members d) (load x)

module _ (d : Day) (k : ℕ) (x : Hour) where
  -- of a resource; Tier 1 has none while the non-synchronized price is zero
  unfoldable pub clearing_credit_of : ℕ → ℤ
  clearing_credit_of r =
      cond (is_tier_one (assignment d k r) && x.non_synchronized_price == 0) (pos 0) (per_thousand (pos x.synchronized_price *ℤ delivered d k r))

  unfoldable pub opportunity_cost_credit_of : ℕ → ℤ
  opportunity_cost_credit_of r = opportunity_cost (assignment d k r) (delivered d k r) (clearing_credit_of r)

  unfoldable pub total_clearing : ℤ
  total_clearing = sum (resources d) clearing_credit_of

  unfoldable pub total_opportunity_cost : ℤ
  total_opportunity_cost = sum (resources d) opportunity_cost_credit_of

-- a member's sales less its purchases
unfoldable pub net_sales : Day → Sales → ℕ → ℤ
net_sales d q m = sum (members d) (λ other. pos (q m other)) -ℤ sum (members d) (λ other. pos (q other m))

-- a sum over the resources of member m
abbrev pub own : Day → ℕ → (ℕ → ℤ) → ℤ
own d m f = sum (owned d m (resources d)) f

-- m has a resource with a day refund above zero
abbrev pub is_refunding : Meaning → Day → ℕ → Bool
is_refunding t d m = int_lt (pos 0) (largest (owned d m (resources d)) (day_refund t d))

unfoldable pub total_refund : Meaning → Day → ℕ → ℤ
total_refund t d k = sum (resources d) (refund_part t d k)

-- what is assigned, by loads
unfoldable pub obligations : Meaning → Day → ℕ → Hour → List ℤ
obligations t d k x = allocated t (total_assigned d k) (map (load x) (members d))

module _ (t : Meaning) (d : Day) (k : ℕ) (x : Hour) (q : Sales) where
  unfoldable pub adjusted_obligation_of : ℕ → ℤ
  adjusted_obligation_of m = at (obligations t d k x) m +ℤ net_sales d q m

  abbrev pub adjusted_obligations : List ℤ
  adjusted_obligations = map adjusted_obligation_of (members d)

  unfoldable pub clearing_charges : List ℤ
  clearing_charges = allocated t (total_clearing d k x) adjusted_obligations

  -- what a member has to buy: its adjusted obligation less what its resources delivered, zero at least
  unfoldable pub purchase : ℕ → ℤ
  purchase m = at_least_zero (adjusted_obligation_of m -ℤ own d m (delivered d k))

  abbrev pub buyers : List ℤ
  buyers = or_else (map purchase (members d)) adjusted_obligations

  unfoldable pub opportunity_cost_charges : List ℤ
  opportunity_cost_charges = allocated t (total_opportunity_cost d k x) buyers

  -- what a refund is paid by: nothing to the owner of a resource with a day refund
  unfoldable pub refund_weight : ℕ → ℤ
  refund_weight m = cond (is_refunding t d m) (pos 0) (at_least_zero (adjusted_obligation_of m -ℤ own d m (delivered_tier_one d k)))

  abbrev pub payees : List ℤ
  payees = or_else (map refund_weight (members d)) (obligations t d k x)

  unfoldable pub refunds_paid : List ℤ
  refunds_paid = allocated t (total_refund t d k) payees

  -- reserve with no load to carry it, or refunds with no member to pay them to
  unfoldable pub unsettleable : Bool
  unsettleable =
      (int_lt (pos 0) (total_assigned d k) && is_zero (total_load d x)) ||
      (int_lt (pos 0) (total_refund t d k) && all_zero payees)

  unfoldable pub line : ℕ → Line
  line m = record {
    obligation = at (obligations t d k x) m;
    adjusted_obligation = adjusted_obligation_of m;
    clearing_charge = at clearing_charges m;
    opportunity_cost_charge = at opportunity_cost_charges m;
    refund_charged = own d m (refund_part t d k);
    clearing_credit = own d m (clearing_credit_of d k x);
    opportunity_cost_credit = own d m (opportunity_cost_credit_of d k x);
    refund_paid = at refunds_paid m;
  }

  -- what settlement answers: all clearing credits, lost opportunity cost credits and refunds paid
  unfoldable pub settled_total : ℤ
  settled_total = sum (members d) (λ m. (line m).clearing_credit +ℤ (line m).opportunity_cost_credit +ℤ (line m).refund_paid)

abbrev pub zero_line : Line
zero_line = record {
  obligation = pos 0;
  adjusted_obligation = pos 0;
  clearing_charge = pos 0;
  opportunity_cost_charge = pos 0;
  refund_charged = pos 0;
  clearing_credit = pos 0;
  opportunity_cost_credit = pos 0;
  refund_paid = pos 0;
}

-- the line at a member's place; past the last member it is zero
abbrev pub line_at : List Line → ℕ → Line
line_at lines m = slice_index_or lines m zero_line

-- the same of the day's inputs, for the hour at place k
module _ (t : Meaning) (i : Inputs) (k : ℕ) where
  unfoldable pub defined_lines : List Line
  defined_lines = map (line t (day_of i) k (hour_of i k) (sales_in i k)) (members (day_of i))

  unfoldable pub nobody_to_charge : Bool
  nobody_to_charge = unsettleable t (day_of i) k (hour_of i k) (sales_in i k)

  unfoldable pub defined_total : ℤ
  defined_total = settled_total t (day_of i) k (hour_of i k) (sales_in i k)
