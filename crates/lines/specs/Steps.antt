-- What each step of an hour's settlement leaves, as the code holds it.
use Rattle.std.specs.Prelude.{◌≡◌, ℕ, Bool, true, false, ◌&&◌, List, take, ℤ, pos, ◌+ℤ◌, Ok, Err, Result, int_lt}
use Rattle.events.specs.declared.fault.BookFault.{BookFault}
use Rattle.events.specs.declared.fault.BookFault.TheVariants.{NobodyToCharge}
use Rattle.inputs.specs.declared.tables.Tables.{Tables}
use Rattle.settlement.specs.declared.line.Line.{Line}
use Rattle.settlement.specs.Sums.{at, is_zero, all_zero, Meaning}
use Rattle.settlement.specs.Shortfalls.{refund_part}
use Rattle.settlement.specs.Settlement.{total_assigned, total_load, delivered, delivered_tier_one, clearing_credit_of, opportunity_cost_credit_of, total_clearing, total_opportunity_cost, total_refund, own, obligations, adjusted_obligation_of, clearing_charges, opportunity_cost_charges, payees, refunds_paid}
use Rattle.lines.specs.declared.credits.Credits.{Credits}
use Rattle.lines.specs.declared.obligations.Obligations.{Obligations}
use Rattle.lines.specs.declared.clearing.Clearing.{Clearing}
use Rattle.lines.specs.declared.payments.Payments.{Payments}
use Rattle.settlement.specs.Figures.{ByResource, ByMember, the_day, the_hour, the_sales}

pub record CreditsOf (tables : Tables) (k : ℕ) (c : Credits) : Type 0 where
  pub delivered : ByResource tables c.delivered (delivered (the_day tables) k)
  pub tier_one : ByResource tables c.tier_one (delivered_tier_one (the_day tables) k)
  pub clearing : ByResource tables c.clearing (clearing_credit_of (the_day tables) k (the_hour tables k))
  pub opportunity_costs : ByResource tables c.opportunity_costs (opportunity_cost_credit_of (the_day tables) k (the_hour tables k))

-- reserve with no load to carry it
abbrev pub no_load : Tables → ℕ → Bool
no_load tables k = int_lt (pos 0) (total_assigned (the_day tables) k) && is_zero (total_load (the_day tables) (the_hour tables k))

-- the members' places have the shares
abbrev pub Shares : Tables → List ℤ → List ℤ → Type 0
Shares tables xs shares = take (the_day tables).member_count xs ≡ shares

module _ (t : Meaning) (tables : Tables) (k : ℕ) where
  pub record ObligationsOf (o : Obligations) : Type 0 where
    pub loaded : no_load tables k ≡ false
    pub owed : Shares tables o.owed (obligations t (the_day tables) k (the_hour tables k))
    pub adjusted : ByMember tables o.adjusted (adjusted_obligation_of t (the_day tables) k (the_hour tables k) (the_sales tables k))

  -- the obligations, unless there is no load to carry them
  abbrev pub Carried : Result Obligations BookFault → Type 0
  Carried (Err e) = (no_load tables k ≡ true) × (e ≡ NobodyToCharge)
  Carried (Ok o) = ObligationsOf o

  pub record ClearingOf (c : Clearing) : Type 0 where
    pub clearing_credits : ByMember tables c.clearing_credits (λ m. own (the_day tables) m (clearing_credit_of (the_day tables) k (the_hour tables k)))
    pub opportunity_cost_credits : ByMember tables c.opportunity_cost_credits (λ m. own (the_day tables) m (opportunity_cost_credit_of (the_day tables) k (the_hour tables k)))
    pub clearing_charges : Shares tables c.clearing_charges (clearing_charges t (the_day tables) k (the_hour tables k) (the_sales tables k))
    pub opportunity_cost_charges : Shares tables c.opportunity_cost_charges (opportunity_cost_charges t (the_day tables) k (the_hour tables k) (the_sales tables k))
    pub total : c.total ≡ total_clearing (the_day tables) k (the_hour tables k) +ℤ total_opportunity_cost (the_day tables) k (the_hour tables k)

  -- refunds with no member to pay them to
  abbrev pub no_payee : Bool
  no_payee = int_lt (pos 0) (total_refund t (the_day tables) k) && all_zero (payees t (the_day tables) k (the_hour tables k) (the_sales tables k))

  pub record PaymentsOf (p : Payments) : Type 0 where
    pub payable : no_payee ≡ false
    pub charged : ByMember tables p.charged (λ m. own (the_day tables) m (refund_part t (the_day tables) k))
    pub paid : Shares tables p.paid (refunds_paid t (the_day tables) k (the_hour tables k) (the_sales tables k))
    pub total : p.total ≡ total_refund t (the_day tables) k

  -- the refunds, unless there is no member to pay them to
  abbrev pub Paid : Result Payments BookFault → Type 0
  Paid (Err e) = (no_payee ≡ true) × (e ≡ NobodyToCharge)
  Paid (Ok p) = PaymentsOf p

-- the line of the member at a place, from the columns
abbrev pub line_from : Obligations → Clearing → Payments → ℕ → Line
line_from o c p m = record {
  obligation = at o.owed m;
  adjusted_obligation = at o.adjusted m;
  clearing_charge = at c.clearing_charges m;
  opportunity_cost_charge = at c.opportunity_cost_charges m;
  refund_charged = at p.charged m;
  clearing_credit = at c.clearing_credits m;
  opportunity_cost_credit = at c.opportunity_cost_credits m;
  refund_paid = at p.paid m;
}
