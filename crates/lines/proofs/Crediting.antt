-- Credits of a resource, as the code computes them.
use Rattle.std.proofs.Common.{◌≡◌, ℕ, ◌<◌, ◌≤◌, Bool, true, false, cond, ◌&&◌, eqb, List, length, ℤ, pos, ◌+ℤ◌, ◌-ℤ◌, ◌*ℤ◌, ◌≤ℤ◌, sym, ap, ◌∙◌, arith, lit≤}
use lib.IntN.{*ℤ_comm}
use Rattle.std.specs.Int.{int_max}
use Rattle.std.proofs.lemmas.Int.{ints}
use Rattle.std.proofs.lemmas.Bool.Decides.{nat_tests}
use Rattle.allocation.specs.Rounding.{half_up}
use Rattle.hours.specs.declared.hour.Hour.{Hour}
use Rattle.hours.specs.declared.assignment.Assignment.{Assignment}
use Rattle.hours.specs.declared.assignment.Assignment.TheVariants.{PoolScheduled}
use Rattle.inputs.specs.declared.tables.Tables.{Tables}
use Rattle.settlement.specs.Sums.{largest, per_thousand}
use Rattle.settlement.specs.Days.{Day, assignment, assigned, is_tier_one}
use Rattle.settlement.specs.Shortfalls.{shortfall}
use Rattle.settlement.specs.Settlement.{counted_here, delivered, delivered_tier_one, clearing_credit_of, opportunity_cost, opportunity_cost_credit_of}
use Rattle.settlement.proofs.Bounds.{product_above, product_left, thousand_above, thousand_below}
use Rattle.settlement.proofs.Refunds.{assigned_small}
use Rattle.settlement.proofs.Acceptance.{delivered_bounds, credit_bounds, costs}
use Rattle.settlement.proofs.Tables.{bounded}
use Rattle.settlement.specs.Figures.{Modest, ByResource, the_day, the_hour, the_sales}
use Rattle.lines.specs.declared.credits.Credits.{Credits}
use Rattle.lines.specs.Steps.{CreditsOf}
use Rattle.lines.proofs.Sizes.{modest_by}

-- ---- cents

-- what cents answers is not large
pub cents_bounds : (z : ℤ) (p : ℕ) → pos 0 ≤ℤ z → z ≤ℤ pos 500000 → p ≤ 400000 → (pos 0 ≤ℤ half_up (z *ℤ pos p) (pos 1000)) × (half_up (z *ℤ pos p) (pos 1000) ≤ℤ pos 200000000)
cents_bounds z p h k l =
    let m = product_left z (pos 500000) (pos p) k (omega (arith, ints)) in (
      thousand_above (z *ℤ pos p) (product_above z (pos p) h (omega (arith, ints))),
      thousand_below (z *ℤ pos p) (pos 200000000) (omega (arith, ints)),
    )

-- and its factors stand in either order
pub cents_are : (z : ℤ) (p : ℕ) → half_up (z *ℤ pos p) (pos 1000) ≡ per_thousand (pos p *ℤ z)
cents_are z p = ap (λ (y : ℤ). half_up y (pos 1000)) (*ℤ_comm z (pos p))

-- ---- a resource's figures

pub delivered_is : (d : Day) (k r : ℕ) (a s v : ℤ) → a ≡ assigned d k r → s ≡ largest (counted_here d k) (λ e. shortfall d e r) → v ≡ int_max (a -ℤ s) (pos 0) → v ≡ delivered d k r
unfolding delivered
delivered_is d k r a s v e f h = rw (sym e, sym f) h

pub credit_is : (d : Day) (k : ℕ) (x : Hour) (r : ℕ) (a : Assignment ℕ) (y : Hour) (z v : ℤ) → a ≡ assignment d k r → y ≡ x → z ≡ delivered d k r
    → v ≡ cond (is_tier_one a && eqb y.non_synchronized_price 0) (pos 0) (per_thousand (pos y.synchronized_price *ℤ z)) → v ≡ clearing_credit_of d k x r
unfolding clearing_credit_of
credit_is d k x r a y z v e f g h = rw (sym e, sym f, sym g) h

pub tier_one_is : (d : Day) (k r : ℕ) (a : Assignment ℕ) (z v : ℤ) → a ≡ assignment d k r → z ≡ delivered d k r → v ≡ cond (is_tier_one a) z (pos 0) → v ≡ delivered_tier_one d k r
unfolding delivered_tier_one
tier_one_is d k r a z v e g h = rw (sym e, sym g) h

pub cost_is : (d : Day) (k : ℕ) (x : Hour) (r : ℕ) (a : Assignment ℕ) (z c v : ℤ) → a ≡ assignment d k r → z ≡ delivered d k r → c ≡ clearing_credit_of d k x r
    → v ≡ opportunity_cost a z c → v ≡ opportunity_cost_credit_of d k x r
unfolding opportunity_cost_credit_of
cost_is d k x r a z c v e f g h = rw (sym e, sym f, sym g) h

-- a pool assignment above zero
pub pool_is : (kwh offer costs : ℕ) (z c v : ℤ) → 0 < kwh → v ≡ int_max (half_up (z *ℤ pos offer) (pos 1000) +ℤ pos costs -ℤ c) (pos 0) → v ≡ opportunity_cost (PoolScheduled kwh offer costs) z c
pool_is kwh offer costs z c v l h =
    let e : eqb kwh 0 ≡ false = grind (arith, nat_tests) in
    rw e (h ∙ ap (λ (y : ℤ). int_max (y +ℤ pos costs -ℤ c) (pos 0)) (cents_are z offer))

-- ---- their bounds

module _ (t : Tables) (k : ℕ) (h : k < 24) (r : ℕ) (l : r < length (the_day t).roll) where
  pub delivered_small : (pos 0 ≤ℤ delivered (the_day t) k r) × (delivered (the_day t) k r ≤ℤ pos 500000)
  delivered_small =
      let b = bounded t k h in
      let v = delivered_bounds (the_day t) k (the_hour t k) (the_sales t k) b r in
      let a = assigned_small (the_day t) b.day k r h l in
      (v.0, omega (arith, ints, v.1))

  pub tier_one_small : (pos 0 ≤ℤ delivered_tier_one (the_day t) k r) × (delivered_tier_one (the_day t) k r ≤ℤ pos 500000)
  unfolding delivered_tier_one
  tier_one_small = by (is_tier_one (assignment (the_day t) k r)) (delivered (the_day t) k r) delivered_small
    where
      by : (b : Bool) (z : ℤ) → (pos 0 ≤ℤ z) × (z ≤ℤ pos 500000) → (pos 0 ≤ℤ cond b z (pos 0)) × (cond b z (pos 0) ≤ℤ pos 500000)
      by true z v = v
      by false z v = (omega (arith, ints), omega (arith, ints))

  pub credit_small : (pos 0 ≤ℤ clearing_credit_of (the_day t) k (the_hour t k) r) × (clearing_credit_of (the_day t) k (the_hour t k) r ≤ℤ pos 200000000)
  credit_small =
      let b = bounded t k h in
      let v = credit_bounds (the_day t) k (the_hour t k) (the_sales t k) b r in
      let a = assigned_small (the_day t) b.day k r h l in
      (v.0, omega (arith, ints, v.1))

module _ (t : Tables) (k : ℕ) (h : k < 24) (c : Credits) (e : CreditsOf t k c) where
  pub delivered_modest : Modest (length (the_day t).roll) c.delivered
  delivered_modest = modest_by _ 500000 c.delivered (delivered (the_day t) k) e.delivered (delivered_small t k h) (lit≤ tt)

  pub clearing_modest : Modest (length (the_day t).roll) c.clearing
  clearing_modest = modest_by _ 200000000 c.clearing (clearing_credit_of (the_day t) k (the_hour t k)) e.clearing (credit_small t k h) (lit≤ tt)

  pub costs_modest : Modest (length (the_day t).roll) c.opportunity_costs
  costs_modest =
      modest_by _ 500000000 c.opportunity_costs (opportunity_cost_credit_of (the_day t) k (the_hour t k)) e.opportunity_costs
      (λ r l. let v = costs (the_day t) k (the_hour t k) (the_sales t k) (bounded t k h) r l in (v.0, v.1)) (lit≤ tt)

pub tier_one_modest : (t : Tables) (k : ℕ) → k < 24 → (xs : List ℤ) → ByResource t xs (delivered_tier_one (the_day t) k) → Modest (length (the_day t).roll) xs
tier_one_modest t k h xs e = modest_by _ 500000 xs (delivered_tier_one (the_day t) k) e (tier_one_small t k h) (lit≤ tt)
