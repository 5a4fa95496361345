-- Adjusted obligations add up to what is assigned.
use Rattle.std.proofs.Common.{◌≡◌, ℕ, ◌<◌, List, map, ℤ, pos, ◌+ℤ◌, ◌-ℤ◌, ◌*ℤ◌, ◌≤ℤ◌, ◌<ℤ◌, sym, ◌∙◌, inl, inr, arith}
use Rattle.std.proofs.lemmas.Int.{ints}
use Rattle.std.proofs.lemmas.List.FromFn.{length-map-range_with_len, get_or-map-range_with_len}
use Rattle.allocation.specs.RoundingLemmas.{Near}
use Rattle.hours.specs.declared.hour.Hour.{Hour}
use Rattle.settlement.specs.Sums.{sum, at, Meaning}
use Rattle.settlement.specs.Days.{Day, members, load, Sales}
use Rattle.settlement.specs.Settlement.{line, total_assigned, total_load, total_clearing, net_sales, obligations, adjusted_obligation_of, adjusted_obligations, clearing_charges}
use Rattle.settlement.specs.Laws.{Lawful, Allocable, NoneRefused, ChargesClose}
use Rattle.settlement.proofs.Sums.{sum_plus, sum_minus, sum_swap}
use Rattle.settlement.proofs.Shares.{allocated_near}
use Rattle.settlement.proofs.Balances.{allocated_all}
use Rattle.settlement.proofs.Distances.{close}

same_less : (a b : ℤ) → a ≡ b → a -ℤ b ≡ pos 0
same_less a b e = omega (arith, ints)

-- every sale is a purchase
pub sales_balance : (d : Day) (q : Sales) → sum (members d) (net_sales d q) ≡ pos 0
unfolding net_sales
sales_balance d q =
    sum_minus (members d) (λ m. sum (members d) (λ other. pos (q m other))) (λ m. sum (members d) (λ other. pos (q other m)))
    ∙ same_less _ _ (sum_swap (members d) (members d) (λ m other. pos (q m other)))

plus_none : (a b c : ℤ) → a ≡ c → b ≡ pos 0 → a +ℤ b ≡ c
plus_none a b c e f = omega (arith, ints)

pub at_members : (d : Day) (f : ℕ → ℤ) (m : ℕ) → m < d.member_count → at (map f (members d)) m ≡ f m
at_members d f m l = get_or-map-range_with_len f 0 d.member_count m m (pos 0) l (omega arith)

module _ (t : Meaning) (d : Day) (k : ℕ) (x : Hour) (q : Sales) (lawful : Lawful t) (reserve : Allocable (total_assigned d k) (map (load x) (members d))) where
  pub total_adjusted : sum (members d) (adjusted_obligation_of t d k x q) ≡ total_assigned d k
  unfolding adjusted_obligation_of obligations
  total_adjusted =
      sum_plus (members d) (at (obligations t d k x)) (net_sales d q)
      ∙ plus_none _ _ (total_assigned d k) (allocated_all t d _ _ lawful reserve (length-map-range_with_len (load x) 0 d.member_count)) (sales_balance d q)

  load_above : pos 0 <ℤ total_assigned d k → pos 0 <ℤ total_load d x
  unfolding total_load
  load_above h = elim reserve [ inl e ↦ absurd (omega (arith, ints)) | inr s ↦ s.above ]

  obligation_near : (m : ℕ) → m < d.member_count → pos 0 <ℤ total_assigned d k → Near (at (obligations t d k x) m) (total_assigned d k *ℤ load x m) (total_load d x)
  unfolding obligations total_load
  obligation_near m l h =
      rw (sym (at_members d (load x) m l))
      (allocated_near t (total_assigned d k) (map (load x) (members d)) m lawful reserve (load_above h) (rw (length-map-range_with_len (load x) 0 d.member_count) l))

  charge_near : (m : ℕ) → m < d.member_count → Allocable (total_clearing d k x) (adjusted_obligations t d k x q) → pos 0 <ℤ total_assigned d k
      → Near (at (clearing_charges t d k x q) m) (total_clearing d k x *ℤ adjusted_obligation_of t d k x q m) (total_assigned d k)
  unfolding clearing_charges
  charge_near m l accepted h =
      rw (sym (at_members d (adjusted_obligation_of t d k x q) m l), sym total_adjusted)
      (allocated_near t (total_clearing d k x) (adjusted_obligations t d k x q) m lawful accepted (rw total_adjusted h) (rw (length-map-range_with_len (adjusted_obligation_of t d k x q) 0 d.member_count) l))

pub not_negative : (a : ℤ) (ws : List ℤ) → Allocable a ws → pos 0 ≤ℤ a
not_negative a ws (inl e) = omega (arith, ints)
not_negative a ws (inr s) = s.owed

pub charges_close : (t : Meaning) (d : Day) (k : ℕ) (x : Hour) (q : Sales) → Lawful t → NoneRefused t d k x q → ChargesClose t d k x q
unfolding line adjusted_obligation_of
charges_close t d k x q lawful accepted m l h =
    close (at (clearing_charges t d k x q) m) (total_assigned d k) (total_load d x) (total_clearing d k x) (load x m) (net_sales d q m) (at (obligations t d k x) m)
    (load_above t d k x q lawful accepted.reserve h)
    (not_negative _ _ accepted.clearing)
    (charge_near t d k x q lawful accepted.reserve m l accepted.clearing h)
    (obligation_near t d k x q lawful accepted.reserve m l h)
