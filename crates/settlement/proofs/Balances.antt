-- Credits and charges of an hour balance.
use Rattle.std.proofs.Common.{◌≡◌, ℕ, ◌<◌, List, map, length, ℤ, pos, ◌-ℤ◌, ◌∙◌, arith}
use Rattle.std.proofs.lemmas.Int.{ints}
use Rattle.std.proofs.lemmas.List.FromFn.{length-map-range_with_len}
use Rattle.hours.specs.declared.hour.Hour.{Hour}
use Rattle.settlement.specs.Sums.{sum, at, Meaning, allocated, or_else}
use Rattle.settlement.specs.Days.{Day, members, resources, resource, load, Sales}
use Rattle.settlement.specs.Shortfalls.{refund_part}
use Rattle.settlement.specs.Settlement.{line, own, clearing_credit_of, opportunity_cost_credit_of, total_clearing, total_opportunity_cost, total_refund, obligations, adjusted_obligation_of, adjusted_obligations, purchase, buyers, refund_weight, payees, clearing_charges, opportunity_cost_charges, refunds_paid}
use Rattle.settlement.specs.Laws.{Lawful, Allocable, NoneRefused, Balanced}
use Rattle.settlement.proofs.Sums.{sum_minus, sum_owned, sum_at, all_counting}
use Rattle.settlement.proofs.Shares.{allocated_total, allocated_length}

module _ (d : Day) (owners : (r : ℕ) → r < length d.roll → (resource d r).owner < d.member_count) where
  pub own_all : (f : ℕ → ℤ) → sum (members d) (λ m. own d m f) ≡ sum (resources d) f
  own_all f = sum_owned d.member_count (λ r. (resource d r).owner) (resources d) f (all_counting (λ r. (resource d r).owner < d.member_count) 0 (length d.roll) (λ r l. owners r (omega arith)))

-- an amount allocated over the members
pub allocated_all : (t : Meaning) (d : Day) (a : ℤ) (ws : List ℤ) → Lawful t → Allocable a ws → length ws ≡ d.member_count → sum (members d) (at (allocated t a ws)) ≡ a
allocated_all t d a ws l h e = sum_at (allocated t a ws) d.member_count (allocated_length t a ws l h ∙ e) ∙ allocated_total t a ws l h

pub or_else_length : (ws vs : List ℤ) (n : ℕ) → length ws ≡ n → length vs ≡ n → length (or_else ws vs) ≡ n
or_else_length ws vs n e f = grind arith

level : (a b x : ℤ) → a ≡ x → b ≡ x → a -ℤ b ≡ pos 0
level a b x e f = omega (arith, ints)

module _ (t : Meaning) (d : Day) (k : ℕ) (x : Hour) (q : Sales) (lawful : Lawful t) (accepted : NoneRefused t d k x q) where
  pub obligations_length : length (obligations t d k x) ≡ d.member_count
  unfolding obligations
  obligations_length = allocated_length t _ _ lawful accepted.reserve ∙ length-map-range_with_len (load x) 0 d.member_count

  buyers_length : length (buyers t d k x q) ≡ d.member_count
  buyers_length = or_else_length (map (purchase t d k x q) (members d)) (adjusted_obligations t d k x q) d.member_count (length-map-range_with_len (purchase t d k x q) 0 d.member_count) (length-map-range_with_len (adjusted_obligation_of t d k x q) 0 d.member_count)

  payees_length : length (payees t d k x q) ≡ d.member_count
  payees_length = or_else_length (map (refund_weight t d k x q) (members d)) (obligations t d k x) d.member_count (length-map-range_with_len (refund_weight t d k x q) 0 d.member_count) obligations_length

  pub balanced : ((r : ℕ) → r < length d.roll → (resource d r).owner < d.member_count) → Balanced t d k x q
  unfolding line total_clearing total_opportunity_cost total_refund clearing_charges opportunity_cost_charges refunds_paid
  balanced owners = record {
    clearing =
        sum_minus (members d) (λ m. own d m (clearing_credit_of d k x)) (at (clearing_charges t d k x q))
        ∙ level _ _ (total_clearing d k x) (own_all d owners (clearing_credit_of d k x)) (allocated_all t d _ _ lawful accepted.clearing (length-map-range_with_len (adjusted_obligation_of t d k x q) 0 d.member_count));
    opportunity_costs =
        sum_minus (members d) (λ m. own d m (opportunity_cost_credit_of d k x)) (at (opportunity_cost_charges t d k x q))
        ∙ level _ _ (total_opportunity_cost d k x) (own_all d owners (opportunity_cost_credit_of d k x)) (allocated_all t d _ _ lawful accepted.opportunity_costs buyers_length);
    refunds =
        sum_minus (members d) (at (refunds_paid t d k x q)) (λ m. own d m (refund_part t d k))
        ∙ level _ _ (total_refund t d k) (allocated_all t d _ _ lawful accepted.refunds payees_length) (own_all d owners (refund_part t d k));
  }
