-- The lines, the total and the refusal of a settled hour.
use Rattle.std.proofs.Common.{◌≡◌, ℕ, ◌<◌, ◌≤◌, Bool, true, false, ◌||◌, ltb, List, map, length, ℤ, pos, ◌+ℤ◌, sym, refl, ap, ◌∙◌, inl, inr, arith}
use lib.Signed.{lt_z}
use Rattle.std.proofs.lemmas.Int.{ints}
use Rattle.std.proofs.lemmas.Bool.Decides.{nat_tests}
use Rattle.std.proofs.lemmas.Bool.{cases_Bool}
use Rattle.std.proofs.lemmas.List.{get_or_past}
use Rattle.std.proofs.lemmas.List.FromFn.{length-map-range_with_len, get_or-map-range_with_len}
use Rattle.inputs.specs.declared.tables.Tables.{Tables}
use Rattle.inputs.specs.States.{state_of}
use Rattle.settlement.specs.declared.line.Line.{Line}
use Rattle.settlement.specs.Sums.{at, all_zero, Meaning}
use Rattle.settlement.specs.Days.{members}
use Rattle.settlement.specs.Settlement.{own, clearing_credit_of, opportunity_cost_credit_of, total_clearing, total_opportunity_cost, total_refund, payees, refunds_paid, unsettleable, line, line_at, zero_line, settled_total, defined_lines, nobody_to_charge, defined_total}
use Rattle.settlement.specs.Laws.{Lawful, Allocable}
use Rattle.settlement.proofs.Sums.{sum_plus}
use Rattle.settlement.proofs.Bounds.{above_test}
use Rattle.settlement.proofs.Balances.{own_all, allocated_all}
use Rattle.settlement.proofs.Acceptance.{refunds}
use Rattle.settlement.proofs.Tables.{bounded}
use Rattle.lines.specs.declared.obligations.Obligations.{Obligations}
use Rattle.lines.specs.declared.clearing.Clearing.{Clearing}
use Rattle.lines.specs.declared.payments.Payments.{Payments}
use Rattle.settlement.specs.Figures.{the_day, the_hour, the_sales}
use Rattle.lines.specs.Steps.{no_load, no_payee, ObligationsOf, ClearingOf, PaymentsOf, line_from}
use Rattle.lines.proofs.Sizes.{share_at, other_false, carried}

or_true : (a b : Bool) → b ≡ true → (a || b) ≡ true
or_true a b e = grind arith

or_false : (a b : Bool) → a ≡ false → b ≡ false → (a || b) ≡ false
or_false a b e f = grind arith

module _ (s : Meaning) (t : Tables) (k : ℕ) where
  -- ---- the refusal

  pub refused_load : no_load t k ≡ true → nobody_to_charge s (state_of t).inputs k ≡ true
  unfolding nobody_to_charge unsettleable
  refused_load e = ap (λ (b : Bool). b || no_payee s t k) e

  pub refused_payee : no_payee s t k ≡ true → nobody_to_charge s (state_of t).inputs k ≡ true
  unfolding nobody_to_charge unsettleable
  refused_payee e = or_true (no_load t k) (no_payee s t k) e

  pub accepted : no_load t k ≡ false → no_payee s t k ≡ false → nobody_to_charge s (state_of t).inputs k ≡ false
  unfolding nobody_to_charge unsettleable
  accepted e f = or_false (no_load t k) (no_payee s t k) e f

  -- ---- the lines

  member_line : (o : Obligations) (c : Clearing) (p : Payments) → ObligationsOf s t k o → ClearingOf s t k c → PaymentsOf s t k p → (m : ℕ) → m < (the_day t).member_count
      → line_from o c p m ≡ line s (the_day t) k (the_hour t k) (the_sales t k) m
  unfolding line
  member_line o c p oo cc' pp m l =
      let e1 = share_at t o.owed _ m oo.owed l in
      let e2 = oo.adjusted m l in
      let e3 = share_at t c.clearing_charges _ m cc'.clearing_charges l in
      let e4 = share_at t c.opportunity_cost_charges _ m cc'.opportunity_cost_charges l in
      let e5 = pp.charged m l in
      let e6 = cc'.clearing_credits m l in
      let e7 = cc'.opportunity_cost_credits m l in
      let e8 = share_at t p.paid _ m pp.paid l in
      rw (e1, e2, e3, e4, e5, e6, e7, e8) refl

  pub lines_are : (o : Obligations) (c : Clearing) (p : Payments) (n : ℕ) (ls : List Line) → ObligationsOf s t k o → ClearingOf s t k c → PaymentsOf s t k p → n ≡ (the_day t).member_count
      → ((m : ℕ) → m < n → line_at ls m ≡ line_from o c p m) → ((m : ℕ) → n ≤ m → line_at ls m ≡ zero_line)
      → (m : ℕ) → line_at ls m ≡ line_at (defined_lines s (state_of t).inputs k) m
  unfolding defined_lines
  lines_are o c p n ls oo cc' pp e h r m =
      let f = line s (the_day t) k (the_hour t k) (the_sales t k) in
      let len = length-map-range_with_len f 0 (the_day t).member_count in
      elim (cases_Bool (ltb m n)) [
        | inl b ↦
            let l : m < (the_day t).member_count = grind (arith, nat_tests) in
            h m (omega arith) ∙ member_line o c p oo cc' pp m l ∙ sym (get_or-map-range_with_len f 0 (the_day t).member_count m m zero_line l (omega arith))
        | inr b ↦
            let l : n ≤ m = grind (arith, nat_tests) in
            r m l ∙ sym (get_or_past (map f (members (the_day t))) m zero_line (omega arith))
      ]

  -- ---- the total

  pub refund_allocable : (h : k < 24) (lawful : Lawful s) → no_load t k ≡ false → no_payee s t k ≡ false → Allocable (total_refund s (the_day t) k) (payees s (the_day t) k (the_hour t k) (the_sales t k))
  refund_allocable h lawful ok payable =
      refunds (the_day t) k (the_hour t k) (the_sales t k) (bounded t k h) s lawful (carried t k h s lawful ok)
      (λ l. other_false (lt_z (pos 0) (total_refund s (the_day t) k)) (all_zero (payees s (the_day t) k (the_hour t k) (the_sales t k))) payable (above_test _ l))

  pub total_is : (lawful : Lawful s) → Allocable (total_refund s (the_day t) k) (payees s (the_day t) k (the_hour t k) (the_sales t k)) → length (payees s (the_day t) k (the_hour t k) (the_sales t k)) ≡ (the_day t).member_count
      → defined_total s (state_of t).inputs k ≡ total_clearing (the_day t) k (the_hour t k) +ℤ total_opportunity_cost (the_day t) k (the_hour t k) +ℤ total_refund s (the_day t) k
  unfolding defined_total settled_total line total_clearing total_opportunity_cost refunds_paid
  total_is lawful ok n =
      let d = the_day t in
      let x = the_hour t k in
      let q = the_sales t k in
      let f = λ (m : ℕ). own d m (clearing_credit_of d k x) in
      let g = λ (m : ℕ). own d m (opportunity_cost_credit_of d k x) in
      let r = at (refunds_paid s d k x q) in
      let e1 = sum_plus (members d) (λ m. f m +ℤ g m) r in
      let e2 = sum_plus (members d) f g in
      let e3 = own_all d t.owners (clearing_credit_of d k x) in
      let e4 = own_all d t.owners (opportunity_cost_credit_of d k x) in
      let e5 = allocated_all s d (total_refund s d k) (payees s d k x q) lawful ok n in
      linear _ _ _ _ _ _ _ _ e1 e2 e3 e4 e5
    where
      linear : (all fg f g r c o p : ℤ) → all ≡ fg +ℤ r → fg ≡ f +ℤ g → f ≡ c → g ≡ o → r ≡ p → all ≡ c +ℤ o +ℤ p
      linear all fg f g r c o p a b e h i = omega (arith, ints)
