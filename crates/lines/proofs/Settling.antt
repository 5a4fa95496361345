-- From what the code holds to what the definitions say.
use Rattle.std.proofs.Common.{◌≡◌, ℕ, ◌<◌, Bool, cond, ◌&&◌, List, [], ◌∷◌, map, length, take, ℤ, pos, ◌+ℤ◌, ◌-ℤ◌, sym, refl, ap, ◌∙◌, arith}
use lib.Signed.{lt_z}
use Rattle.std.specs.List.{All}
use Rattle.std.proofs.lemmas.List.Elements.{All-head, All-tail}
use Rattle.std.proofs.lemmas.List.{length-take}
use Rattle.std.proofs.lemmas.List.FromFn.{length-map-range_with_len}
use Rattle.allocation.specs.Weights.{total}
use Rattle.inputs.specs.declared.tables.Tables.{Tables}
use Rattle.settlement.specs.Sums.{sum, largest, at, at_least_zero, is_zero, all_zero, or_else, Meaning, allocated}
use Rattle.settlement.specs.Days.{members, resources, owned, assigned, load}
use Rattle.settlement.specs.Shortfalls.{day_refund, refund_part}
use Rattle.settlement.specs.Settlement.{own, total_assigned, total_load, total_clearing, total_opportunity_cost, total_refund, clearing_credit_of, opportunity_cost_credit_of, delivered, delivered_tier_one, net_sales, is_refunding, obligations, adjusted_obligation_of, adjusted_obligations, purchase, buyers, refund_weight, payees, clearing_charges, opportunity_cost_charges, refunds_paid}
use Rattle.settlement.proofs.Bounds.{all_owned}
use Rattle.settlement.proofs.Balances.{or_else_length}
use Rattle.settlement.proofs.Steps.{own_same}
use Rattle.settlement.proofs.Tables.{few_members}
use Rattle.settlement.specs.Figures.{First, ByResource, ByMember, the_day, the_hour, the_sales}
use Rattle.lines.specs.Steps.{no_load, no_payee, Shares}
use Rattle.lines.proofs.Sizes.{first_list, sum_first}

-- ---- lists cut from arrays

pub front_list : (t : Tables) (c : ℕ) (xs : List ℤ) (f : ℕ → ℤ) → length xs ≡ 16 → c ≡ (the_day t).member_count → ByMember t xs f → take c xs ≡ map f (members (the_day t))
front_list t c xs f n e h = let few = few_members t in ap (λ (i : ℕ). take i xs) e ∙ first_list (the_day t).member_count xs f (omega arith) h

pub share_list : (t : Tables) (c : ℕ) (xs ss : List ℤ) → c ≡ (the_day t).member_count → Shares t xs ss → take c xs ≡ ss
share_list t c xs ss e h = ap (λ (i : ℕ). take i xs) e ∙ h

-- what is allocated over as many weights as there are members
pub shares_are : (t : Tables) (s : Meaning) (xs ws ws' : List ℤ) (a a' : ℤ) → take (length ws) xs ≡ allocated s a ws → a ≡ a' → ws ≡ ws'
    → length ws' ≡ (the_day t).member_count → Shares t xs (allocated s a' ws')
shares_are t s xs ws ws' a a' v e f n =
    let l : (the_day t).member_count ≡ length ws = sym (ap length f ∙ n) in
    ap (λ (i : ℕ). take i xs) l ∙ v ∙ ap (λ (z : ℤ). allocated s z ws) e ∙ ap (allocated s a') f

pub or_same : (xs xs' ys ys' zs : List ℤ) → zs ≡ or_else xs ys → xs ≡ xs' → ys ≡ ys' → zs ≡ or_else xs' ys'
or_same xs xs' ys ys' zs h e f = h ∙ ap (λ (ws : List ℤ). or_else ws ys) e ∙ ap (or_else xs') f

-- ---- the largest of a member's

pub largest_same : (t : Tables) (m : ℕ) (f g : ℕ → ℤ) → ((r : ℕ) → r < length (the_day t).roll → f r ≡ g r) → largest (owned (the_day t) m (resources (the_day t))) f ≡ largest (owned (the_day t) m (resources (the_day t))) g
largest_same t m f g h =
    by (owned (the_day t) m (resources (the_day t))) (all_owned (the_day t) (λ r. f r ≡ g r) m h)
  where
    by : (rs : List ℕ) → All (λ r. f r ≡ g r) rs → largest rs f ≡ largest rs g
    by [] k = refl
    by (r ∷ rs) k = let e = All-head (λ r. f r ≡ g r) r rs k in let i = by rs (All-tail (λ r. f r ≡ g r) r rs k) in cc

-- ---- totals

module _ (t : Tables) (k : ℕ) where
  pub reserve_is : (xs : List ℤ) → ByResource t xs (assigned (the_day t) k) → sum (resources (the_day t)) (at xs) ≡ total_assigned (the_day t) k
  unfolding total_assigned
  reserve_is xs h = sum_first (length (the_day t).roll) xs (assigned (the_day t) k) h

  pub clearing_is : (xs : List ℤ) → ByResource t xs (clearing_credit_of (the_day t) k (the_hour t k)) → sum (resources (the_day t)) (at xs) ≡ total_clearing (the_day t) k (the_hour t k)
  unfolding total_clearing
  clearing_is xs h = sum_first (length (the_day t).roll) xs (clearing_credit_of (the_day t) k (the_hour t k)) h

  pub costs_is : (xs : List ℤ) → ByResource t xs (opportunity_cost_credit_of (the_day t) k (the_hour t k)) → sum (resources (the_day t)) (at xs) ≡ total_opportunity_cost (the_day t) k (the_hour t k)
  unfolding total_opportunity_cost
  costs_is xs h = sum_first (length (the_day t).roll) xs (opportunity_cost_credit_of (the_day t) k (the_hour t k)) h

  pub refund_is : (s : Meaning) (xs : List ℤ) → First (length (the_day t).roll) xs (refund_part s (the_day t) k) → sum (resources (the_day t)) (at xs) ≡ total_refund s (the_day t) k
  unfolding total_refund
  refund_is s xs h = sum_first (length (the_day t).roll) xs (refund_part s (the_day t) k) h

  -- ---- reserve with no load, and refunds with nobody to pay

  pub no_load_is : (ws : List ℤ) (a l : ℤ) (r : Bool) → r ≡ (lt_z (pos 0) a && is_zero l) → ws ≡ map (load (the_hour t k)) (members (the_day t)) → a ≡ total_assigned (the_day t) k → l ≡ total ws → no_load t k ≡ r
  unfolding total_load
  no_load_is ws a l r h w e f = let g = ap total w in cc

  pub no_payee_is : (s : Meaning) (a : ℤ) (ws : List ℤ) (r : Bool) → r ≡ (lt_z (pos 0) a && all_zero ws) → a ≡ total_refund s (the_day t) k → ws ≡ payees s (the_day t) k (the_hour t k) (the_sales t k) → no_payee s t k ≡ r
  no_payee_is s a ws r h e f = sym (h ∙ ap (λ (z : ℤ). lt_z (pos 0) z && all_zero ws) e ∙ ap (λ (zs : List ℤ). lt_z (pos 0) (total_refund s (the_day t) k) && all_zero zs) f)

  -- ---- a member's figures

  module _ (s : Meaning) where
    pub owed_are : (xs ws : List ℤ) (a : ℤ) → take (length ws) xs ≡ allocated s a ws → a ≡ total_assigned (the_day t) k → ws ≡ map (load (the_hour t k)) (members (the_day t))
        → Shares t xs (obligations s (the_day t) k (the_hour t k))
    unfolding obligations
    owed_are xs ws a v e f = shares_are t s xs ws _ a _ v e f (length-map-range_with_len (load (the_hour t k)) 0 (the_day t).member_count)

    pub adjusted_is : (m : ℕ) (o n v : ℤ) → v ≡ o +ℤ n → o ≡ at (obligations s (the_day t) k (the_hour t k)) m → n ≡ net_sales (the_day t) (the_sales t k) m
        → v ≡ adjusted_obligation_of s (the_day t) k (the_hour t k) (the_sales t k) m
    unfolding adjusted_obligation_of
    adjusted_is m o n v h e f = cc

    pub purchase_is : (m : ℕ) (a : ℤ) (xs : List ℤ) (v : ℤ) → v ≡ at_least_zero (a -ℤ own (the_day t) m (at xs)) → a ≡ adjusted_obligation_of s (the_day t) k (the_hour t k) (the_sales t k) m
        → ByResource t xs (delivered (the_day t) k) → v ≡ purchase s (the_day t) k (the_hour t k) (the_sales t k) m
    unfolding purchase
    purchase_is m a xs v h e f = let o = own_same (the_day t) m (at xs) (delivered (the_day t) k) f in h ∙ ap (λ (z : ℤ). at_least_zero (a -ℤ z)) o ∙ ap (λ (z : ℤ). at_least_zero (z -ℤ own (the_day t) m (delivered (the_day t) k))) e

    pub weight_is : (m : ℕ) (a w : ℤ) (xs rs : List ℤ) (v : ℤ) → v ≡ cond (lt_z (pos 0) (largest (owned (the_day t) m (resources (the_day t))) (at rs))) (pos 0) w → w ≡ at_least_zero (a -ℤ own (the_day t) m (at xs))
        → a ≡ adjusted_obligation_of s (the_day t) k (the_hour t k) (the_sales t k) m → ByResource t xs (delivered_tier_one (the_day t) k) → First (length (the_day t).roll) rs (day_refund s (the_day t))
        → v ≡ refund_weight s (the_day t) k (the_hour t k) (the_sales t k) m
    unfolding refund_weight
    weight_is m a w xs rs v h g e f l =
        let d = the_day t in
        let o = own_same d m (at xs) (delivered_tier_one d k) f in
        let b = largest_same t m (at rs) (day_refund s d) l in
        let w' : w ≡ at_least_zero (adjusted_obligation_of s d k (the_hour t k) (the_sales t k) m -ℤ own d m (delivered_tier_one d k))
        = g ∙ ap (λ (z : ℤ). at_least_zero (a -ℤ z)) o ∙ ap (λ (z : ℤ). at_least_zero (z -ℤ own d m (delivered_tier_one d k))) e in
        h ∙ ap (λ (z : ℤ). cond (lt_z (pos 0) z) (pos 0) w) b ∙ ap (λ (z : ℤ). cond (is_refunding s d m) (pos 0) z) w'

    pub clearing_charges_are : (xs ws : List ℤ) (a : ℤ) → take (length ws) xs ≡ allocated s a ws → a ≡ total_clearing (the_day t) k (the_hour t k)
        → ws ≡ adjusted_obligations s (the_day t) k (the_hour t k) (the_sales t k) → Shares t xs (clearing_charges s (the_day t) k (the_hour t k) (the_sales t k))
    unfolding clearing_charges
    clearing_charges_are xs ws a v e f = shares_are t s xs ws _ a _ v e f (length-map-range_with_len (adjusted_obligation_of s (the_day t) k (the_hour t k) (the_sales t k)) 0 (the_day t).member_count)

    pub cost_charges_are : (xs ws : List ℤ) (a : ℤ) → take (length ws) xs ≡ allocated s a ws → a ≡ total_opportunity_cost (the_day t) k (the_hour t k)
        → ws ≡ buyers s (the_day t) k (the_hour t k) (the_sales t k) → length ws ≡ (the_day t).member_count → Shares t xs (opportunity_cost_charges s (the_day t) k (the_hour t k) (the_sales t k))
    unfolding opportunity_cost_charges
    cost_charges_are xs ws a v e f n = shares_are t s xs ws _ a _ v e f (sym (ap length f) ∙ n)

    pub paid_are : (xs ws : List ℤ) (a : ℤ) → take (length ws) xs ≡ allocated s a ws → a ≡ total_refund s (the_day t) k
        → ws ≡ payees s (the_day t) k (the_hour t k) (the_sales t k) → length ws ≡ (the_day t).member_count → Shares t xs (refunds_paid s (the_day t) k (the_hour t k) (the_sales t k))
    unfolding refunds_paid
    paid_are xs ws a v e f n = shares_are t s xs ws _ a _ v e f (sym (ap length f) ∙ n)

    -- ---- the weights

    pub buyers_are : (c : ℕ) (js ps ds ws : List ℤ) → length js ≡ 16 → length ps ≡ 16 → c ≡ (the_day t).member_count → ByMember t js (adjusted_obligation_of s (the_day t) k (the_hour t k) (the_sales t k))
        → ByMember t ps (λ m. at_least_zero (at js m -ℤ own (the_day t) m (at ds))) → ByResource t ds (delivered (the_day t) k) → ws ≡ or_else (take c ps) (take c js)
        → (ws ≡ buyers s (the_day t) k (the_hour t k) (the_sales t k)) × (length ws ≡ (the_day t).member_count)
    buyers_are c js ps ds ws nj np e a p d h =
        let f = purchase s (the_day t) k (the_hour t k) (the_sales t k) in
        let o = adjusted_obligation_of s (the_day t) k (the_hour t k) (the_sales t k) in
        let z = or_same _ (map f (members (the_day t))) _ (map o (members (the_day t))) ws h
        (front_list t c ps f np e (λ m l. purchase_is m (at js m) ds _ (p m l) (a m l) d)) (front_list t c js o nj e a) in
        (z, ap length z ∙ or_else_length (map f (members (the_day t))) (map o (members (the_day t))) (the_day t).member_count (length-map-range_with_len f 0 (the_day t).member_count) (length-map-range_with_len o 0 (the_day t).member_count))

    owed_length : (os : List ℤ) → length os ≡ 16 → Shares t os (obligations s (the_day t) k (the_hour t k)) → length (obligations s (the_day t) k (the_hour t k)) ≡ (the_day t).member_count
    owed_length os n h = let few = few_members t in omega (arith, length-take (the_day t).member_count os, ap length h)

    pub payees_length : (os : List ℤ) → length os ≡ 16 → Shares t os (obligations s (the_day t) k (the_hour t k)) → length (payees s (the_day t) k (the_hour t k) (the_sales t k)) ≡ (the_day t).member_count
    payees_length os n o =
        let f = refund_weight s (the_day t) k (the_hour t k) (the_sales t k) in
        or_else_length (map f (members (the_day t))) (obligations s (the_day t) k (the_hour t k)) (the_day t).member_count (length-map-range_with_len f 0 (the_day t).member_count) (owed_length os n o)

    pub payees_are : (c : ℕ) (js os ms xs rs us ws : List ℤ) → length os ≡ 16 → length us ≡ 16 → c ≡ (the_day t).member_count → ByMember t js (adjusted_obligation_of s (the_day t) k (the_hour t k) (the_sales t k))
        → Shares t os (obligations s (the_day t) k (the_hour t k)) → ByMember t ms (λ m. at_least_zero (at js m -ℤ own (the_day t) m (at xs))) → ByResource t xs (delivered_tier_one (the_day t) k)
        → First (length (the_day t).roll) rs (day_refund s (the_day t)) → ByMember t us (λ m. cond (lt_z (pos 0) (largest (owned (the_day t) m (resources (the_day t))) (at rs))) (pos 0) (at ms m))
        → ws ≡ or_else (take c us) (take c os)
        → (ws ≡ payees s (the_day t) k (the_hour t k) (the_sales t k)) × (length ws ≡ (the_day t).member_count)
    payees_are c js os ms xs rs us ws n' nu e a o p d r u h =
        let f = refund_weight s (the_day t) k (the_hour t k) (the_sales t k) in
        let z = or_same _ (map f (members (the_day t))) _ (obligations s (the_day t) k (the_hour t k)) ws h
        (front_list t c us f nu e (λ m l. weight_is m (at js m) (at ms m) xs rs _ (u m l) (p m l) (a m l) d r)) (share_list t c os _ e o) in
        (z, ap length z ∙ payees_length os n' o)

-- sums over a member's resources, by what stands there
pub own_columns : (t : Tables) (xs ys : List ℤ) (f : ℕ → ℤ) → ByMember t xs (λ m. own (the_day t) m (at ys)) → First (length (the_day t).roll) ys f → ByMember t xs (λ m. own (the_day t) m f)
own_columns t xs ys f h e = λ m l. h m l ∙ own_same (the_day t) m (at ys) f e
