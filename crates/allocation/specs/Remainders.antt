-- Largest remainder keeps the laws of a rule, and hands out in order.
use Rattle.std.specs.Prelude.{◌≡◌, ℕ, zero, suc, ◌+◌, ◌*◌, ◌<◌, ◌≤◌, Bool, true, false, cond, ◌⊎◌, List, [], ◌∷◌, ◌++◌, map, length, get_or, take, ℤ, pos, negsuc, ◌+ℤ◌, ◌-ℤ◌, ◌*ℤ◌, ◌≤ℤ◌, ◌<ℤ◌, ◌≢◌, int_lt, slice_index_or, slice_set, unsigned_abs, refl}
use Rattle.std.proofs.Common.{sym, ap, ◌∙◌, inl, inr, ⊎_elim, arith, mul-add, length-set, get_or-set_same, get_or-set_other}
use Rattle.std.proofs.lemmas.Int.{unsigned_abs-mul, ints, by_lt_z}
use Rattle.std.proofs.lemmas.Bool.{cases_eq}
use Rattle.std.specs.Int.Signed.{≤ℤ_refl}
use Rattle.std.proofs.lemmas.List.{get_or_default, get_or-map, length-map, take_more_set, take_all, map_more}
use Rattle.allocation.specs.Weights.{total, magnitude}
use Rattle.allocation.specs.Refusals.{Admissible}
use Rattle.allocation.specs.Rules.{Rounded, EachRounded}
use Rattle.allocation.specs.Remainder.{lower, dropped, largest, hand_out, remainder, lower_at, dropped_at, ComesBefore, LargestFirst}
use Rattle.allocation.specs.Products.{floor_low, floor_high, floor_size, difference_times, times_sum, sum_times}
use Rattle.allocation.specs.RoundingLemmas.{rounded_from_near, rounded_size}
use Rattle.allocation.specs.Totals.{total_set, total_push}
use Rattle.allocation.specs.Verdicts.{weight_size, product_size, amount_size}

-- ---- what is dropped
drop_step : (t ax ar m fw dw fdw : ℤ) → t ≡ ar -ℤ dw → m ≡ ax +ℤ ar → fdw ≡ fw +ℤ dw → (ax -ℤ fw) +ℤ t ≡ m -ℤ fdw
drop_step t ax ar m fw dw fdw e₁ e₂ e₃ = omega (arith, ints)

-- it comes to w times what is not given out
dropped_total : (a w : ℤ) (xs : List ℤ) → total (map (dropped a w) xs) ≡ a *ℤ total xs -ℤ total (map (lower a w) xs) *ℤ w
dropped_total a w [] = omega (arith, ints)
dropped_total a w (x ∷ xs) =
    let f = lower a w x in
    let d = total (map (lower a w) xs) in
    drop_step (total (map (dropped a w) xs)) (a *ℤ x) (a *ℤ total xs) (a *ℤ (x +ℤ total xs)) (f *ℤ w) (d *ℤ w) ((f +ℤ d) *ℤ w) (dropped_total a w xs) (times_sum a x (total xs)) (sum_times f d w)

apart : (p q : ℤ) → p ≤ℤ q → pos 0 ≤ℤ (q -ℤ p)
apart p q h = omega (arith, ints)

dropped_not_below : (a w : ℤ) (xs : List ℤ) → pos 0 <ℤ w → pos 0 ≤ℤ total (map (dropped a w) xs)
dropped_not_below a w [] h = omega (arith, ints)
dropped_not_below a w (x ∷ xs) h = sums _ _ (apart _ _ (floor_low (a *ℤ x) w h)) (dropped_not_below a w xs h)
  where
    sums : (p q : ℤ) → pos 0 ≤ℤ p → pos 0 ≤ℤ q → pos 0 ≤ℤ (p +ℤ q)
    sums p q h k = omega (arith, ints)

dropped_below : (a w x : ℤ) → pos 0 <ℤ w → dropped a w x <ℤ w
dropped_below a w x h = by _ _ (floor_high (a *ℤ x) w h)
  where
    by : (y m : ℤ) → y <ℤ (m +ℤ w) → (y -ℤ m) <ℤ w
    by y m k = omega (arith, ints)

-- ---- the place of the largest
by_test : (P : ℕ → Type 0) (x y : ℤ) (k : ℕ) → (x <ℤ y → P (suc k)) → (y ≤ℤ x → P 0) → P (cond (int_lt x y) (suc k) 0)
by_test P x y k f g = by (int_lt x y) (λ e. f (omega (arith, ints))) (λ e. g (omega (arith, ints)))
  where
    by : (t : Bool) → (t ≡ true → P (suc k)) → (t ≡ false → P 0) → P (cond t (suc k) 0)
    by true f g = f refl
    by false f g = g refl

pub largest_within : (xs : List ℤ) → 0 < length xs → largest xs < length xs
largest_within [] l = l
largest_within (x ∷ []) l = by_test (λ n. n < 1) x x 0 (λ h. absurd (omega (arith, ints))) (λ h. omega arith)
largest_within (x ∷ y ∷ ys) l =
    let h = largest_within (y ∷ ys) (omega arith) in
    by_test (λ n. n < length (x ∷ y ∷ ys)) x _ (largest (y ∷ ys)) (λ k. omega arith) (λ k. omega arith)

-- the number at place j is below that at place i, or the same and not earlier
abbrev Later : List ℤ → ℕ → ℕ → Type 0
Later xs i j = (slice_index_or xs j (pos 0) <ℤ slice_index_or xs i (pos 0)) ⊎ ((slice_index_or xs j (pos 0) ≡ slice_index_or xs i (pos 0)) × (i ≤ j))

largest_first : (xs : List ℤ) (j : ℕ) → j < length xs → Later xs (largest xs) j
largest_first [] j l = absurd (omega arith)
largest_first (x ∷ []) zero l = by_test (λ n. Later (x ∷ []) n 0) x x 0 (λ h. absurd (omega (arith, ints))) (λ h. inr (refl, omega arith))
largest_first (x ∷ []) (suc j) l = absurd (omega arith)
largest_first (x ∷ y ∷ ys) j l =
    let xs = y ∷ ys in
    let w = largest_within xs (omega arith) in
    let e = get_or_default xs (largest xs) x (pos 0) w in
    by_test (λ n. Later (x ∷ xs) n j) x (slice_index_or xs (largest xs) x) (largest xs)
    (λ h. here xs e h j l (λ i k. largest_first (y ∷ ys) i k))
    (λ h. there xs e h j l (λ i k. largest_first (y ∷ ys) i k))
  where
    here : (xs : List ℤ) → slice_index_or xs (largest xs) x ≡ slice_index_or xs (largest xs) (pos 0) → x <ℤ slice_index_or xs (largest xs) x → (j : ℕ) → j < length (x ∷ xs)
        → ((i : ℕ) → i < length xs → Later xs (largest xs) i) → Later (x ∷ xs) (suc (largest xs)) j
    here xs e h zero l r = inl (omega (arith, ints))
    here xs e h (suc j) l r = ⊎_elim (λ k. inl k) (λ k. inr (k.0, let z = k.1 in omega arith)) (r j (omega arith))

    there : (xs : List ℤ) → slice_index_or xs (largest xs) x ≡ slice_index_or xs (largest xs) (pos 0) → slice_index_or xs (largest xs) x ≤ℤ x → (j : ℕ) → j < length (x ∷ xs)
        → ((i : ℕ) → i < length xs → Later xs (largest xs) i) → Later (x ∷ xs) 0 j
    there xs e h zero l r = inr (refl, omega arith)
    there xs e h (suc j) l r =
        by_lt_z (slice_index_or xs j (pos 0)) x (λ k. inl k)
        (λ k. ⊎_elim (λ z. absurd (omega (arith, ints))) (λ z. inr (let q = z.0 in omega (arith, ints), omega arith)) (r j (omega arith)))

-- where the numbers come to more than 0, the largest is above 0
pub largest_above : (xs : List ℤ) → pos 0 <ℤ total xs → pos 0 <ℤ slice_index_or xs (largest xs) (pos 0)
largest_above xs h =
    by_lt_z (pos 0) (slice_index_or xs (largest xs) (pos 0)) (λ k. k)
    (λ k. let z = none xs (λ j l. ⊎_elim (λ m. omega (arith, ints)) (λ m. let q = m.0 in omega (arith, ints)) (largest_first xs j l)) in absurd (omega (arith, ints)))
  where
    none : (xs : List ℤ) → ((j : ℕ) → j < length xs → slice_index_or xs j (pos 0) ≤ℤ pos 0) → total xs ≤ℤ pos 0
    none [] f = omega (arith, ints)
    none (x ∷ xs) f = let h = f 0 (omega arith) in let t = none xs (λ j l. f (suc j) (omega arith)) in omega (arith, ints)

-- the place of a number that none is above, and that has no equal before it
pub largest_is : (xs : List ℤ) (b : ℕ) → b < length xs → ((j : ℕ) → j < length xs → slice_index_or xs j (pos 0) ≤ℤ slice_index_or xs b (pos 0))
    → ((j : ℕ) → j < length xs → slice_index_or xs j (pos 0) ≡ slice_index_or xs b (pos 0) → b ≤ j) → b ≡ largest xs
largest_is xs b l above first =
    let w = largest_within xs (omega arith) in
    let h = above (largest xs) w in
    ⊎_elim (λ k. absurd (omega (arith, ints))) (λ k. let q = first (largest xs) w (sym k.0) in let z = k.1 in omega arith) (largest_first xs b l)

-- ---- the hand-out
-- a place that still waits has what it dropped as its key; one that got its unit has key 0
abbrev pub State : ℤ → ℤ → ℤ → ℤ → ℤ → Type 0
State a w x p d =
    ((p ≡ lower a w x) × (d ≡ dropped a w x))
    ⊎ ((p ≡ lower a w x +ℤ pos 1) × (pos 0 <ℤ dropped a w x) × (d ≡ pos 0))

near_by : (x m q w : ℤ) → q ≡ m +ℤ w → pos 0 <ℤ (x -ℤ m) → x <ℤ (m +ℤ w) → pos 0 <ℤ w → (q <ℤ (x +ℤ w)) × (x <ℤ (q +ℤ w))
near_by x m q w e h k z = (omega (arith, ints), omega (arith, ints))

one_more_times : (p w : ℤ) → (p +ℤ pos 1) *ℤ w ≡ p *ℤ w +ℤ w
one_more_times p w = sum_times p (pos 1) w ∙ ap (λ (z : ℤ). p *ℤ w +ℤ z) (omega (arith, ints))

-- one more than the share taken down is the share taken up, where it dropped something
up_rounded : (a w x : ℤ) → pos 0 <ℤ w → pos 0 <ℤ dropped a w x → Rounded (lower a w x +ℤ pos 1) (a *ℤ x) w
up_rounded a w x h d =
    let p = lower a w x in
    rounded_from_near (p +ℤ pos 1) (a *ℤ x) w h (near_by (a *ℤ x) (p *ℤ w) ((p +ℤ pos 1) *ℤ w) w (one_more_times p w) d (floor_high (a *ℤ x) w h) h)

state_rounded : (a w x p d : ℤ) → pos 0 <ℤ w → State a w x p d → Rounded p (a *ℤ x) w
state_rounded a w x p d h (inl s) = inl s.0
state_rounded a w x p d h (inr s) = rw s.0 (up_rounded a w x h s.1)

state_below : (a w x p d : ℤ) → pos 0 <ℤ w → State a w x p d → d <ℤ w
state_below a w x p d h (inl s) = rw s.1 (dropped_below a w x h)
state_below a w x p d h (inr s) = let e = s.2 in omega (arith, ints)

-- a place with a key above 0 still waits
waiting : (a w x p d : ℤ) → pos 0 <ℤ d → State a w x p d → (p ≡ lower a w x) × (d ≡ dropped a w x)
waiting a w x p d k (inl s) = s
waiting a w x p d k (inr s) = let e = s.2 in absurd (omega (arith, ints))

not_both : (p f : ℤ) → p ≡ f → p ≢ f +ℤ pos 1
not_both p f e h = omega (arith, ints)

-- while n units are left: the shares so far and the keys
pub record Handing (a : ℤ) (ws : List ℤ) (n : ℕ) (ps ds : List ℤ) : Type 0 where
  pub places : length ps ≡ length ws
  pub keyed : length ds ≡ length ws
  pub sum : total ps +ℤ pos n ≡ a
  pub enough : (pos n *ℤ total ws) ≤ℤ total ds
  pub states : (k : ℕ) → k < length ws → State a (total ws) (slice_index_or ws k (pos 0)) (slice_index_or ps k (pos 0)) (slice_index_or ds k (pos 0))
  pub in_order : (i j : ℕ) → i < length ws → j < length ws → slice_index_or ps i (pos 0) ≡ lower_at a ws i +ℤ pos 1 → slice_index_or ps j (pos 0) ≡ lower_at a ws j → ComesBefore a ws i j

times_not_below : (n : ℕ) (w : ℤ) → pos 0 <ℤ w → pos 0 ≤ℤ (pos n *ℤ w)
times_not_below n (pos m) h = omega (arith, ints)
times_not_below n (negsuc m) h = absurd (omega (arith, ints))

more_times : (n : ℕ) (w : ℤ) → pos (suc n) *ℤ w ≡ w +ℤ pos n *ℤ w
more_times n w = omega (arith, ints)

nonempty : (xs : List ℤ) → pos 0 <ℤ total xs → 0 < length xs
nonempty [] h = absurd (omega (arith, ints))
nonempty (x ∷ xs) h = omega arith

enough_by : (m m' t t' d w : ℤ) → m' ≡ w +ℤ m → m' ≤ℤ t → t' ≡ t +ℤ (pos 0 -ℤ d) → d <ℤ w → m ≤ℤ t'
enough_by m m' t t' d w e h f k = omega (arith, ints)

above_by : (m m' t w : ℤ) → m' ≡ w +ℤ m → m' ≤ℤ t → pos 0 ≤ℤ m → pos 0 <ℤ w → pos 0 <ℤ t
above_by m m' t w e h k z = omega (arith, ints)

sum_by : (t t' p a : ℤ) (n : ℕ) → t +ℤ pos (suc n) ≡ a → t' ≡ t +ℤ ((p +ℤ pos 1) -ℤ p) → t' +ℤ pos n ≡ a
sum_by t t' p a n e f = omega (arith, ints)

-- place k has the largest key, and place j waits too
before_by : (a : ℤ) (ws ds : List ℤ) (k j : ℕ) → (j ≢ k) → slice_index_or ds k (pos 0) ≡ dropped_at a ws k → slice_index_or ds j (pos 0) ≡ dropped_at a ws j
    → Later ds k j → ComesBefore a ws k j
before_by a ws ds k j ne ek ej (inl h) = inl (rw (sym ek, sym ej) h)
before_by a ws ds k j ne ek ej (inr h) = inr (sym ej ∙ h.0 ∙ ek, let l = h.1 in omega arith)

handing_more : (a : ℤ) (ws : List ℤ) (n : ℕ) (ps ds : List ℤ) → pos 0 <ℤ total ws → Handing a ws (suc n) ps ds
    → Handing a ws n (slice_set ps (largest ds) (slice_index_or ps (largest ds) (pos 0) +ℤ pos 1)) (slice_set ds (largest ds) (pos 0))
handing_more a ws n ps ds h s =
    let k = largest ds in
    let w = total ws in
    let m = more_times n w in
    let above = above_by (pos n *ℤ w) (pos (suc n) *ℤ w) (total ds) w m s.enough (times_not_below n w h) h in
    let l : k < length ds = largest_within ds (nonempty ds above) in
    let key = largest_above ds above in
    let ld = s.keyed in
    let lp = s.places in
    let lw : k < length ws = omega arith in
    let lk : k < length ps = omega arith in
    let st = s.states k lw in
    let waits = waiting a w (slice_index_or ws k (pos 0)) _ _ key st in
    let up : get_or (slice_set ps k (slice_index_or ps k (pos 0) +ℤ pos 1)) k (pos 0) ≡ lower_at a ws k +ℤ pos 1 = get_or-set_same ps k _ (pos 0) lk ∙ ap (λ (z : ℤ). z +ℤ pos 1) waits.0 in
    record {
      places = length-set ps k _ ∙ s.places;
      keyed = length-set ds k _ ∙ s.keyed;
      sum = sum_by (total ps) _ (slice_index_or ps k (pos 0)) a n s.sum (total_set ps k _ lk);
      enough = enough_by (pos n *ℤ w) (pos (suc n) *ℤ w) (total ds) _ (slice_index_or ds k (pos 0)) w m s.enough (total_set ds k (pos 0) l) (state_below a w _ _ _ h st);
      states = λ j lj. ⊎_elim
          (λ e. rw e (inr (up, rw (sym waits.1) key, get_or-set_same ds k _ (pos 0) l)))
          (λ e. rw (get_or-set_other ps k j _ (pos 0) e, get_or-set_other ds k j _ (pos 0) e) (s.states j lj))
          (cases_eq j k);
      in_order = λ i j li lj ei ej. ⊎_elim
          (λ e. absurd (not_both _ (lower_at a ws k) (rw e at ej) up))
          (λ e.
          let ej' = sym (get_or-set_other ps k j _ (pos 0) e) ∙ ej in
          ⊎_elim
          (λ f. rw f (before_by a ws ds k j e waits.1 (still j lj ej') (largest_first ds j (omega arith))))
          (λ f. s.in_order i j li lj (sym (get_or-set_other ps k i _ (pos 0) f) ∙ ei) ej')
          (cases_eq i k))
          (cases_eq j k);
    }
  where
    still : (j : ℕ) → j < length ws → slice_index_or ps j (pos 0) ≡ lower_at a ws j → slice_index_or ds j (pos 0) ≡ dropped_at a ws j
    still j lj e = ⊎_elim (λ t. t.1) (λ t. absurd (not_both _ _ e t.0)) (s.states j lj)

pub handed : (a : ℤ) (ws : List ℤ) (n : ℕ) (ps ds : List ℤ) → pos 0 <ℤ total ws → Handing a ws n ps ds → (ks : List ℤ) × Handing a ws 0 (hand_out n ps ds) ks
handed a ws zero ps ds h s = (ds, s)
handed a ws (suc n) ps ds h s = handed a ws n (slice_set ps (largest ds) (slice_index_or ps (largest ds) (pos 0) +ℤ pos 1)) (slice_set ds (largest ds) (pos 0)) h (handing_more a ws n ps ds h s)

-- of a number whose product with w is not below 0
not_below_by : (q w : ℤ) → pos 0 <ℤ w → pos 0 ≤ℤ (q *ℤ w) → pos (unsigned_abs q) ≡ q
not_below_by (pos n) w h k = refl
not_below_by (negsuc n) (pos zero) h k = absurd (omega (arith, ints))
not_below_by (negsuc n) (pos (suc m)) h k = absurd (omega (arith, ints))
not_below_by (negsuc n) (negsuc m) h k = absurd (omega (arith, ints))

-- what the shares taken down leave over is not below 0
module _ (a : ℤ) (ws : List ℤ) (h : pos 0 <ℤ total ws) where
  left_times : total (map (dropped a (total ws)) ws) ≡ (a -ℤ total (map (lower a (total ws)) ws)) *ℤ total ws
  left_times = dropped_total a (total ws) ws ∙ sym (difference_times a (total (map (lower a (total ws)) ws)) (total ws))

  pub left_over : pos (unsigned_abs (a -ℤ total (map (lower a (total ws)) ws))) ≡ a -ℤ total (map (lower a (total ws)) ws)
  left_over = not_below_by _ (total ws) h (rw (sym left_times) (dropped_not_below a (total ws) ws h))

  pub start : Handing a ws (unsigned_abs (a -ℤ total (map (lower a (total ws)) ws))) (map (lower a (total ws)) ws) (map (dropped a (total ws)) ws)
  start = record {
    places = length-map ws _;
    keyed = length-map ws _;
    sum = by (total (map (lower a (total ws)) ws)) _ left_over;
    enough = rw (left_times, left_over) (≤ℤ_refl _);
    states = λ k l. inl (get_or-map _ ws k (pos 0) (pos 0) l, get_or-map _ ws k (pos 0) (pos 0) l);
    in_order = λ i j li lj ei ej. absurd (not_both _ _ (get_or-map _ ws i (pos 0) (pos 0) li) ei);
  }
    where
      by : (d : ℤ) (n : ℕ) → pos n ≡ a -ℤ d → d +ℤ pos n ≡ a
      by d n e = omega (arith, ints)

  pub at_end : (ks : List ℤ) × Handing a ws 0 (remainder a ws) ks
  at_end = handed a ws _ _ _ h start

  pub remainder_counted : length (remainder a ws) ≡ length ws
  remainder_counted = at_end.1.places

  pub remainder_whole : total (remainder a ws) ≡ a
  remainder_whole = let e = at_end.1.sum in omega (arith, ints)

  pub remainder_rounded : EachRounded a ws (remainder a ws)
  remainder_rounded k l = state_rounded a (total ws) _ _ _ h (at_end.1.states k l)

  pub largest_remainders : LargestFirst a ws (remainder a ws)
  largest_remainders = record {
    down_or_up = λ k l. ⊎_elim (λ s. inl s.0) (λ s. inr (s.0, s.1)) (at_end.1.states k l);
    in_order = at_end.1.in_order;
  }

-- ---- the shares taken down are no larger than amount × the weights
pub lower_size : (a w x : ℤ) → pos 0 <ℤ w → unsigned_abs (lower a w x) ≤ unsigned_abs a * unsigned_abs x
lower_size a w x h = let f = floor_size (a *ℤ x) w h in let e = unsigned_abs-mul a x in omega arith

pub lowered_size : (a w : ℤ) (ws : List ℤ) → pos 0 <ℤ w → magnitude (map (lower a w) ws) ≤ unsigned_abs a * magnitude ws
lowered_size a w [] h = omega arith
lowered_size a w (x ∷ xs) h =
    by _ _ _ _ _ (lower_size a w x h) (lowered_size a w xs h) (mul-add (unsigned_abs a) (unsigned_abs x) (magnitude xs))
  where
    by : (p q m n t : ℕ) → p ≤ m → q ≤ n → t ≡ m + n → p + q ≤ t
    by p q m n t h k e = omega arith

-- ---- the loop that takes each share down
front_lower_size : (a w : ℤ) (ws : List ℤ) (k : ℕ) → pos 0 <ℤ w → unsigned_abs (total (map (lower a w) (take k ws))) ≤ unsigned_abs a * magnitude ws
front_lower_size a w ws zero h = omega arith
front_lower_size a w [] (suc k) h = omega arith
front_lower_size a w (x ∷ xs) (suc k) h =
    let r = front_lower_size a w xs k h in
    let s = lower_size a w x h in
    let m = mul-add (unsigned_abs a) (unsigned_abs x) (magnitude xs) in
    by (lower a w x) (total (map (lower a w) (take k xs))) (unsigned_abs a * unsigned_abs x) (unsigned_abs a * magnitude xs) (unsigned_abs a * (unsigned_abs x + magnitude xs)) s r m
  where
    by : (p q : ℤ) (m n t : ℕ) → unsigned_abs p ≤ m → unsigned_abs q ≤ n → t ≡ m + n → unsigned_abs (p +ℤ q) ≤ t
    by p q m n t h k e = omega (arith, ints)

pub record Lowering (a w : ℤ) (ws : List ℤ) (i : ℕ) (left : ℤ) (ps ks : List ℤ) : Type 0 where
  pub left_on : left ≡ a -ℤ total (map (lower a w) (take i ws))
  pub shares_on : take i ps ≡ map (lower a w) (take i ws)
  pub keys_on : take i ks ≡ map (dropped a w) (take i ws)

pub lowering_size : (a w : ℤ) (ws ps ks : List ℤ) (i : ℕ) (left : ℤ) → pos 0 <ℤ w → Admissible a ws → Lowering a w ws i left ps ks → unsigned_abs left ≤ 8000000000000000000
lowering_size a w ws ps ks i left h s t =
    let f = front_lower_size a w ws i h in
    let m = s.small in
    let n = amount_size a ws s in
    let e = t.left_on in
    by (total (map (lower a w) (take i ws))) (unsigned_abs a * magnitude ws) f m n e
  where
    by : (q : ℤ) (m : ℕ) → unsigned_abs q ≤ m → m ≤ 4000000000000000000 → unsigned_abs a ≤ 4000000000000000000 → left ≡ a -ℤ q → unsigned_abs left ≤ 8000000000000000000
    by q m f g n e = omega (arith, ints)

module _ {X : Type 0} (f : ℤ → X) where
  front_on : (out : List X) (ws : List ℤ) (i : ℕ) (v : X) → i < length ws → i < length out → v ≡ f (slice_index_or ws i (pos 0)) → take i out ≡ map f (take i ws)
      → take (i + 1) (slice_set out i v) ≡ map f (take (i + 1) ws)
  front_on out ws i v l lo e h =
      take_more_set out i v lo ∙ ap (λ (z : List X). z ++ v ∷ []) h ∙ ap (λ (z : X). map f (take i ws) ++ z ∷ []) e ∙ sym (map_more f ws i (pos 0) l)

  pub front_all : (out : List X) (ws : List ℤ) (i : ℕ) → length ws ≤ i → length out ≤ i → take i out ≡ map f (take i ws) → out ≡ map f ws
  front_all out ws i l lo h = sym (take_all i out lo) ∙ h ∙ ap (map f) (take_all i ws l)

pub lower_turn : (a w : ℤ) (ws ps ks : List ℤ) (i : ℕ) (left left' x p k : ℤ) → i < length ws → i < length ps → i < length ks
    → x ≡ slice_index_or ws i (pos 0) → p ≡ lower a w x → k ≡ dropped a w x → left' ≡ left -ℤ p
    → Lowering a w ws i left ps ks → Lowering a w ws (i + 1) left' (slice_set ps i p) (slice_set ks i k)
lower_turn a w ws ps ks i left left' x p k l lp lk ex ep ek el t =
    let e : p ≡ lower a w (slice_index_or ws i (pos 0)) = ep ∙ ap (lower a w) ex in
    let m = ap total (map_more (lower a w) ws i (pos 0) l) ∙ total_push (map (lower a w) (take i ws)) (lower a w (slice_index_or ws i (pos 0))) in
    record {
      left_on = by _ _ _ t.left_on m e;
      shares_on = front_on (lower a w) ps ws i p l lp e t.shares_on;
      keys_on = front_on (dropped a w) ks ws i k l lk (ek ∙ ap (dropped a w) ex) t.keys_on;
    }
  where
    by : (s s' q : ℤ) → left ≡ a -ℤ s → s' ≡ s +ℤ q → p ≡ q → left' ≡ a -ℤ s'
    by s s' q e f g = omega (arith, ints)

-- ---- the loop that hands out
pub record Serving (a : ℤ) (ws : List ℤ) (left : ℤ) (ps ks : List ℤ) : Type 0 where
  pub not_below : pos 0 ≤ℤ left
  pub handing : Handing a ws (unsigned_abs left) ps ks
  pub rest : hand_out (unsigned_abs left) ps ks ≡ remainder a ws

pub serving_starts : (a w : ℤ) (ws ps ks : List ℤ) (left : ℤ) → pos 0 <ℤ total ws → w ≡ total ws
    → ps ≡ map (lower a w) ws → ks ≡ map (dropped a w) ws → left ≡ a -ℤ total (map (lower a w) ws) → Serving a ws left ps ks
serving_starts a w ws ps ks left h e p k l =
    rw (p, k, l, e) (record { not_below = by _ (left_over a ws h); handing = start a ws h; rest = refl })
  where
    by : (q : ℤ) → pos (unsigned_abs q) ≡ q → pos 0 ≤ℤ q
    by q e = omega (arith, ints)

pub record Servable (ps ks : List ℤ) : Type 0 where
  pub some : 0 < length ks
  pub places : length ps ≡ length ks
  pub small : unsigned_abs (slice_index_or ps (largest ks) (pos 0)) ≤ 4000000000000000000

pub servable : (a : ℤ) (ws : List ℤ) (left : ℤ) (ps ks : List ℤ) → Admissible a ws → Serving a ws left ps ks → Servable ps ks
servable a ws left ps ks s v =
    let g = v.handing in
    let lk = g.keyed in
    let lp = g.places in
    let sw = s.some in
    let one : 0 < length ks = omega arith in
    let l = largest_within ks one in
    let k : largest ks < length ws = omega arith in
    let r = rounded_size _ _ (total ws) s.above (state_rounded a (total ws) _ _ _ s.above (g.states (largest ks) k)) in
    let t = unsigned_abs-mul a (slice_index_or ws (largest ks) (pos 0)) in
    let z = product_size a ws _ s (weight_size ws (largest ks) k) in
    record { some = one; places = omega arith; small = omega arith }

pub serving_on : (a : ℤ) (ws : List ℤ) (left left' : ℤ) (ps ks ps' ks' : List ℤ) → pos 0 <ℤ total ws → pos 0 <ℤ left → left' ≡ left -ℤ pos 1
    → ps' ≡ slice_set ps (largest ks) (slice_index_or ps (largest ks) (pos 0) +ℤ pos 1) → ks' ≡ slice_set ks (largest ks) (pos 0)
    → Serving a ws left ps ks → Serving a ws left' ps' ks'
serving_on a ws (negsuc m) left' ps ks ps' ks' h z e p k v = absurd (omega (arith, ints))
serving_on a ws (pos zero) left' ps ks ps' ks' h z e p k v = absurd (omega (arith, ints))
serving_on a ws (pos (suc n)) left' ps ks ps' ks' h z e p k v =
    let f : left' ≡ pos n = omega (arith, ints) in
    rw (f, p, k) (record { not_below = omega (arith, ints); handing = handing_more a ws n ps ks h v.handing; rest = v.rest })

pub serving_ends : (a : ℤ) (ws : List ℤ) (left : ℤ) (ps ks : List ℤ) → left ≤ℤ pos 0 → Serving a ws left ps ks → ps ≡ remainder a ws
serving_ends a ws (negsuc m) ps ks z v = let y = v.not_below in absurd (omega (arith, ints))
serving_ends a ws (pos zero) ps ks z v = v.rest
serving_ends a ws (pos (suc n)) ps ks z v = absurd (omega (arith, ints))
