-- Loops over places: what is kept of them, and what is written at them.
use Rattle.std.proofs.Common.{◌≡◌, ℕ, ◌+◌, ◌<◌, ◌≤◌, Bool, true, ◌≢◌, List, length, set, ℤ, pos, filter, sym, ap, ◌∙◌, arith, get_or-set_other, below_more}
use Rattle.std.specs.List.{range_with_len}
use Rattle.std.proofs.lemmas.List.Edits.{fill_by_more}
use Rattle.std.proofs.lemmas.List.{length_push}
use Rattle.settlement.specs.Sums.{at}
use Rattle.settlement.proofs.Steps.{kept_yes}

pub one_kept_more : (p : ℕ → Bool) (n : ℕ) → p n ≡ true → length (filter p (range_with_len 0 (n + 1))) ≡ length (filter p (range_with_len 0 n)) + 1
one_kept_more p n e = ap length (kept_yes p n e) ∙ length_push (filter p (range_with_len 0 n)) n

-- ---- what is written at the first places, and what stands at the others

pub record Filled (f before : ℕ → ℤ) (n : ℕ) (xs : List ℤ) : Type 0 where
  pub done : (k : ℕ) → k < n → at xs k ≡ f k
  pub left : (k : ℕ) → n ≤ k → at xs k ≡ before k

pub filled_more : (f before : ℕ → ℤ) (xs : List ℤ) (n : ℕ) (v : ℤ) → n < length xs → v ≡ f n → Filled f before n xs → Filled f before (n + 1) (set xs n v)
filled_more f before xs n v l e h = record {
  done = rw e (fill_by_more f xs n (pos 0) l h.done);
  left = λ k m. let ne : k ≢ n = omega arith in rw get_or-set_other (h.left k (omega arith));
}

-- nothing is written where that changes nothing
pub filled_same : (f before : ℕ → ℤ) (xs : List ℤ) (n : ℕ) → f n ≡ before n → Filled f before n xs → Filled f before (n + 1) xs
filled_same f before xs n e h = record { done = below_more _ _ h.done (h.left n (omega arith) ∙ sym e); left = λ k m. h.left k (omega arith) }
