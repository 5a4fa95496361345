-- What a push into a roll keeps.
use Rattle.std.proofs.Common.{ap, ◌∙◌, ◌≡◌, ℕ, ◌<◌, ◌≤◌, List, [], ◌∷◌, ◌++◌, length, get_or, Some, None, Option, ⊎_elim, arith, MatchOption}
use Rattle.std.proofs.lemmas.Bool.{cases_lt}
use Rattle.std.proofs.lemmas.List.{length-append, get_or_append_left, get_or_at}

-- what a push answers and leaves
abbrev pub Pushed : {X : Type 0} → ℕ → Option ℕ → List X → List X → X → Type 0
Pushed n o a b x = MatchOption o ((length a ≡ n) × (b ≡ a)) (λ i. (i ≡ length a) × (i < n) × (b ≡ a ++ x ∷ []))

module _ {X : Type 0} (n : ℕ) (o : Option ℕ) (a b : List X) (x : X) (p : Pushed n o a b x) where
  -- what holds of the old elements, with the new one and without it, holds of those that stand
  pub pushed_by : (P : List X → Type 0) → P a → P (a ++ x ∷ []) → P b
  pushed_by P old new = go o p
    where
      go : (o : Option ℕ) → Pushed n o a b x → P b
      go None h = rw h.1 old
      go (Some i) h = rw h.2 new

  -- none is lost
  pub pushed_grows : length a ≤ length b
  pushed_grows = pushed_by (λ xs. length a ≤ length xs) (omega arith) (let e = length-append a (x ∷ []) in omega arith)

  -- and there is a place for each
  pub pushed_few : length a ≤ n → length b ≤ n
  pushed_few few = go o p
    where
      go : (o : Option ℕ) → Pushed n o a b x → length b ≤ n
      go None h = rw h.1 few
      go (Some i) h = let e = ap length h.2 ∙ length-append a (x ∷ []) in let l = h.0 in let m = h.1 in omega arith

  -- what holds of each old element and of the new one holds of each
  pub pushed_each : (P : X → Type 0) (d : X) → P x → ((k : ℕ) → k < length a → P (get_or a k d)) → (k : ℕ) → k < length b → P (get_or b k d)
  pushed_each P d new old = pushed_by (λ xs. (k : ℕ) → k < length xs → P (get_or xs k d)) old more
    where
      more : (k : ℕ) → k < length (a ++ x ∷ []) → P (get_or (a ++ x ∷ []) k d)
      more k l =
          ⊎_elim (λ m. rw (get_or_append_left a (x ∷ []) d k m) (old k m))
          (λ m. let e = length-append a (x ∷ []) in rw (get_or_at a x [] d k (omega arith)) new)
          (cases_lt k (length a))
