-- What holds of every cell of a table.
use Rattle.std.proofs.Common.{ℕ, ◌<◌, List, length, get_or, set, replicate, ⊎_elim}
use Rattle.std.proofs.lemmas.Bool.{cases_eq}
use Rattle.std.proofs.lemmas.List.{get_or-replicate, get_or-set_same, get_or-set_other}

module _ {X : Type 0} (P : X → Type 0) where
  -- all cells alike
  pub of_alike : (n : ℕ) (v d : X) → P v → (i : ℕ) → i < n → P (get_or (replicate n v) i d)
  of_alike n v d p i l = rw (get_or-replicate n i v d l) p

  -- one cell set, to what it may hold where it stands
  pub of_set : (n : ℕ) (xs : List X) (j : ℕ) (v d : X) → j < length xs → (j < n → P v) → ((i : ℕ) → i < n → P (get_or xs i d)) → (i : ℕ) → i < n → P (get_or (set xs j v) i d)
  of_set n xs j v d lj p h i l =
      ⊎_elim (λ e. rw e (rw (get_or-set_same xs j v d lj) (p (rw e at l)))) (λ e. rw (get_or-set_other xs j i v d e) (h i l)) (cases_eq i j)
