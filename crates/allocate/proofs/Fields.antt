-- The numbers of fields, field by field.
use Rattle.std.proofs.Common.{◌≡◌, ℕ, zero, suc, ◌<◌, List, [], ◌∷◌, ◌++◌, length, get_or, ℤ, Some, None, arith}
use Rattle.allocate.specs.Requests.{number_of, every_number}

pub every_number-push : (fs : List (List ℕ)) (f : List ℕ) (xs : List ℤ) (x : ℤ) → every_number fs ≡ Some xs → number_of f ≡ Some x → every_number (fs ++ f ∷ []) ≡ Some (xs ++ x ∷ [])
every_number-push [] f xs x before here = grind arith
every_number-push (g ∷ fs) f xs x before here =
    let h = every_number-push fs f in
    grind arith

-- one field that is no number
pub every_number-none : (fs : List (List ℕ)) (i : ℕ) (f : List ℕ) → i < length fs → f ≡ get_or fs i f → number_of f ≡ None → every_number fs ≡ None
every_number-none [] i f within at none = grind arith
every_number-none (g ∷ fs) zero f within at none = grind arith
every_number-none (g ∷ fs) (suc i) f within at none =
    let h = every_number-none fs i f in
    grind arith
