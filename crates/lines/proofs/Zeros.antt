-- Whether all weights are zero, as the library spells it.
use Rattle.std.proofs.Common.{◌≡◌, ◌&&◌, Bool, List, [], ◌∷◌, ℤ, refl, ap}
use Rattle.std.specs.List.{list_all}
use Rattle.settlement.specs.Sums.{is_zero, all_zero}

pub list_all_zero : (xs : List ℤ) → list_all is_zero xs ≡ all_zero xs
list_all_zero [] = refl
list_all_zero (x ∷ xs) = ap (λ (b : Bool). is_zero x && b) (list_all_zero xs)
