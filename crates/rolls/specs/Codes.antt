-- The codes of members and resources.
use Rattle.std.specs.Prelude.{ℕ, ◌-◌, Bool, not, ◌&&◌, ◌||◌, List, ◌++◌, length, replicate, ◌==◌, nat_le}
use Rattle.std.specs.List.{list_all, take_while}
use Rattle.rolls.specs.declared.code.Code.{Code}

-- a capital letter or a digit
abbrev pub is_sign : ℕ → Bool
is_sign b = (nat_le 65 b && nat_le b 90) || (nat_le 48 b && nat_le b 57)

-- 1 to 6 of them
abbrev pub good : List ℕ → Bool
good bs = nat_le 1 (length bs) && (nat_le (length bs) 6 && list_all is_sign bs)

-- the code that a good text spells: its signs, and zeros after them
abbrev pub code_of : List ℕ → Code
code_of bs = record { signs = bs ++ replicate (6 - length bs) 0 }

-- the text that a code spells: what stands before the first zero
abbrev pub text_of : Code → List ℕ
text_of c = take_while (λ b. not (b == 0)) c.signs
