-- The text of a request: an amount, then its weights, as whole numbers separated by commas.
use Rattle.std.specs.Prelude.{ℕ, ◌+◌, ◌-◌, ◌*◌, ◌^◌, cond, ◌&&◌, ◌||◌, List, [], ◌∷◌, length, ℤ, pos, neg_ℤ, Some, None, Option, ◌==◌, int_le, int_lt, nat_lt}
use Rattle.std.specs.Option.{option_map, option_flatten}
use Rattle.std.specs.List.{slice_split}
use Rattle.std.specs.Char.{is_ascii_digit}

-- the number that digits write after n; byte 48 is the digit 0
abbrev pub read_on : ℕ → List ℕ → Option ℕ
read_on n [] = Some n
read_on n (c ∷ cs) = cond (is_ascii_digit c) (read_on (n * 10 + (c - 48)) cs) None

-- the number that one to nineteen digits write
abbrev pub natural_of : List ℕ → Option ℕ
natural_of text = cond (length text == 0 || nat_lt 19 (length text)) None (read_on 0 text)

-- a whole number with its sign: a minus, byte 45, is optional
abbrev pub signed_of : List ℕ → Option ℤ
signed_of [] = None
signed_of (c ∷ cs) = cond (c == 45) (option_map (λ n. neg_ℤ (pos n)) (natural_of cs)) (option_map pos (natural_of (c ∷ cs)))

-- z, if it lies from −2^63 to 2^63 − 1
abbrev pub fitting : ℤ → Option ℤ
fitting z = cond (int_le (neg_ℤ (pos (2 ^ 63))) z && int_lt z (pos (2 ^ 63))) (Some z) None

-- the number that a field writes, if it is one and fits
abbrev pub number_of : List ℕ → Option ℤ
number_of text = option_flatten (option_map fitting (signed_of text))

-- the fields of a text, which commas separate; byte 44 is the comma
abbrev pub fields : List ℕ → List (List ℕ)
fields text = slice_split (λ c. c == 44) text

-- a number before others, if there is one and the others are numbers
abbrev pub before : Option ℤ → Option (List ℤ) → Option (List ℤ)
before None others = None
before (Some x) others = option_map (λ xs. x ∷ xs) others

-- the number of each field, if every field is a number
abbrev pub every_number : List (List ℕ) → Option (List ℤ)
every_number [] = Some []
every_number (f ∷ fs) = before (number_of f) (every_number fs)

-- the numbers of a line, if every field is one
abbrev pub numbers_of : List ℕ → Option (List ℤ)
numbers_of line = every_number (fields line)
