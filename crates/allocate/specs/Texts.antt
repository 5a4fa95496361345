-- What the program writes.
use Rattle.std.specs.Prelude.{ℕ, List, [], ◌∷◌, ◌++◌, ℤ, codes, decimal}
use Rattle.std.specs.List.{flat_map}
use Rattle.std.specs.Fmt.{signed_decimal}
use Rattle.allocation.specs.Refusals.{number}
use Rattle.allocate.specs.Answers.{Reply, shares, refusal, no_request}

-- a comma, byte 44, and a number
abbrev pub next_number : ℤ → List ℕ
next_number x = 44 ∷ signed_decimal x

-- numbers separated by commas
abbrev pub list_text : List ℤ → List ℕ
list_text [] = []
list_text (x ∷ xs) = signed_decimal x ++ flat_map next_number xs

-- the answer without its line number
abbrev pub reply_text : Reply → List ℕ
reply_text (shares by_cumulative by_remainder) = codes "cumulative " ++ (list_text by_cumulative ++ (codes " remainder " ++ list_text by_remainder))
reply_text (refusal reason) = codes "refused " ++ decimal (number reason)
reply_text no_request = codes "not a request: write an amount and its weights as whole numbers, separated by commas"
