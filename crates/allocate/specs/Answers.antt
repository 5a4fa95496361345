-- What a line is answered.
use Rattle.std.specs.Prelude.{ℕ, List, [], ◌∷◌, length, ℤ, Some, None, Ok, Err, vec_items, Option, Result}
use Rattle.allocation.specs.declared.refusal.AllocationRefusal.{AllocationRefusal}
use Rattle.allocation.specs.Refusals.{verdict}
use Rattle.allocation.specs.Cumulative.{cumulative}
use Rattle.allocation.specs.Remainder.{remainder}
use Rattle.allocate.specs.declared.answer.Shares.{Shares}
use Rattle.allocate.specs.declared.answer.NoShares.{NoShares}
use Rattle.allocate.specs.declared.answer.NoShares.TheVariants.{Refused, NotARequest}
use Rattle.allocate.specs.Requests.{numbers_of}

-- the shares under cumulative rounding and under largest remainder, or why there are none
pub data Reply : Type 0 where
  shares : List ℤ → List ℤ → Reply
  refusal : AllocationRefusal → Reply
  no_request : Reply

abbrev pub reply_of : Result Shares NoShares → Reply
reply_of (Ok found) = shares (vec_items found.by_cumulative) (vec_items found.by_remainder)
reply_of (Err (Refused reason)) = refusal reason
reply_of (Err NotARequest) = no_request

-- what an amount and its weights are answered, by the verdict on them
abbrev pub by_verdict : ℤ → List ℤ → Result ℤ AllocationRefusal → Reply
by_verdict amount weights (Ok w) = shares (cumulative amount weights) (remainder amount weights)
by_verdict amount weights (Err reason) = refusal reason

abbrev pub reply_to_request : ℤ → List ℤ → Reply
reply_to_request amount weights = by_verdict amount weights (verdict amount weights (length weights))

-- the first number is the amount, and the others are its weights; a line has at least one field
abbrev pub reply_to_numbers : Option (List ℤ) → Reply
reply_to_numbers None = no_request
reply_to_numbers (Some []) = no_request
reply_to_numbers (Some (amount ∷ weights)) = reply_to_request amount weights

abbrev pub reply_to : List ℕ → Reply
reply_to line = reply_to_numbers (numbers_of line)
