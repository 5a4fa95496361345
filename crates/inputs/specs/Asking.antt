-- What the questions about the inputs answer.
use Rattle.std.specs.Prelude.{◌≡◌, ℕ, ◌-◌, ◌<◌, Bool, true, false, cond, List, length, Some, None, Ok, Err, Option, Result, slice_index_or}
use Rattle.rolls.specs.declared.code.Code.{Code}
use Rattle.rolls.specs.Codes.{good, code_of}
use Rattle.events.specs.declared.fault.BookFault.{BookFault}
use Rattle.events.specs.declared.fault.BookFault.TheVariants.{NoSuchMember, NoSuchResource, BadHour}
use Rattle.hours.specs.declared.assignment.Assignment.{Assignment}
use Rattle.hours.specs.Hours.{hour_at, load_at}
use Rattle.hours.specs.Assignments.{assignment_at}
use Rattle.inputs.specs.States.{State}
use Rattle.inputs.specs.Calls.{bad_hour, member, resource}

-- what is found, or the refusal
abbrev pub found_or : {A : Type 0} → Option A → BookFault → Result A BookFault
found_or None fault = Err fault
found_or (Some x) fault = Ok x

-- whoever has the code that a text spells is the one that is found
abbrev pub OnlyOne : {X : Type 0} → (X → Code) → List X → List ℕ → Result ℕ BookFault → Type 0
OnlyOne {X} code xs text r = (j : ℕ) (d : X) → j < length xs → good text ≡ true → code (slice_index_or xs j d) ≡ code_of text → r ≡ Ok j

-- an answer about what was found
abbrev pub of_found : {A B : Type 0} → Option A → BookFault → (A → Result B BookFault) → Result B BookFault
of_found None fault f = Err fault
of_found (Some x) fault f = f x

-- an answer about an hour, by its place
abbrev pub of_hour : {A : Type 0} → ℕ → (ℕ → Result A BookFault) → Result A BookFault
of_hour hour f = cond (bad_hour hour) (Err BadHour) (f (hour - 1))

module _ (s : State) where
  abbrev pub prices_of : ℕ → Result (ℕ × ℕ) BookFault
  prices_of hour = of_hour hour (λ h. Ok ((hour_at s.inputs.hours h).synchronized_price, (hour_at s.inputs.hours h).non_synchronized_price))

  abbrev pub load_of : ℕ → List ℕ → Result ℕ BookFault
  load_of hour name = of_hour hour (λ h. of_found (member s name) NoSuchMember (λ m. Ok (load_at (hour_at s.inputs.hours h) m)))

  abbrev pub assignment_of : ℕ → List ℕ → Result (Assignment ℕ) BookFault
  assignment_of hour name = of_hour hour (λ h. of_found (resource s name) NoSuchResource (λ r. Ok (assignment_at s.inputs.assignments h r)))

  abbrev pub quantity_of : ℕ → List ℕ → List ℕ → Result ℕ BookFault
  quantity_of hour seller buyer =
      of_hour hour (λ h. of_found (member s seller) NoSuchMember (λ i. of_found (member s buyer) NoSuchMember
      (λ j. Ok (s.inputs.traded (record { hour = h; seller = i; buyer = j })))))

  abbrev pub is_settled : ℕ → Result Bool BookFault
  is_settled hour = of_hour hour (λ h. Ok (slice_index_or s.settled h false))
