-- Refusals in their order, and what a call answers and leaves.
use Rattle.std.specs.Prelude.{◌≡◌, Bool, cond, Some, None, Ok, Err, Option, Result}
use Rattle.events.specs.declared.fault.BookFault.{BookFault}

-- no refusal applies
abbrev pub accepted : Option BookFault
accepted = None

-- this refusal if it applies, or else the next
abbrev pub refuse_if : Bool → BookFault → Option BookFault → Option BookFault
refuse_if applies fault next = cond applies (Some fault) next

-- a call that no refusal applies to answers so and leaves what is new; a refused call leaves what was
abbrev pub Outcome : {A S : Type 0} → Option BookFault → A → S → S → Result A BookFault → S → Type 0
Outcome None answer old new r left = (r ≡ Ok answer) × (left ≡ new)
Outcome (Some fault) answer old new r left = (r ≡ Err fault) × (left ≡ old)
