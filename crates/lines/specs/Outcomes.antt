-- What settling an hour answers: its lines and total, or that nobody is there to charge.
use Rattle.std.specs.Prelude.{◌≡◌, ℕ, true, false, Ok, Err, Result}
use Rattle.events.specs.declared.fault.BookFault.{BookFault}
use Rattle.events.specs.declared.fault.BookFault.TheVariants.{NobodyToCharge}
use Rattle.inputs.specs.Inputs.{Inputs}
use Rattle.settlement.specs.Sums.{Meaning}
use Rattle.settlement.specs.Settlement.{line_at, defined_lines, nobody_to_charge, defined_total}
use Rattle.lines.specs.declared.hour.SettledHour.{SettledHour}

abbrev pub SettledAs : Meaning → Inputs → ℕ → Result SettledHour BookFault → Type 0
SettledAs t i k (Ok s) = (nobody_to_charge t i k ≡ false) × (((m : ℕ) → line_at s.lines m ≡ line_at (defined_lines t i k) m) × (s.total ≡ defined_total t i k))
SettledAs t i k (Err e) = (nobody_to_charge t i k ≡ true) × (e ≡ NobodyToCharge)
