-- The numbers of the book's refusals.
use Rattle.std.specs.Prelude.{ℕ}
use Rattle.events.specs.declared.fault.BookFault.{BookFault}
use Rattle.events.specs.declared.fault.BookFault.TheVariants.{BadCode, CodeTaken, RollFull, NoSuchMember, NoSuchResource, BadHour, TooMuchEnergy, TooMuchMoney, SameMember, TradesFull, EventRuns, NoEventRuns, BadMinute, EventsFull, BadSample, NobodyToCharge}

abbrev pub number : BookFault → ℕ
number BadCode = 1
number CodeTaken = 2
number RollFull = 3
number NoSuchMember = 4
number NoSuchResource = 5
number BadHour = 6
number TooMuchEnergy = 7
number TooMuchMoney = 8
number SameMember = 9
number TradesFull = 10
number EventRuns = 11
number NoEventRuns = 12
number BadMinute = 13
number EventsFull = 14
number BadSample = 15
number NobodyToCharge = 16
