-- What a push into the closed events keeps.
use Rattle.std.proofs.Common.{ℕ, ◌+◌, ◌≤◌, List, length, Option, arith}
use Rattle.rolls.proofs.Pushes.{Pushed, pushed_few}
use Rattle.events.specs.declared.event.Event.{Event}

-- a push into the closed events keeps within their places
pub few_closed : (o : Option ℕ) (a b : List Event) (e : Event) → length a ≤ 4 → Pushed 4 o a b e → length b + 0 ≤ 4
few_closed o a b e h p = let l = pushed_few 4 o a b e p h in omega arith
