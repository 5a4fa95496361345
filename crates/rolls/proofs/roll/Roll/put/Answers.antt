use Rattle.rolls.proofs.Fronts.{take_set_any}
use Rattle.rolls.proofs.roll.Roll.put.Goals as goal

pub returns-then-place-self : goal.returns-then-place-self
returns-then-place-self g c = rw (← c.self.view_is) (take_set_any _ _ _ _)
