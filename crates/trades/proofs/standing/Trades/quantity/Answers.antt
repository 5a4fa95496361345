use Rattle.std.proofs.Common.{rules}
use Rattle.trades.proofs.Moves.{quantity_none, quantity_one}
use Rattle.trades.proofs.standing.Trades.quantity.Goals as goal

pub returns-in_default : goal.returns-in_default
returns-in_default c = search (rules, quantity_none)

pub returns : goal.returns
returns c = search (rules, quantity_one)
