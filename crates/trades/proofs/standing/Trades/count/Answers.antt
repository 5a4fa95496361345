use Rattle.std.proofs.Common.{rules}
use Rattle.trades.proofs.Counts.{standing_is}
use Rattle.trades.proofs.standing.Trades.count.Goals as goal

pub returns : goal.returns
returns c = search (rules, standing_is)
