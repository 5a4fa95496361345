use Rattle.std.proofs.Common.{rules}
use Rattle.std.proofs.lemmas.List.{length-take-le}
use Rattle.std.proofs.lemmas.List.Sums.{prefix_len-le-length}
use Rattle.rolls.proofs.code.Code.text.Goals as goal

pub returns : goal.returns
returns c = search (rules, length-take-le, prefix_len-le-length)
