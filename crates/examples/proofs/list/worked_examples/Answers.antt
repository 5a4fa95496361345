use Rattle.std.proofs.Common.{rules}
use Rattle.std.proofs.lemmas.List.Elements.{All-cons, All-nil}
use lib.Ieee.{of_bits, le, mul, to_unsigned}
use Rattle.allocation.specs.Rounding.{floor, half_up}
use Rattle.allocation.specs.Cumulative.{figure}
use Rattle.examples.proofs.list.worked_examples.Goals as goal

pub returns : goal.returns
unfolding figure half_up floor of_bits le mul to_unsigned
returns c = search (rules, All-cons, All-nil)
