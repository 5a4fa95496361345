use Rattle.std.proofs.Common.{ap, rules}
use Rattle.trades.specs.Trades.{Traded}
use Rattle.inputs.proofs.tables.Tables.open.Goals as goal

pub invariant_of-result : goal.invariant_of-result
invariant_of-result c = record {
  few_members = search rules;
  few_resources = search rules;
  enrolled = search rules;
  registered = search rules;
  owners = search rules;
  sums = search rules;
  sellers = λ k _. ap (λ (q : Traded). q k) c.none.ensures;
  buyers = λ k _. ap (λ (q : Traded). q k) c.none.ensures;
}
