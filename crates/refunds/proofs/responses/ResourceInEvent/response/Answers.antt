use Rattle.std.proofs.Common.{rules}
use Rattle.settlement.specs.Shortfalls.{response}
use Rattle.refunds.proofs.responses.ResourceInEvent.response.Goals as goal

pub returns : goal.returns
unfolding response
returns c = search rules
