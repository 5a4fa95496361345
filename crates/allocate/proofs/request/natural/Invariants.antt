use Rattle.std.proofs.Common.{◌≡◌, ◌^◌, ◌<◌, drop}
use Rattle.allocate.specs.Requests.{read_on}
use Rattle.allocate.proofs.request.natural.Given as goal

abbrev pub invariant-loop-b : goal.invariant-loop-b
invariant-loop-b l = (read_on l.value (drop l.b-index l.text) ≡ read_on 0 l.text) × (l.value < 10 ^ l.b-index)
