use Rattle.std.proofs.Common.{◌≡◌, Some, map, vec_items}
use Rattle.allocate.specs.Requests.{every_number}
use Rattle.allocate.proofs.request.numbers.Given as goal

abbrev pub invariant-loop-field : goal.invariant-loop-field
invariant-loop-field l = every_number (map (λ x. x.now) l.yielded) ≡ Some (vec_items l.values)
