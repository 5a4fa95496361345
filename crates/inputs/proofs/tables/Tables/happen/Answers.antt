use Rattle.std.proofs.Common.{Err, ap, ◌∙◌}
use Rattle.std.proofs.lemmas.Result.{err_from_is_err_and}
use Rattle.events.specs.DayEvents.{DayEvents}
use Rattle.inputs.specs.States.{state_of}
use Rattle.inputs.specs.Calls.{with_events}
use Rattle.inputs.proofs.Refusals.{refused}
use Rattle.inputs.proofs.tables.Tables.happen.Goals as goal

pub returns-in_err-decide : goal.returns-in_err-decide
returns-in_err-decide c =
    let e = err_from_is_err_and c.from_residual.result c.from_residual.ensures.1 in
    let s = state_of c.args.self.now in
    refused _ _ _ _ _ _ s _ _ _ _ c.in_err-decide.ensures (λ q. ap (λ (d : DayEvents). with_events s d) q) (e.1 ∙ ap Err e.2)
