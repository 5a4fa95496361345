use Rattle.std.proofs.Common.{rules}
use Rattle.events.specs.declared.fault.BookFault.TheVariants.{NoSuchResource}
use Rattle.inputs.proofs.Finds.{only_one}
use Rattle.inputs.proofs.tables.Tables.resource_place.Goals as goal

pub returns-in_default-clause-only : goal.returns-in_default-clause-only
returns-in_default-clause-only c =
    let t = c.args.self.now in
    only_one (λ x. x.code) t.resources t.registered c.args.code.now NoSuchResource _ (search rules)

pub returns-clause-only : goal.returns-clause-only
returns-clause-only c =
    let t = c.args.self.now in
    only_one (λ x. x.code) t.resources t.registered c.args.code.now NoSuchResource _ (search rules)
