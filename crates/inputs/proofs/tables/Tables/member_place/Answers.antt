use Rattle.std.proofs.Common.{rules}
use Rattle.events.specs.declared.fault.BookFault.TheVariants.{NoSuchMember}
use Rattle.inputs.proofs.Finds.{only_one}
use Rattle.inputs.proofs.tables.Tables.member_place.Goals as goal

pub returns-in_default-clause-only : goal.returns-in_default-clause-only
returns-in_default-clause-only c =
    let t = c.args.self.now in
    only_one (λ m. m) t.members t.enrolled c.args.code.now NoSuchMember _ (search rules)

pub returns-clause-only : goal.returns-clause-only
returns-clause-only c =
    let t = c.args.self.now in
    only_one (λ m. m) t.members t.enrolled c.args.code.now NoSuchMember _ (search rules)
