use Rattle.std.proofs.Common.{◌≡◌, false, length, Ok, Err, sym, refl, ap, ◌∙◌, arith, rules}
use Rattle.std.proofs.lemmas.Result.{err_from_is_err_and}
use Rattle.std.proofs.lemmas.Bool.Decides.{nat_tests}
use Rattle.inputs.specs.Calls.{bad_hour}
use Rattle.inputs.proofs.Refusals.{found, not_found}
use Rattle.inputs.proofs.Quantities.{quantity_set, no_other_seller, no_other_buyer}
use Rattle.inputs.proofs.tables.Tables.set_trade.Goals as goal

pub returns-in_err-buyer-clause-outcome : goal.returns-in_err-buyer-clause-outcome
returns-in_err-buyer-clause-outcome c =
    let e = err_from_is_err_and c.from_residual-in_err-buyer.result c.from_residual-in_err-buyer.ensures.1 in
    let seller = found _ _ _ (sym c.in_ok-seller.ensures.value) in
    let buyer = not_found _ _ _ (sym c.in_err-buyer.ensures.value) in
    let good : bad_hour c.args.hour ≡ false = grind (arith, nat_tests, c.in_ok-hour.ensures) in
    rw (good, seller, buyer.0) (e.1 ∙ ap Err (e.2 ∙ buyer.1), refl)

pub invariant_of-self-2 : goal.invariant_of-self-2
invariant_of-self-2 c =
    let t = c.args.self.now in
    let n = length t.members in
    let ok : c.set.result ≡ Ok tt = search rules in
    let set = (rw ok at c.set.ensures).1 in
    record {
      few_members = t.few_members;
      few_resources = t.few_resources;
      enrolled = t.enrolled;
      registered = t.registered;
      owners = t.owners;
      sums = t.sums;
      sellers = no_other_seller n _ _ _ _ set (search rules) t.sellers;
      buyers = no_other_buyer n _ _ _ _ set (search rules) t.buyers;
    }

pub returns-clause-quantity : goal.returns-clause-quantity
returns-clause-quantity c = λ _. quantity_set _ _ _ _ _ _ (search rules)
