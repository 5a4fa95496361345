use Rattle.std.proofs.Common.{◌≡◌, rules}
use Rattle.std.specs.Result.{result_map_both}
use Rattle.inputs.specs.declared.call.Answer.TheVariants.{Place, Cleared}
use Rattle.inputs.proofs.Refusals.{wrapped, identity}
use Rattle.inputs.proofs.tables.Tables.apply.Goals as goal

pub returns-in-Register : goal.returns-in-Register
returns-in-Register c =
    let is : c.map-in-Register.result ≡ result_map_both Place (λ e. e) c.register.result = search rules in
    let o = wrapped Place _ _ _ _ _ _ _ is c.register.ensures in
    rw c.in-Register.is (record { outcome = o; refused = identity _ _ _ _ _ _ o })

pub returns-in-SetLoad : goal.returns-in-SetLoad
returns-in-SetLoad c =
    let is : c.map-in-SetLoad.result ≡ result_map_both Cleared (λ e. e) c.set_load.result = search rules in
    let o = wrapped Cleared _ _ _ _ _ _ _ is c.set_load.ensures in
    rw c.in-SetLoad.is (record { outcome = o; refused = identity _ _ _ _ _ _ o })

pub returns-in-Assign : goal.returns-in-Assign
returns-in-Assign c =
    let is : c.map-in-Assign.result ≡ result_map_both Cleared (λ e. e) c.assign.result = search rules in
    let o = wrapped Cleared _ _ _ _ _ _ _ is c.assign.ensures in
    rw c.in-Assign.is (record { outcome = o; refused = identity _ _ _ _ _ _ o })

pub returns-in-SetTrade : goal.returns-in-SetTrade
returns-in-SetTrade c =
    let is : c.map-in-SetTrade.result ≡ result_map_both Cleared (λ e. e) c.set_trade.result = search rules in
    let o = wrapped Cleared _ _ _ _ _ _ _ is c.set_trade.ensures.outcome in
    rw c.in-SetTrade.is (record { outcome = o; refused = identity _ _ _ _ _ _ o })

pub returns-in-Happen : goal.returns-in-Happen
returns-in-Happen c =
    let is : c.map-in-Happen.result ≡ result_map_both Cleared (λ e. e) c.happen.result = search rules in
    let o = wrapped Cleared _ _ _ _ _ _ _ is c.happen.ensures in
    rw c.in-Happen.is (record { outcome = o; refused = identity _ _ _ _ _ _ o })
