-- The laws of a settled hour hold under every rule.
use Rattle.settlement.specs.Sums.{Meaning}
use Rattle.settlement.specs.Laws.{Lawful, SettlesEvery}
use Rattle.settlement.proofs.Acceptance.{none_refused}
use Rattle.settlement.proofs.Balances.{balanced}
use Rattle.settlement.proofs.Obligations.{charges_close}

pub settles : (t : Meaning) → Lawful t → SettlesEvery t
settles t lawful d k x q b ok =
    let a = none_refused d k x q b t lawful ok in
    record { none_refused = a; balanced = balanced t d k x q lawful a b.day.owners; charges_close = charges_close t d k x q lawful a }
