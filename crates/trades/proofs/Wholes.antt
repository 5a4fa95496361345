-- Standing trades in the same places are the same.
use Rattle.std.proofs.Common.{◌≡◌, ◌≤◌, length}
use mathlib.Core.HLevel.{is_prop→PathP}
use denote.Struct.Props.{props}
use Rattle.rolls.specs.Places.{Apart}
use Rattle.trades.specs.declared.standing.Trades.{Trades}
use Rattle.trades.specs.Keys.{same_key}
use Rattle.trades.specs.Trades.{unsound}

pub same_trades : (a b : Trades) → a.places ≡ b.places → a ≡ b
same_trades a b e = λ i. record {
  places = e i;
  few = is_prop→PathP (λ j. length (e j) ≤ 64) (λ j. hlevel props) a.few b.few i;
  apart = is_prop→PathP (λ j. Apart (λ t k. same_key t.key k) (e j)) (λ j. hlevel props) a.apart b.apart i;
  sound = is_prop→PathP (λ j. unsound (e j) ≡ 0) (λ j. hlevel props) a.sound b.sound i;
}
