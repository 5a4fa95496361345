use Rattle.std.proofs.Common.{◌≡◌, ◌≤◌, length, refl, lit≤}
use Rattle.hours.specs.Hours.{no_hour, load_at}
use Rattle.hours.proofs.Cells.{of_alike}
use Rattle.hours.proofs.hour.HourTable.blank.Goals as goal

pub invariant_of-result : goal.invariant_of-result
invariant_of-result c = record {
  rows = of_alike (λ x. length x.loads ≡ 16) 24 _ no_hour refl;
  synchronized = of_alike (λ x. x.synchronized_price ≤ 400000) 24 _ no_hour (lit≤ tt);
  others = of_alike (λ x. x.non_synchronized_price ≤ 400000) 24 _ no_hour (lit≤ tt);
  loads = λ h m l k. of_alike (λ x. load_at x m ≤ 100000000) 24 _ no_hour (of_alike (λ n. n ≤ 100000000) 16 0 0 (lit≤ tt) m k) h l;
}
