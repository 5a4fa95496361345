-- The bound on all that is traded.
use Rattle.std.proofs.Common.{◌≡◌, ◌≤◌, true, List, length, get_or, sum_by, arith}
use Rattle.std.proofs.lemmas.Bool.Decides.{nat_tests}
use Rattle.std.proofs.lemmas.List.Sums.{sum_by-le}
use Rattle.trades.specs.declared.trade.Trade.{Trade}
use Rattle.trades.specs.Trades.{sound, unsound}
use Rattle.trades.proofs.Sums.{all_pass}

sound_le : (t : Trade) → sound t ≡ true → t.kwh ≤ 500000
sound_le t e = grind (arith, nat_tests)

-- 64 trades of at most 500,000 kWh
pub total_le : (ts : List Trade) → unsound ts ≡ 0 → length ts ≤ 64 → sum_by (λ t. t.kwh) ts ≤ 32000000
total_le ts e l = let s = sum_by-le (λ t. t.kwh) 500000 ts (λ k d m. sound_le (get_or ts k d) (all_pass sound ts e k d m)) in omega arith
