use Rattle.std.proofs.Common.{◌≡◌, ◌-◌, true, ◌++◌, length, drop, replicate, arith, rules}
use Rattle.std.specs.List.{list_all}
use Rattle.std.proofs.lemmas.Bool.Decides.{nat_tests}
use Rattle.rolls.specs.Codes.{is_sign, good}
use Rattle.rolls.proofs.Padded.{before_zeros, padded}
use Rattle.rolls.proofs.code.Code.new.Goals as goal

pub returns : goal.returns
returns c =
    let t = c.args.text.now in
    let copied : c.copy_from_slice.new.self ≡ t = search rules in
    let all : list_all is_sign t ≡ true = search rules in
    let is : c.copy_from_slice.new.self ++ drop (length t) (replicate 6 0) ≡ t ++ replicate (6 - length t) 0 = rw (copied, padded (length t)) in
    let passed : good t ≡ true = grind (arith, nat_tests) in
    record { value = rw (is, passed); spelled = rw is (before_zeros t (6 - length t) all) }
