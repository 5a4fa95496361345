use Rattle.std.proofs.Common.{arith}
use Rattle.std.proofs.lemmas.List.{drop_all}
use Rattle.std.proofs.lemmas.Bool.Decides.{nat_tests}
use Rattle.allocate.proofs.Digits.{read_at, room}
use Rattle.allocate.proofs.request.natural.Goals as goal

pub returns-then-not-is_ascii_digit : goal.returns-then-not-is_ascii_digit
returns-then-not-is_ascii_digit c = grind (arith, nat_tests, read_at)

pub overflow_mul-value : goal.overflow_mul-value
overflow_mul-value c = let r = room _ _ _ c.loop-b-test.true c.loop-b.invariant.1 (omega arith) c.if-not-is_ascii_digit.ensures.value in omega arith

pub overflow_add-value : goal.overflow_add-value
overflow_add-value c = let r = room _ _ _ c.loop-b-test.true c.loop-b.invariant.1 (omega arith) c.if-not-is_ascii_digit.ensures.value in omega arith

pub loop-b-preserved : goal.loop-b-preserved
loop-b-preserved c =
    let r = room _ _ _ c.loop-b-test.true c.loop-b.invariant.1 (omega arith) c.if-not-is_ascii_digit.ensures.value in
    (grind (arith, nat_tests, read_at), omega (arith, r.0))

pub returns : goal.returns
returns c = grind (arith, nat_tests, drop_all)
