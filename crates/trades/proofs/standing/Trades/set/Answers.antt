use Rattle.std.proofs.Common.{◌≡◌, ℕ, Some, None, Ok, Err, Option, length, sym, refl, ap, ◌∙◌, rules, arith}
use Rattle.std.proofs.lemmas.List.{length-set}
use Rattle.rolls.proofs.Pushes.{pushed_few}
use Rattle.std.specs.Option.{ok_or}
use Rattle.std.proofs.lemmas.Result.{err_from_is_err_and}
use Rattle.trades.proofs.Moves.{full, unchanged, removed, replaced, pushed, push_keeps}
use Rattle.trades.proofs.Wholes.{same_trades}
use Rattle.trades.proofs.standing.Trades.set.Goals as goal

some_from_ok : {X E : Type 0} (o : Option X) (e : E) (x : X) → ok_or o e ≡ Ok x → o ≡ Some x
some_from_ok None e x h = let z : ◌≡◌ {A = ℕ} 0 1 = cc in absurd (omega arith)
some_from_ok (Some y) e x h = cc

none_from_err : {X E : Type 0} (o : Option X) (e f : E) → ok_or o e ≡ Err f → o ≡ None
none_from_err None e f h = refl
none_from_err (Some y) e f h = let z : ◌≡◌ {A = ℕ} 0 1 = cc in absurd (omega arith)

pub invariant_of-self-in-Some-true : goal.invariant_of-self-in-Some-true
invariant_of-self-in-Some-true c =
    let kept = (replaced c.args.self.now c.args.key c.args.kwh c.requires.ranged c.requires.limited c.in-Some-true.is-1 c.put.new.self c.in-Some-true.place (sym c.in-Some-true.ensures.value) c.put.ensures).kept in
    record { few = omega (arith, c.args.self.now.few, ap length c.put.ensures, length-set c.args.self.now.places c.in-Some-true.place (record { key = c.args.key; kwh = c.args.kwh })); apart = kept.0; sound = kept.1 }

pub returns-in-Some-true : goal.returns-in-Some-true
returns-in-Some-true c =
    (replaced c.args.self.now c.args.key c.args.kwh c.requires.ranged c.requires.limited c.in-Some-true.is-1 c.put.new.self c.in-Some-true.place (sym c.in-Some-true.ensures.value) c.put.ensures).said

pub invariant_of-self-in-Some-false : goal.invariant_of-self-in-Some-false
invariant_of-self-in-Some-false c =
    let kept = (removed c.args.self.now c.args.key c.args.kwh c.remove.new.self c.in-Some-false.place (sym c.in-Some-false.ensures.value) c.in-Some-false.is-1 c.remove.ensures.sums).kept in
    record { few = omega (arith, c.args.self.now.few, c.remove.ensures.shorter); apart = kept.0; sound = kept.1 }

pub returns-in-Some-false : goal.returns-in-Some-false
returns-in-Some-false c =
    (removed c.args.self.now c.args.key c.args.kwh c.remove.new.self c.in-Some-false.place (sym c.in-Some-false.ensures.value) c.in-Some-false.is-1 c.remove.ensures.sums).said

pub invariant_of-self : goal.invariant_of-self
invariant_of-self c =
    let kept = push_keeps c.args.self.now c.args.key c.args.kwh c.requires.ranged c.requires.limited c.in-None-true.is-1 (sym c.place_of.ensures.value ∙ c.in-None-true.is-0) c.push.new.self c.push.result c.push.ensures in
    record { few = pushed_few 64 c.push.result c.args.self.now.places c.push.new.self _ c.push.ensures c.args.self.now.few; apart = kept.0; sound = kept.1 }

pub returns-in_ok-ok_or-in-None-true : goal.returns-in_ok-ok_or-in-None-true
returns-in_ok-ok_or-in-None-true c =
    let i = c.in_ok-ok_or-in-None-true.field-0 in
    let o = some_from_ok c.push.result _ i (sym c.ok_or.ensures.value ∙ c.in_ok-ok_or-in-None-true.was) in
    (pushed c.args.self.now c.args.key c.args.kwh c.requires.ranged c.requires.limited c.in-None-true.is-1 (sym c.place_of.ensures.value ∙ c.in-None-true.is-0) c.push.new.self i (rw o at c.push.ensures)).said

pub returns-in_err-ok_or-in-None-true : goal.returns-in_err-ok_or-in-None-true
returns-in_err-ok_or-in-None-true c =
    let o = none_from_err c.push.result _ c.in_err-ok_or-in-None-true.field-0.0 (sym c.ok_or.ensures.value ∙ c.in_err-ok_or-in-None-true.was) in
    let h = rw o at c.push.ensures in
    let r = err_from_is_err_and c.from_residual.result c.from_residual.ensures.1 in
    rw r.1 (search (rules, full), same_trades _ c.args.self.now h.1)

pub returns-in-None-false : goal.returns-in-None-false
returns-in-None-false c =
    (unchanged c.args.self.now c.args.key c.args.kwh (sym c.place_of.ensures.value ∙ c.in-None-false.is-0) c.in-None-false.is-1).said
