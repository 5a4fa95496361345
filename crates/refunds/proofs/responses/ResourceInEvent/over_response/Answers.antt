use Rattle.std.proofs.Common.{◌≡◌, cond, ℤ, pos, ◌-ℤ◌, nat_abs, arith}
use Rattle.std.specs.Int.{int_max}
use Rattle.std.proofs.lemmas.Int.{ints, clamps}
use Rattle.std.proofs.lemmas.Bool.{eq-eqb, ne_eqb}
use Rattle.settlement.specs.Sums.{is_zero}
use Rattle.settlement.specs.Shortfalls.{over_response, response, held}
use Rattle.settlement.specs.Figures.{the_day}
use Rattle.refunds.proofs.responses.ResourceInEvent.over_response.Goals as goal

none : (h r : ℤ) → nat_abs h ≡ 0 → pos 0 ≡ cond (is_zero h) (pos 0) (int_max (r -ℤ h) (pos 0))
none h r e = rw (eq-eqb (nat_abs h) 0 e)

some : (h r v : ℤ) → (nat_abs h ≡ 0 → ⊥) → v ≡ int_max (r -ℤ h) (pos 0) → v ≡ cond (is_zero h) (pos 0) (int_max (r -ℤ h) (pos 0))
some h r v n e = rw (ne_eqb (nat_abs h) 0 n) e

pub returns-then-held-eq0-clause-value : goal.returns-then-held-eq0-clause-value
unfolding over_response
returns-then-held-eq0-clause-value c =
    let x = c.args.self.now in
    let d = the_day x.event.tables.now in
    none (held d x.event.event.now x.resource) (response d x.event.event.now x.resource) (omega (arith, ints))

pub returns-clause-value : goal.returns-clause-value
unfolding over_response
returns-clause-value c =
    let x = c.args.self.now in
    let d = the_day x.event.tables.now in
    some (held d x.event.event.now x.resource) (response d x.event.event.now x.resource) _ (λ e. c.if-held-eq0.false (omega (arith, ints))) (omega (arith, ints, clamps))
