use Rattle.std.proofs.Common.{◌≡◌, ℕ, Bool, true, false, cond, length, pos, sym, ap, ◌∙◌, arith, w64, SFits, rules}
use Rattle.std.proofs.lemmas.Int.{to_z-of_z}
use Rattle.std.proofs.lemmas.Bool.{eq-eqb, ne_eqb}
use Rattle.settlement.specs.Sums.{at}
use Rattle.settlement.specs.Days.{owns}
use Rattle.settlement.specs.Figures.{the_day}
use Rattle.settlement.proofs.Bounds.{kept_at}
use Rattle.settlement.proofs.Steps.{kept_no}
use Rattle.refunds.specs.Rows.{own_share}
use Rattle.refunds.proofs.Places.{filled_more, filled_same, one_kept_more}
use Rattle.refunds.proofs.owners.scatter.Goals as goal
use Rattle.refunds.proofs.owners.scatter.Goals.{then-resource-owner, else-resource-owner}

pub bounds-shares-next : goal.bounds-shares-next
bounds-shares-next c =
    let p : ℕ → Bool = owns (the_day c.args.owner.now.tables.now) c.args.owner.now.member in
    let n = c.loop-place.place in
    let k = kept_at p (λ _. pos 0) 0 n (length (the_day c.args.owner.now.tables.now).roll) (search rules) (search rules) in
    omega (arith, k.1, c.requires)

pub loop-place-preserved : goal.loop-place-preserved
loop-place-preserved c =
    let d = the_day c.args.owner.now.tables.now in
    let m = c.args.owner.now.member in
    let n = c.loop-place.place in
    let p : ℕ → Bool = owns d m in
    let before = at c.args.out.now in
    let f = λ (r : ℕ). cond (p r) (own_share d m c.args.shares.now r) (before r) in
    elim c.if-resource-owner.branch [
      | then-resource-owner w ↦
          let small : SFits w64 (at c.args.shares.now c.loop-place.next) = search rules in
          let yes : p n ≡ true = eq-eqb _ m (search rules) in
          let value : at c.args.shares.now c.loop-place.next ≡ f n = ap (at c.args.shares.now) c.loop-place.invariant.0 ∙ sym (ap (λ (b : Bool). cond b (own_share d m c.args.shares.now n) (before n)) yes) in
          let long : length c.loop-place.out ≡ 16 = search rules in
          let k = one_kept_more p n yes in
          (omega (arith, w.next-is), omega (arith, w.next-is), rw w.out-is (filled_more f before c.loop-place.out n _ (omega arith) (to_z-of_z w64 _ small ∙ value) c.loop-place.invariant.2))
      | else-resource-owner w ↦
          let no : p n ≡ false = ne_eqb _ m (search rules) in
          let value : f n ≡ before n = ap (λ (b : Bool). cond b (own_share d m c.args.shares.now n) (before n)) no in
          (w.next-is ∙ c.loop-place.invariant.0 ∙ sym (ap length (kept_no p n no)), omega (arith, w.next-is), rw w.out-is (filled_same f before c.loop-place.out n value c.loop-place.invariant.2))
    ]
