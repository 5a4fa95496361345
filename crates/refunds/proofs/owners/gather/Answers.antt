use Rattle.std.proofs.Common.{◌≡◌, ℕ, ◌+◌, ◌<◌, ◌≤◌, Bool, true, false, List, [], ◌∷◌, ◌++◌, map, length, ℤ, Option, Some, None, filter, ap, sym, ◌∙◌, arith, w64, SFits, rules}
use Rattle.std.specs.List.{range_with_len}
use Rattle.std.specs.Option.{MatchOption}
use Rattle.std.proofs.lemmas.Int.{to_z-of_z}
use Rattle.std.proofs.lemmas.Bool.{eq-eqb, ne_eqb}
use Rattle.std.proofs.lemmas.List.{length_push, map_push}
use Rattle.settlement.specs.Sums.{at}
use Rattle.settlement.specs.Days.{owns}
use Rattle.settlement.specs.Figures.{the_day}
use Rattle.settlement.proofs.Steps.{kept_yes, kept_no}
use Rattle.refunds.proofs.owners.gather.Goals as goal
use Rattle.refunds.proofs.owners.gather.Goals.{then-resource-owner, else-resource-owner}

-- with room left, an element is pushed
pushed : (o : Option ℕ) (x : ℤ) (before after : List ℤ) → length before + 1 ≤ 16
    → MatchOption o ((length before ≡ 16) × (after ≡ before)) (λ i. (i ≡ length before) × (i < 16) × (after ≡ before ++ x ∷ [])) → after ≡ before ++ x ∷ []
pushed None x before after l h = absurd (omega arith)
pushed (Some i) x before after l h = h.2

-- one figure more is gathered
gathered : (p : ℕ → Bool) (f : ℕ → ℤ) (n : ℕ) (xs ys : List ℤ) → p n ≡ true → xs ≡ map f (filter p (range_with_len 0 n)) → ys ≡ xs ++ f n ∷ [] → ys ≡ map f (filter p (range_with_len 0 (n + 1)))
gathered p f n xs ys e h i = i ∙ ap (λ (zs : List ℤ). zs ++ f n ∷ []) h ∙ sym (map_push f (filter p (range_with_len 0 n)) n) ∙ sym (ap (map f) (kept_yes p n e))

pub loop-place-preserved : goal.loop-place-preserved
loop-place-preserved c =
    let d = the_day c.args.owner.now.tables.now in
    let m = c.args.owner.now.member in
    let p : ℕ → Bool = owns d m in
    let f = at c.args.figures.now in
    let n = c.loop-place.place in
    elim c.if-resource-owner.branch [
      | then-resource-owner w ↦
          let yes : p n ≡ true = eq-eqb _ m (search rules) in
          let small : SFits w64 (f n) = search rules in
          let more : c.if-resource-owner.own ≡ c.loop-place.own ++ f n ∷ [] = rw w.own-is (pushed w.push.result (f n) c.loop-place.own w.push.new.self (omega (arith, c.resources-resource-items.ensures.few)) (simp to_z-of_z at w.push.ensures)) in
          (omega (arith, ap length more, length_push c.loop-place.own (f n)), gathered p f n c.loop-place.own _ yes c.loop-place.invariant.1 more)
      | else-resource-owner w ↦
          let no : p n ≡ false = ne_eqb _ m (search rules) in
          rw w.own-is (omega arith, c.loop-place.invariant.1 ∙ sym (ap (map f) (kept_no p n no)))
    ]
