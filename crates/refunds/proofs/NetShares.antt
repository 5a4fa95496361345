-- An owner's net shortfall and its shares, from the figures that the code holds.
use Rattle.std.proofs.Common.{◌≡◌, ℕ, ◌+◌, ◌<◌, ◌≤◌, Bool, cond, List, map, length, ℤ, sym, refl, ap, ◌∙◌, inl, inr, arith}
use Rattle.std.proofs.lemmas.Bool.Decides.{eqb_tells}
use Rattle.events.specs.declared.event.Event.{Event}
use Rattle.settlement.specs.Sums.{at, Meaning, allocated}
use Rattle.settlement.specs.Days.{Day, resource, resources, owned}
use Rattle.settlement.specs.Shortfalls.{shortfall, over_response, net_shortfall, retroactive_shortfalls, retroactive_shortfall}
use Rattle.settlement.specs.Laws.{Allocable, BoundedDay}
use Rattle.settlement.proofs.Steps.{own_same, own_map_same, allocated_at, accepted_at}
use Rattle.settlement.proofs.Refunds.{shortfalls_accepted}
use Rattle.refunds.specs.Rows.{net_of, own_figures, own_share, ScatteredFor}

module _ (d : Day) (e : Event) (short over : List ℤ)
    (shorts : (r : ℕ) → r < length d.roll → at short r ≡ shortfall d e r)
    (overs : (r : ℕ) → r < length d.roll → at over r ≡ over_response d e r) where
  net_is : (m : ℕ) → net_of d m short over ≡ net_shortfall d e m
  unfolding net_shortfall
  net_is m =
      let s = own_same d m (at short) (shortfall d e) shorts in
      let v = own_same d m (at over) (over_response d e) overs in
      cc

  figures_are : (m : ℕ) → own_figures d m short ≡ map (shortfall d e) (owned d m (resources d))
  figures_are m = own_map_same d m (at short) (shortfall d e) shorts

  pub net_allocable : BoundedDay d → (m : ℕ) → e.start ≤ 1439 → Allocable (net_of d m short over) (own_figures d m short)
  net_allocable b m s = accepted_at _ _ _ _ (net_is m) (figures_are m) (shortfalls_accepted d b e m s)

  own_retroactive : (t : Meaning) (r : ℕ) → own_share d (resource d r).owner (allocated t (net_of d (resource d r).owner short over) (own_figures d (resource d r).owner short)) r ≡ retroactive_shortfall t d r e
  unfolding retroactive_shortfall retroactive_shortfalls
  own_retroactive t r = ap (λ (zs : List ℤ). own_share d (resource d r).owner zs r) (allocated_at t _ _ _ _ _ refl (net_is (resource d r).owner) (figures_are (resource d r).owner))

  -- one member more
  pub members_more : (t : Meaning) (m : ℕ) (before after : List ℤ)
      → ScatteredFor d m (allocated t (net_of d m short over) (own_figures d m short)) before after
      → ((r : ℕ) → r < length d.roll → (resource d r).owner < m → at before r ≡ retroactive_shortfall t d r e)
      → (r : ℕ) → r < length d.roll → (resource d r).owner < m + 1 → at after r ≡ retroactive_shortfall t d r e
  members_more t m before after k i r l o =
      elim (eqb_tells (resource d r).owner m) [
        | inl own ↦ k r l ∙ ap (λ (b : Bool). cond b (own_share d m (allocated t (net_of d m short over) (own_figures d m short)) r) (at before r)) own.0
            ∙ ap (λ (x : ℕ). own_share d x (allocated t (net_of d x short over) (own_figures d x short)) r) (sym own.1) ∙ own_retroactive t r
        | inr other ↦ let no = other.1 in k r l ∙ ap (λ (b : Bool). cond b (own_share d m (allocated t (net_of d m short over) (own_figures d m short)) r) (at before r)) other.0
            ∙ i r l (omega arith)
      ]
