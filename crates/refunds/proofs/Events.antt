-- The closed events with their rows of shortfalls, as the code goes over them.
use Rattle.std.proofs.Common.{◌≡◌, ℕ, ◌<◌, ◌≤◌, cond, List, [], length, get_or, ℤ, pos, Option, Some, None, Bor, Iter, arith}
use Rattle.std.specs.Iterator.{Yields}
use Rattle.std.specs.Iterator.Adapters.{zip_first, zip_second}
use Rattle.std.specs.Slice.Iter.{iter_rest}
use Rattle.std.specs.declared.iter.Zip.{Zip}
use Rattle.std.proofs.iter.Yields.{fronts}
use Rattle.std.proofs.lemmas.Iterator.{zips}
use Rattle.std.proofs.lemmas.Slice.Zip.{zip_turn, zip_end}
use Rattle.events.specs.declared.event.Event.{Event}
use Rattle.events.specs.States.{no_event}
use Rattle.settlement.specs.Sums.{at}
use Rattle.settlement.specs.Shortfalls.{counts, shortfall}
use Rattle.settlement.specs.Figures.{the_day}
use Rattle.settlement.proofs.Tables.{bounded_day}
use Rattle.refunds.specs.declared.rows.EventShortfalls.{EventShortfalls}

-- an event and its row, at one place
pub record Beside (s : EventShortfalls) (n : ℕ) (e : Event) (figures : List ℤ) : Type 0 where
  pub here : n < length (the_day s.tables.now).closed
  pub event : e ≡ get_or (the_day s.tables.now).closed n no_event
  pub row : figures ≡ get_or s.rows n []

pub row_is : (s : EventShortfalls) (n r : ℕ) (e : Event) (row : List ℤ) → Beside s n e row → r < length (the_day s.tables.now).roll → at row r ≡ cond (counts e) (shortfall (the_day s.tables.now) e r) (pos 0)
row_is s n r e row b l = rw (b.row, b.event) (s.defined n r b.here l)

pub early : (s : EventShortfalls) (n : ℕ) (e : Event) (row : List ℤ) → Beside s n e row → e.start ≤ 1439
early s n e row b = rw b.event (s.tables.now.events.starts n b.here)

module _ (s : EventShortfalls) (xs : List (Bor Event × Bor (List ℤ))) (a b u : Zip (Iter Event) (Iter (List ℤ))) (o : Option (Bor Event × Bor (List ℤ)))
    (first : iter_rest (zip_first a) ≡ (the_day s.tables.now).closed) (second : iter_rest (zip_second a) ≡ s.rows) (y : Yields (zips fronts fronts) a xs b) where
  pub turn : (p : Bor Event × Bor (List ℤ)) → o ≡ Some p → zips fronts fronts b o u → Beside s (length xs) p.0.now p.1.now
  turn p e h = let t = zip_turn (the_day s.tables.now).closed s.rows xs a b u o first second y p e h in record { here = t.0; event = t.2 no_event; row = t.3 [] }

  pub ended : length s.rows ≡ 4 → o ≡ None → zips fronts fronts b o u → length (the_day s.tables.now).closed ≤ length xs
  ended four e h =
      let n = zip_end (the_day s.tables.now).closed s.rows xs a b u o first second y e h in
      let few = (bounded_day s.tables.now).few_events in
      omega arith
