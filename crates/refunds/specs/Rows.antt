-- Figures of the events and of the resources, as the code holds them.
use Rattle.std.specs.Prelude.{◌≡◌, ℕ, ◌<◌, cond, List, [], map, length, ℤ, pos, ◌-ℤ◌, slice_index_or}
use Rattle.std.specs.List.{range_with_len}
use Rattle.settlement.specs.Sums.{at, at_least_zero}
use Rattle.settlement.specs.Days.{Day, resources, owns, owned, event}
use Rattle.settlement.specs.Shortfalls.{counts, shortfall}
use Rattle.settlement.specs.Settlement.{own}

-- what a member's shortfalls exceed its over-responses by
abbrev pub net_of : Day → ℕ → List ℤ → List ℤ → ℤ
net_of d m short over = at_least_zero (own d m (at short) -ℤ own d m (at over))

-- the figures of a member's resources, in order
abbrev pub own_figures : Day → ℕ → List ℤ → List ℤ
own_figures d m figures = map (at figures) (owned d m (resources d))

-- the share of the resource at a place, where the member owns it
abbrev pub own_share : Day → ℕ → List ℤ → ℕ → ℤ
own_share d m shares r = at shares (length (owned d m (range_with_len 0 r)))

-- the shares of one member's resources are written at their places, and nothing else
abbrev pub ScatteredFor : Day → ℕ → List ℤ → List ℤ → List ℤ → Type 0
ScatteredFor d m shares before after =
    (r : ℕ) → r < length d.roll → at after r ≡ cond (owns d m r) (own_share d m shares r) (at before r)

-- the shortfall of a resource in the closed event at a place; one that does not count has none
abbrev pub counted_shortfall : Day → ℕ → ℕ → ℤ
counted_shortfall d n r = cond (counts (event d n)) (shortfall d (event d n) r) (pos 0)

-- these by closed event and by resource
abbrev pub ShortfallsOf : Day → List (List ℤ) → Type 0
ShortfallsOf d rows =
    (n r : ℕ) → n < length d.closed → r < length d.roll →
    at (slice_index_or rows n []) r ≡ counted_shortfall d n r
