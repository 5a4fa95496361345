-- How many lines there were, and how each was answered.
use Rattle.std.specs.Prelude.{ℕ, ◌+◌, ◌-◌, ◌^◌, min, List, ◌++◌, codes, decimal}
use Rattle.allocate.specs.declared.tally.Tally.{Tally}
use Rattle.allocate.specs.Answers.{Reply, shares, refusal, no_request}

-- one more, up to what 64 bits hold
abbrev pub more : ℕ → ℕ
more n = min (n + 1) (2 ^ 64 - 1)

-- the tally after one more line
abbrev pub counted : Tally → Reply → Tally
counted t (shares by_cumulative by_remainder) = record { lines = more t.lines; allocated = more t.allocated; refused = t.refused; malformed = t.malformed }
counted t (refusal reason) = record { lines = more t.lines; allocated = t.allocated; refused = more t.refused; malformed = t.malformed }
counted t no_request = record { lines = more t.lines; allocated = t.allocated; refused = t.refused; malformed = more t.malformed }

abbrev pub summary_text : Tally → List ℕ
summary_text t =
    decimal t.lines ++ (codes " lines: " ++ (decimal t.allocated ++ (codes " allocated, "
    ++ (decimal t.refused ++ (codes " refused, " ++ (decimal t.malformed ++ codes " not a request"))))))
