-- The answers that are written in turn.
use Rattle.std.proofs.Common.{◌≡◌, ℕ, ◌+◌, ◌<◌, ◌≤◌, true, cond, ltb, ◌≢◌, List, length, get_or, set, Some, None, Option, Result, sym, refl, ap, ◌∙◌, inl, inr, arith}
use Rattle.std.proofs.lemmas.List.{length-set, get_or-set_same, get_or-set_other}
use Rattle.std.proofs.lemmas.Bool.{cases_eq}
use Rattle.std.proofs.lemmas.Bool.Decides.{nat_tests}
use Rattle.events.specs.declared.fault.BookFault.{BookFault}
use Rattle.events.specs.Outcomes.{Outcome}
use Rattle.settlement.specs.Sums.{Meaning}
use Rattle.daybook.specs.declared.call.BookCall.{BookCall}
use Rattle.daybook.specs.declared.call.BookAnswer.{BookAnswer}
use Rattle.daybook.specs.Books.{BookState, answered, response_at}

abbrev Response : Type 0
Response = Result BookAnswer BookFault

-- the answers of the first n calls stand in their places, and past them what stood there
abbrev pub AnsweredBefore : Meaning → List BookCall → ℕ → List (Result BookAnswer BookFault) → List (Result BookAnswer BookFault) → Type 0
AnsweredBefore t calls n before after =
    (k : ℕ) (d : Result BookAnswer BookFault) → k < length after → get_or after k d ≡ cond (ltb k n) (response_at t calls k) (get_or before k d)

pub responded : (o : Option BookFault) (a : BookAnswer) (old new : BookState) (r : Response) (left : BookState) → Outcome o a old new r left → r ≡ answered o a
responded None a old new r left h = h.0
responded (Some fault) a old new r left h = h.0

below_next : (k n : ℕ) → k ≢ n → ltb k (n + 1) ≡ ltb k n
below_next k n ne = grind (arith, nat_tests)

module _ (t : Meaning) (calls : List BookCall) (n : ℕ) (before xs : List Response) (so_far : AnsweredBefore t calls n before xs) where
  pub one_more : (v : Response) → v ≡ response_at t calls n → n < length xs → AnsweredBefore t calls (n + 1) before (set xs n v)
  one_more v e l k d h =
      let in_xs : k < length xs = omega (arith, length-set xs n v) in
      elim (cases_eq k n) [
        | inl same ↦
            let here : get_or (set xs n v) k d ≡ v = ap (λ (j : ℕ). get_or (set xs n v) j d) same ∙ get_or-set_same xs n v d l in
            let on : ltb k (n + 1) ≡ true = grind (arith, nat_tests) in
            here ∙ e ∙ ap (response_at t calls) (sym same) ∙ sym (rw on refl)
        | inr ne ↦ get_or-set_other xs n k v d ne ∙ so_far k d in_xs ∙ sym (rw (below_next k n ne) refl)
      ]

  pub no_place : length xs ≤ n → AnsweredBefore t calls (n + 1) before xs
  no_place l k d h =
      let ne : k ≢ n = omega arith in
      so_far k d h ∙ sym (rw (below_next k n ne) refl)
