-- Keys that tell elements apart, and texts that codes tell apart.
use Rattle.std.proofs.Common.{◌≡◌, ℕ, ◌+◌, ◌-◌, ◌<◌, ◌≤◌, Bool, true, cond, List, [], ◌∷◌, ◌++◌, length, get_or, take, Some, None, Decides, count_by, sym, refl, ap, ◌∙◌, inl, inr, arith}
use Rattle.std.specs.List.{list_all}
use Rattle.std.specs.Str.{bytes_eq}
use Rattle.std.proofs.lemmas.Slice.Eq.{bytes_eq-Decides}
use Rattle.std.proofs.lemmas.List.{length-take, get_or-take}
use Rattle.std.proofs.lemmas.List.Sums.{sum_by_push, sum_by-take-le, get_or-le-sum_by, count_by_more_yes}
use Rattle.std.proofs.lemmas.Bool.{cases_Bool, cases_order}
use Rattle.std.proofs.lemmas.Bool.Decides.{Decides-like, nat_tests}
use Rattle.rolls.specs.Codes.{is_sign, good, code_of, text_of}
use Rattle.std.specs.Prelude.{position}
use Rattle.rolls.specs.Places.{Apart}
use Rattle.rolls.specs.declared.code.Code.{Code}
use Rattle.rolls.proofs.Padded.{before_zeros}
use Rattle.rolls.proofs.Places.{place_some, place_missing}

abbrev one : Bool → ℕ
one b = cond b 1 0

-- an element whose only key is new keeps keys apart
pub apart_push : {X K : Type 0} (matches : X → K → Bool) (xs : List X) (x : X) (k : K) → Apart matches xs → position (λ y. matches y k) xs ≡ None → ((j : K) → matches x j ≡ true → j ≡ k) → Apart matches (xs ++ x ∷ [])
apart_push {K} matches xs x k apart new only j =
    let more = sum_by_push (λ y. one (matches y j)) xs x in
    elim (cases_Bool (matches x j)) [
      | inl h ↦
          let none : count_by (λ y. matches y j) xs ≡ 0 = ap (λ (q : K). count_by (λ y. matches y q) xs) (only j h) ∙ place_missing (λ y. matches y k) xs new in
          omega (arith, more, none, ap one h)
      | inr h ↦ omega (arith, more, apart j, ap one h)
    ]

two : {X : Type 0} (p : X → Bool) (xs : List X) (i j : ℕ) (d : X) → i < j → j < length xs → p (get_or xs i d) ≡ true → p (get_or xs j d) ≡ true → 2 ≤ count_by p xs
two {X} p xs i j d l m a b =
    let f : X → ℕ = λ x. one (p x) in
    let inside : i < length (take j xs) = omega (arith, length-take j xs) in
    let first : f (get_or (take j xs) i d) ≡ 1 = ap f (get_or-take j xs i d l) ∙ ap one a in
    omega (arith, first, get_or-le-sum_by f (take j xs) i d inside, count_by_more_yes p xs j d m b, sum_by-take-le f xs (j + 1))

-- what is found by a key is the only element with it
pub found_is_it : {X K : Type 0} (matches : X → K → Bool) (xs : List X) (k : K) (i j : ℕ) (d : X) → Apart matches xs → position (λ y. matches y k) xs ≡ Some i → j < length xs → matches (get_or xs j d) k ≡ true → i ≡ j
found_is_it {X} matches xs k i j d apart found l h =
    let p : X → Bool = λ y. matches y k in
    let at = place_some p xs i found in
    elim (cases_order i j) [
      | inl e ↦ e
      | inr (inl m) ↦ omega (arith, two p xs i j d m l (at.1 d) h, apart k)
      | inr (inr m) ↦ omega (arith, two p xs j i d m at.0 h (at.1 d), apart k)
    ]

-- codes are one where their signs are the same
pub code_decides : (a b : Code) → Decides (bytes_eq a.signs b.signs) (a ≡ b)
code_decides a b =
    Decides-like (bytes_eq a.signs b.signs) (ap (λ bs. record { signs = bs })) (ap (λ (c : Code). c.signs)) (bytes_eq-Decides a.signs b.signs)

-- codes with the same signs are one code
pub code_matches : (a b : Code) → bytes_eq a.signs b.signs ≡ true → a ≡ b
code_matches a b e = (code_decides a b).0 e

-- a code has its own signs
pub code_itself : (a : Code) → bytes_eq a.signs a.signs ≡ true
code_itself a = (code_decides a a).1 refl

good_signs : (t : List ℕ) → good t ≡ true → text_of (code_of t) ≡ t
good_signs t e = let all : list_all is_sign t ≡ true = grind (arith, nat_tests) in before_zeros t (6 - length t) all

-- good texts with one code are one text
pub good_texts : (a b : List ℕ) → good a ≡ true → good b ≡ true → code_of a ≡ code_of b → a ≡ b
good_texts a b p q e = sym (good_signs a p) ∙ (ap text_of e ∙ good_signs b q)
