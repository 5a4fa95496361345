-- What is found by a code is the only one that has it.
use Rattle.std.proofs.Common.{◌≡◌, ℕ, ◌<◌, Bool, true, cond, List, length, get_or, Some, None, Option, Result, refl, ap, ◌∙◌, arith}
use Rattle.std.specs.Str.{bytes_eq}
use Rattle.std.proofs.lemmas.List.Sums.{get_or-le-sum_by}
use Rattle.rolls.specs.declared.code.Code.{Code}
use Rattle.rolls.specs.Codes.{good, code_of}
use Rattle.std.specs.Prelude.{position}
use Rattle.rolls.specs.Places.{Apart}
use Rattle.rolls.proofs.Places.{place_missing}
use Rattle.rolls.proofs.Keys.{found_is_it, code_itself}
use Rattle.events.specs.declared.fault.BookFault.{BookFault}
use Rattle.inputs.specs.Asking.{found_or, OnlyOne}

module _ {X : Type 0} (code : X → Code) (xs : List X) (apart : Apart {K = Code} (λ x k. bytes_eq (code x).signs k.signs) xs) where
  -- the place of the element that has a code
  place_is : (k : Code) (j : ℕ) (d : X) → j < length xs → code (get_or xs j d) ≡ k → position (λ x. bytes_eq (code x).signs k.signs) xs ≡ Some j
  place_is k j d l e = go (position (λ x. bytes_eq (code x).signs k.signs) xs) refl
    where
      same : bytes_eq (code (get_or xs j d)).signs k.signs ≡ true
      same = ap (λ (c : Code). bytes_eq c.signs k.signs) e ∙ code_itself k

      go : (o : Option ℕ) → position (λ x. bytes_eq (code x).signs k.signs) xs ≡ o → o ≡ Some j
      go None p =
          let none = place_missing (λ x. bytes_eq (code x).signs k.signs) xs p in
          let some = get_or-le-sum_by (λ x. cond (bytes_eq (code x).signs k.signs) 1 0) xs j d l in
          let one : ◌≡◌ {A = ℕ} (cond (bytes_eq (code (get_or xs j d)).signs k.signs) 1 0) 1 = ap (λ (b : Bool). cond {A = ℕ} b 1 0) same in
          absurd (omega (arith, none, some, one))
      go (Some i) p = ap Some (found_is_it _ xs k i j d apart p l same)

  pub only_one : (text : List ℕ) (fault : BookFault) (r : Result ℕ BookFault)
      → r ≡ found_or (cond (good text) (position (λ x. bytes_eq (code x).signs (code_of text).signs) xs) None) fault → OnlyOne code xs text r
  only_one text fault r e j d l g h =
      e ∙ ap (λ (b : Bool). found_or (cond b (position (λ x. bytes_eq (code x).signs (code_of text).signs) xs) None) fault) g
      ∙ ap (λ (o : Option ℕ). found_or o fault) (place_is (code_of text) j d l h)
