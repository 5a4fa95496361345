-- What a push into the roll of members or of resources keeps.
use Rattle.std.proofs.Common.{◌≡◌, ℕ, Bool, List, true, false, is_some, Some, None, Option, sym, refl, ◌∙◌, arith}
use Rattle.std.specs.Str.{bytes_eq}
use Rattle.rolls.specs.declared.code.Code.{Code}
use Rattle.std.specs.Prelude.{position}
use Rattle.rolls.proofs.Keys.{apart_push, code_matches}
use Rattle.rolls.proofs.Pushes.{Pushed, pushed_by}
use Rattle.events.specs.declared.resource.Resource.{Resource}
use Rattle.inputs.specs.Rolls.{MembersApart, ResourcesApart}

-- where nothing was found, the search answered None
pub not_found : (o : Option ℕ) (t : Bool) → t ≡ is_some o → t ≡ false → o ≡ None
not_found None t e f = refl
not_found (Some i) t e f = let z : true ≡ false = sym e ∙ f in let y : ◌≡◌ {A = ℕ} 0 1 = cc in absurd (omega arith)

pub members_apart : (o : Option ℕ) (a b : List Code) (x : Code) → Pushed 16 o a b x → position (λ y. bytes_eq y.signs x.signs) a ≡ None
    → MembersApart a → MembersApart b
members_apart o a b x p none h = pushed_by 16 o a b x p MembersApart h (apart_push _ a x x h none (λ j e. sym (code_matches x j e)))

pub resources_apart : (o : Option ℕ) (a b : List Resource) (x : Resource) → Pushed 16 o a b x → position (λ y. bytes_eq y.code.signs x.code.signs) a ≡ None
    → ResourcesApart a → ResourcesApart b
resources_apart o a b x p none h = pushed_by 16 o a b x p ResourcesApart h (apart_push _ a x x.code h none (λ j e. sym (code_matches x.code j e)))
