-- Resources and how they are named.
use Rattle.std.specs.Prelude.{ℕ, cond, List, [], None, Option, slice_index_or}
use Rattle.std.specs.Str.{bytes_eq}
use Rattle.rolls.specs.Codes.{good, code_of}
use Rattle.std.specs.Prelude.{position}
use Rattle.events.specs.declared.resource.Resource.{Resource}
use Rattle.events.specs.declared.resource.ResourceKind.{ResourceKind}
use Rattle.events.specs.declared.resource.ResourceKind.TheVariants.{Generator}

-- the place of the resource that a text names; a text that is no code names none
abbrev pub place_named : List Resource → List ℕ → Option ℕ
place_named rs text = cond (good text) (position (λ r. bytes_eq r.code.signs (code_of text).signs) rs) None

-- what is read past the end of the roll
abbrev pub no_resource : Resource
no_resource = record { code = record { signs = [] }; owner = 0; kind = Generator; interval_price_sum = 0 }

-- the kind of the resource at a place
abbrev pub kind_at : List Resource → ℕ → ResourceKind
kind_at rs i = (slice_index_or rs i no_resource).kind
