-- The rolls of members and resources.
use Rattle.std.specs.Prelude.{List}
use Rattle.std.specs.Str.{bytes_eq}
use Rattle.rolls.specs.declared.code.Code.{Code}
use Rattle.rolls.specs.Places.{Apart}
use Rattle.events.specs.declared.resource.Resource.{Resource}

-- no two members have one code
abbrev pub MembersApart : List Code → Type 0
MembersApart ms = Apart {K = Code} (λ m k. bytes_eq m.signs k.signs) ms

-- no two resources have one code
abbrev pub ResourcesApart : List Resource → Type 0
ResourcesApart rs = Apart {K = Code} (λ r k. bytes_eq r.code.signs k.signs) rs
