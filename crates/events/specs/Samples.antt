-- What a sample reads as.
use Rattle.std.specs.Prelude.{ℕ, Bool, cond, ◌&&◌, Some, None, Ok, Err, Option, Result, from_bits, Float}
use Rattle.std.specs.Float.{binary32}
use Rattle.std.specs.Float.Ieee.{le, mul, to_unsigned}
use Rattle.events.specs.declared.fault.BookFault.{BookFault}
use Rattle.events.specs.declared.fault.BookFault.TheVariants.{BadSample}
use Rattle.events.specs.declared.resource.ResourceKind.{ResourceKind}
use Rattle.events.specs.declared.resource.ResourceKind.TheVariants.{Generator, Demand}
use Rattle.events.specs.declared.sample.Sample.{Sample}
use Rattle.events.specs.declared.sample.Sample.TheVariants.{Output, Draw, Silent}

-- 0, 10,000 and 1,000 as floats
abbrev pub no_megawatts : Float
no_megawatts = from_bits binary32 0

abbrev pub most_megawatts : Float
most_megawatts = from_bits binary32 0x461c4000

abbrev pub thousand : Float
thousand = from_bits binary32 0x447a0000

-- a number, not below 0 and not above 10,000
abbrev pub in_range : Float → Bool
in_range x = le no_megawatts x && le x most_megawatts

-- the product with 1,000, rounded once, with the fraction dropped
abbrev pub kilowatts_of : Float → Result (Option ℕ) BookFault
kilowatts_of x = cond (in_range x) (Ok (Some (to_unsigned 32 (mul binary32 x thousand)))) (Err BadSample)

-- a generator's output and a demand resource's draw are read, silence is read of both
abbrev pub reading_of : ResourceKind → Sample → Result (Option ℕ) BookFault
reading_of Generator (Output x) = kilowatts_of x
reading_of Generator (Draw x) = Err BadSample
reading_of Generator Silent = Ok None
reading_of Demand (Output x) = Err BadSample
reading_of Demand (Draw x) = kilowatts_of x
reading_of Demand Silent = Ok None
