-- What it is for a worked example to stand: the definitions give what it says.
use Rattle.std.specs.Prelude.{◌≡◌, Some, Ok, from_bits}
use Rattle.std.specs.Float.{binary32}
use Rattle.allocation.specs.Cumulative.{cumulative}
use Rattle.allocation.specs.Remainder.{remainder}
use Rattle.events.specs.declared.resource.ResourceKind.TheVariants.{Generator}
use Rattle.events.specs.declared.sample.Sample.TheVariants.{Output}
use Rattle.events.specs.Samples.{reading_of}
use Rattle.examples.specs.declared.list.WorkedExample.{WorkedExample}
use Rattle.examples.specs.declared.list.WorkedExample.TheVariants.{Allocation, Sample}

abbrev pub Stands : WorkedExample → Type 0
Stands (Allocation e) =
    (cumulative e.amount e.weights.now ≡ e.cumulative.now)
    × (remainder e.amount e.weights.now ≡ e.remainder.now)
Stands (Sample e) = reading_of Generator (Output (from_bits binary32 e.bits)) ≡ Ok (Some e.kilowatts)
