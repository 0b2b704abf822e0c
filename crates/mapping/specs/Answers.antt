-- What the code's enums say.
use Rattle.std.specs.Prelude.{ℕ, Option, Some, None, Result, Ok, Err}
use Rattle.registers.specs.Refusal.{refusal_number}
use Rattle.registers.specs.declared.refusal.Refusal.{Refusal}
use Rattle.faults.specs.Reason.{number_of}
use Rattle.regions.specs.Answers.{region_of}
use Rattle.regions.specs.declared.Region.{Region as RegionCode}
use Rattle.mapping.specs.Search.{Next, none, next}
use Rattle.mapping.specs.Told.{Told, refused, passed, faulted, listed}
use Rattle.mapping.specs.declared.Listing.{Listing}
use Rattle.mapping.specs.declared.Listing.TheVariants as listing

abbrev pub told_as : Result Listing Refusal → Told
told_as (Ok listing.Passed) = passed
told_as (Ok (listing.Fault reason)) = faulted (number_of reason)
told_as (Ok (listing.Spans count more)) = listed count more
told_as (Err r) = refused (refusal_number r)

abbrev pub next_of : Option (ℕ × RegionCode) → Next
next_of None = none
next_of (Some (start, region)) = next start (region_of region)
