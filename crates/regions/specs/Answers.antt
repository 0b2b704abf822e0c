-- What the code's enums say, in document 02's values.
use Rattle.std.specs.Prelude.{Option, Some, None, Result, Ok, Err}
use Rattle.registers.specs.Refusal.{refusal_number}
use Rattle.faults.specs.Reason.{number_of}
use Rattle.dma.specs.Walk.{Step, done, down}
use Rattle.translation.specs.Rights.{both}
use Rattle.translation.specs.declared.Rights.{Rights}
use Rattle.regions.specs.Region.{What, page, fault, refused, nothing, Region}
use Rattle.regions.specs.declared.What.{What as WhatCode}
use Rattle.regions.specs.declared.What.TheVariants as what
use Rattle.regions.specs.declared.Region.{Region as RegionCode}
use Rattle.regions.specs.declared.tables.Tables.{Tables}
use Rattle.regions.specs.declared.tables.Reached.{Reached}

abbrev pub what_of : Option WhatCode → What
what_of (Some (what.Page frame)) = page frame
what_of (Some (what.Fault reason)) = fault (number_of reason)
what_of (Some (what.Refused r)) = refused (refusal_number r)
what_of None = nothing

abbrev pub region_of : RegionCode → Region
region_of r = record { level = r.level; what = what_of r.what; rights = r.rights }

abbrev pub onward_of : Result Reached RegionCode → Step Rights Region
onward_of (Ok at) = down at.table at.rights
onward_of (Err r) = done (region_of r)

-- where a walk begins
abbrev pub at_top : Tables → Reached
at_top tables = record { level = tables.levels; table = tables.top; rights = both; walkable = tables.walkable }
