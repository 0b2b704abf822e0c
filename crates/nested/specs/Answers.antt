-- What the code answers, in VT-d's numbers; the flags are the first numbers of the buffer.
use Rattle.std.specs.Prelude.{ℕ, ◌+◌, ◌%◌, ◌^◌, ◌<◌, ◌≤◌, false, List, ◌≡◌, take, Result, Ok, Err}
use Rattle.image.specs.Place.{Place}
use Rattle.dma.specs.Page.{host_address}
use Rattle.dma.specs.Walk.{Step, done, down}
use Rattle.faults.specs.declared.stop.Stop.{Stop}
use Rattle.pasid.specs.Answers.{stop_place}
use Rattle.pasid.specs.Reason.{number_of}
use Rattle.pasid.specs.declared.reason.ScalableReason.{ScalableReason}
use Rattle.nested.specs.Pages.{Pages, reached, fault, FirstHanded, first_handed}
use Rattle.nested.specs.declared.Reached.{Reached}
use Rattle.nested.specs.declared.level.Level.{Level}
use Rattle.nested.specs.declared.level.Level.TheVariants as level

abbrev pub level_of : Result Level (Stop ScalableReason) → (address : ℕ) (flags : List ℕ) → Step FirstHanded Pages
level_of (Ok (level.Down table count)) address flags = down table (first_handed false (take count flags))
level_of (Ok (level.Page frame of count)) address flags = done (reached frame of (host_address of frame address) (take count flags))
level_of (Err s) address flags = done (fault (number_of s.reason) s.fpd)

-- a fault names this entry, if it is one: for the code's contracts
abbrev pub LevelNames : Result Level (Stop ScalableReason) → Place → Type 0
LevelNames r place = stop_place r place ≡ place

-- an entry of level 1 leads no further
abbrev pub LevelReachable : Result Level (Stop ScalableReason) → (level : ℕ) → Type 0
LevelReachable (Ok (level.Down table count)) of = (1 < of) × (table % 4096 ≡ 0) × (table < 2 ^ 52)
LevelReachable (Ok (level.Page frame of' count)) of = (frame < 2 ^ 52) × (0 < of') × (of' ≤ 3)
LevelReachable (Err s) of = Unit {0}

-- an entry that leads down has one flag less than that of a page may have
abbrev pub LevelGrows : Result Level (Stop ScalableReason) → (most : ℕ) → Type 0
LevelGrows (Ok (level.Down table count)) most = (count ≤ most)
LevelGrows (Ok (level.Page frame of count)) most = (count ≤ most + 1)
LevelGrows (Err s) most = Unit {0}

abbrev pub pages_of : Result Reached (Stop ScalableReason) → (flags : List ℕ) → Pages
pages_of (Ok r) flags = reached r.frame r.level r.host (take r.count flags)
pages_of (Err s) flags = fault (number_of s.reason) s.fpd

abbrev pub PagesNames : Result Reached (Stop ScalableReason) → Place → Type 0
PagesNames r place = stop_place r place ≡ place

abbrev pub PagesGrows : Result Reached (Stop ScalableReason) → (most : ℕ) → Type 0
PagesGrows (Ok r) most = (r.count ≤ most)
PagesGrows (Err s) most = Unit {0}
