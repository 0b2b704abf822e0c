-- What the code answers, in VT-d's numbers, over the buffer that flags are collected in.
use Rattle.std.specs.Prelude.{ℕ, ◌^◌, ◌<◌, ◌≤◌, List, ◌≡◌, Result, Ok, Err}
use Rattle.image.specs.Answers.{place_of}
use Rattle.image.specs.Place.{Place, no_entry, entry_at}
use Rattle.dma.specs.Requests.{MemoryOutcome, granted, blocked, refused}
use Rattle.faults.specs.declared.stop.Stop.{Stop}
use Rattle.pasid.specs.Answers.{fault_of, stop_place}
use Rattle.pasid.specs.Reason.{number_of}
use Rattle.pasid.specs.declared.reason.ScalableReason.{ScalableReason}
use Rattle.scalable.specs.Lookup.{Lookup, pasid_entry, no_pasid_entry}
use Rattle.nested.specs.Answers.{pages_of}
use Rattle.nested.specs.Pages.{fault}
use Rattle.scalable.specs.Requests.{Translation, through, translated}
use Rattle.scalable.specs.declared.translation.Translation.{Translation as TranslationCode}
use Rattle.scalable.specs.declared.translation.Translation.TheVariants as translation
use Rattle.scalable.specs.declared.ScalableAnswer.{ScalableAnswer}
use Rattle.scalable.specs.declared.ScalableAnswer.TheVariants.{Granted, Blocked, Refused}
use Rattle.scalable.specs.declared.lookup.FoundEntry.{FoundEntry}

abbrev pub lookup_of : Result FoundEntry (Stop ScalableReason) → Lookup
lookup_of (Ok f) = pasid_entry f.entry
lookup_of (Err s) = no_pasid_entry (number_of s.reason) s.fpd

-- the last entry tried, as a lookup names it
abbrev pub lookup_place : Result FoundEntry (Stop ScalableReason) → Place
lookup_place (Ok f) = entry_at f.at
lookup_place (Err s) = entry_at s.at

-- the flags are the buffer's first
abbrev pub translation_of : Result TranslationCode (Stop ScalableReason) → (flags : List ℕ) → Translation
translation_of (Ok translation.Through) flags = through
translation_of (Ok (translation.Page r)) flags = translated (pages_of (Ok r) flags)
translation_of (Err s) flags = translated (fault (number_of s.reason) s.fpd)

-- a fault names this entry, if it is one; a page is one that a walk can answer: for the code's contracts
abbrev pub TranslationNames : Result TranslationCode (Stop ScalableReason) → Place → Type 0
TranslationNames r place = stop_place r place ≡ place

abbrev pub TranslationReachable : Result TranslationCode (Stop ScalableReason) → Type 0
TranslationReachable (Ok translation.Through) = Unit {0}
TranslationReachable (Ok (translation.Page r)) = (r.frame < 2 ^ 52) × (0 < r.level) × (r.level ≤ 3) × (r.count ≤ 47)
TranslationReachable (Err s) = Unit {0}

abbrev pub outcome_of : ScalableAnswer → MemoryOutcome
outcome_of (Granted address) = granted address
outcome_of (Blocked f place) = blocked (fault_of f)
outcome_of (Refused number) = refused number

-- the entry concerned, as the answer names it: only a blocked request has one
abbrev pub entry_of : ScalableAnswer → Place
entry_of (Granted address) = no_entry
entry_of (Blocked f place) = place_of place
entry_of (Refused number) = no_entry
