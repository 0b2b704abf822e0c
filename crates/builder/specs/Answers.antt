-- What the code's answers say, in the definitions' terms.
use Rattle.std.specs.Prelude.{ℕ, Result, Ok, Err}
use Rattle.registers.specs.Refusal.{refusal_number}
use Rattle.tables.specs.declared.Tree.{Tree}
use Rattle.builder.specs.Build.{Built, all_taken, refused, not_ready, at_item}
use Rattle.builder.specs.Items.{Taken}
use Rattle.builder.specs.Ready.{Readiness, refusal, not_yet, ready}
use Rattle.builder.specs.declared.BuildError.{BuildError}
use Rattle.builder.specs.declared.BuildError.TheVariants.{Before, At}
use Rattle.builder.specs.declared.items.BadItem.{BadItem}
use Rattle.builder.specs.declared.ready.NotReady.{NotReady}
use Rattle.builder.specs.declared.ready.NotReady.TheVariants.{TranslationOff, NoTranslation, BadRegion, OtherTables, BadBuffers}
use Rattle.builder.specs.declared.ready.Unready.{Unready}
use Rattle.builder.specs.declared.ready.Unready.TheVariants.{Refused, NotYet}
use Rattle.builder.specs.declared.reasons.ItemError.{ItemError}
use Rattle.builder.specs.declared.reasons.ItemError.TheVariants.{Size, Alignment, Place, Rights, Frame, Overlap, TooFewPages, NoSuchPage}

abbrev pub item_error_number : ItemError → ℕ
item_error_number Size = 1
item_error_number Alignment = 2
item_error_number Place = 3
item_error_number Rights = 4
item_error_number Frame = 5
item_error_number Overlap = 6
item_error_number TooFewPages = 7
item_error_number NoSuchPage = 8

abbrev pub not_ready_number : NotReady → ℕ
not_ready_number TranslationOff = 1
not_ready_number NoTranslation = 2
not_ready_number BadRegion = 3
not_ready_number OtherTables = 4
not_ready_number BadBuffers = 5

-- the reason against an item, or 0
abbrev pub reason_of : Result (Unit {0}) ItemError → ℕ
reason_of (Ok _) = 0
reason_of (Err error) = item_error_number error

-- how far the items were taken, of so many
abbrev pub taken_of : (count : ℕ) → Result (Unit {0}) BadItem → Taken
taken_of count (Ok _) = record { index = count; reason = 0 }
taken_of count (Err item) = record { index = item.index; reason = item_error_number item.error }

abbrev pub readiness_of : Result Tree Unready → Readiness
readiness_of (Ok tree) = ready tree
readiness_of (Err (Refused refusal_is)) = refusal (refusal_number refusal_is)
readiness_of (Err (NotYet reason)) = not_yet (not_ready_number reason)

-- what is answered where the tables aren't ready
abbrev pub unready : Unready → Built
unready (Refused refusal_is) = refused (refusal_number refusal_is)
unready (NotYet reason) = not_ready (not_ready_number reason)

abbrev pub built_of : Result (Unit {0}) BuildError → Built
built_of (Ok _) = all_taken
built_of (Err (Before why)) = unready why
built_of (Err (At item)) = at_item item.index (item_error_number item.error)
