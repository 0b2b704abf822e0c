-- What the code's checks and answers say, in document 01's numbers.
use Rattle.std.specs.Prelude.{◌≡◌, ℕ, Bool, Option, Some, None, Result, Ok, Err}
use Rattle.image.specs.Answers.{place_of}
use Rattle.image.specs.Place.{Place, no_entry, entry_at}
use Rattle.faults.specs.Answers.{fault_of}
use Rattle.faults.specs.Reason.{number_of}
use Rattle.faults.specs.declared.reason.Reason.{Reason}
use Rattle.faults.specs.declared.stop.Stop.{Stop}
use Rattle.irte.specs.Answers.{remapped_of}
use Rattle.interrupts.specs.Interrupts as rules
use Rattle.interrupts.specs.declared.answer.BlockedBy.{BlockedBy}
use Rattle.interrupts.specs.declared.answer.Delivery.{Delivery}
use Rattle.interrupts.specs.declared.answer.Delivery.TheVariants.{Remap, Post}
use Rattle.interrupts.specs.declared.answer.InterruptAnswer.{InterruptAnswer}
use Rattle.interrupts.specs.declared.answer.InterruptAnswer.TheVariants.{Passed, Remapped, Posted, Blocked, Refused}
use Rattle.interrupts.specs.declared.answer.Posted as posted
use Rattle.image.specs.Check.{Check, stop, go}
use Rattle.interrupts.specs.Request.{Format, compatibility, remappable}
use Rattle.interrupts.specs.Descriptor as descriptor
use Rattle.interrupts.specs.declared.descriptor.Notice.{Notice}

abbrev pub request_checked : Result (Option ℕ) Reason → Check Format
request_checked (Ok None) = go compatibility
request_checked (Ok (Some index)) = go (remappable index)
request_checked (Err reason) = stop (number_of reason)

abbrev pub due_of : Option Notice → descriptor.Notification
due_of None = descriptor.silent
due_of (Some n) = descriptor.notification n.vector n.destination

abbrev pub descriptor_checked : Result (Option Notice) (Stop Reason) → Check descriptor.Notification
descriptor_checked (Ok n) = go (due_of n)
descriptor_checked (Err s) = stop (number_of s.reason)

-- the descriptor that a stop names; where the check lets it pass, the place handed in
abbrev pub descriptor_place : Result (Option Notice) (Stop Reason) → Place → Place
descriptor_place (Ok n) place = place
descriptor_place (Err s) place = entry_at s.at

-- the FPD of a stop; where the check lets the descriptor pass, the one handed in
abbrev pub descriptor_fpd : Result (Option Notice) (Stop Reason) → (fpd : Bool) → Bool
descriptor_fpd (Ok n) fpd = fpd
descriptor_fpd (Err s) fpd = s.fpd

-- a stop at an entry, as the answer has it
abbrev pub blocked_by : Stop Reason → BlockedBy
blocked_by s = record { reason = s.reason; fpd = s.fpd; entry = Some s.at }

abbrev pub delivery_of : Result Delivery BlockedBy → rules.Delivery
delivery_of (Ok (Remap r)) = rules.remap (remapped_of r)
delivery_of (Ok (Post p)) = rules.post p.descriptor p.vector (due_of p.notification)
delivery_of (Err b) = rules.fault (number_of b.reason) b.fpd

abbrev pub post_of : Result posted.Posted (Stop Reason) → rules.Delivery
post_of (Ok p) = rules.post p.descriptor p.vector (due_of p.notification)
post_of (Err s) = rules.fault (number_of s.reason) s.fpd

abbrev pub outcome_of : InterruptAnswer → rules.InterruptOutcome
outcome_of Passed = rules.passed
outcome_of (Remapped r) = rules.remapped (remapped_of r)
outcome_of (Posted p) = rules.posted p.descriptor p.vector (due_of p.notification)
outcome_of (Blocked f at) = rules.blocked (fault_of f)
outcome_of (Refused number) = rules.refused number

-- the entry concerned, as the answer names it: only a blocked request has one, and not each of those
abbrev pub entry_of : InterruptAnswer → Place
entry_of Passed = no_entry
entry_of (Remapped r) = no_entry
entry_of (Posted p) = no_entry
entry_of (Blocked f at) = place_of at
entry_of (Refused number) = no_entry

-- the entry that a fault names; where there is no fault, the place handed in
abbrev pub delivery_place : Result Delivery BlockedBy → Place → Place
delivery_place (Ok d) place = place
delivery_place (Err b) place = place_of b.entry

abbrev pub post_place : Result posted.Posted (Stop Reason) → Place → Place
post_place (Ok p) place = place
post_place (Err s) place = entry_at s.at

-- a fault names this entry, if it is one: for the code's contracts
abbrev pub DeliveryNames : Result Delivery BlockedBy → Place → Type 0
DeliveryNames d place = delivery_place d place ≡ place

abbrev pub PostNames : Result posted.Posted (Stop Reason) → Place → Type 0
PostNames d place = post_place d place ≡ place
