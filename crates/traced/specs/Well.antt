-- Which entries are laid out well: a kind of request, with an answer that it can have, and 0 in every field that they don't use.
use Rattle.std.specs.Prelude.{Bool, not, ◌&&◌, ◌||◌, eqb, leb}
use Rattle.image.specs.Bits.{bit}
use Rattle.traced.specs.declared.Traced.{Traced}

module _ (e : Traced) where
  -- kinds of request: 1 a read, 2 a write, 3 an interrupt, 4 a translation request
  abbrev pub is_interrupt : Bool
  is_interrupt = eqb e.kind 3

  abbrev pub is_translation : Bool
  is_translation = eqb e.kind 4

  -- data is an interrupt's
  abbrev pub well_asked : Bool
  well_asked = leb 1 e.kind && leb e.kind 4 && (is_interrupt || eqb e.«data» 0)

  -- neither a vector nor a destination, of an interrupt or a notification; nothing posted
  abbrev pub no_notification : Bool
  no_notification = eqb e.vector 0 && eqb e.destination 0

  abbrev pub bare : Bool
  bare = no_notification && eqb e.posted 0

  -- the number and the flags aren't used
  abbrev pub no_number : Bool
  no_number = eqb e.number 0 && eqb e.flags 0

  -- answer 1, refused: the refusal's number, 1 or 2, and 4 but for interrupts
  abbrev pub well_refused : Bool
  well_refused =
      (eqb e.number 1 || eqb e.number 2 || eqb e.number 4 && not is_interrupt) && eqb e.flags 0 && bare && eqb e.value 0

  -- fault reasons: 20h to 28h of an interrupt, 01h to 0Ch of others, 0Dh of a translation request alone
  abbrev pub well_reason : Bool
  well_reason =
      leb 0x20 e.number && leb e.number 0x28 && is_interrupt
      || leb 0x01 e.number && leb e.number 0x0C && not is_interrupt
      || eqb e.number 0x0D && is_translation

  -- answer 2, a fault: its reason; flag 0 that it may be recorded, flag 1 that the value is the address of the entry concerned
  abbrev pub well_fault : Bool
  well_fault = well_reason && leb e.flags 3 && bare && (bit e.flags 1 || eqb e.value 0)

  -- answer 3, granted: the host address
  abbrev pub well_granted : Bool
  well_granted = not is_interrupt && no_number && bare

  -- answer 4, an interrupt passed on unchanged
  abbrev pub well_passed : Bool
  well_passed = is_interrupt && no_number && bare && eqb e.value 0

  -- answer 5, remapped: vector and destination; flag 0 destination mode, 1 redirection hint, 2 trigger mode, 5:3 delivery mode
  abbrev pub well_remapped : Bool
  well_remapped = is_interrupt && eqb e.number 0 && leb e.flags 63 && eqb e.posted 0 && eqb e.value 0

  -- answer 6, posted without a notification: the posted vector, and the descriptor's address
  abbrev pub well_posted : Bool
  well_posted = is_interrupt && no_number && no_notification

  -- answer 7, posted with a notification: the same, with the notification's vector and destination
  abbrev pub well_notified : Bool
  well_notified = is_interrupt && no_number

  -- answer 8, a page: its frame; the number says its size, 12 for 4 KiB, 21 for 2 MiB, 30 for 1 GiB; flag 0 read, flag 1 write. The
  -- empty answer has size, frame and flags 0
  abbrev pub well_size : Bool
  well_size = eqb e.number 12 || eqb e.number 21 || eqb e.number 30 || no_number && eqb e.value 0

  abbrev pub well_page : Bool
  well_page = is_translation && well_size && leb e.flags 3 && bare

  abbrev pub well_answered : Bool
  well_answered =
      eqb e.answer 1 && well_refused
      || eqb e.answer 2 && well_fault
      || eqb e.answer 3 && well_granted
      || eqb e.answer 4 && well_passed
      || eqb e.answer 5 && well_remapped
      || eqb e.answer 6 && well_posted
      || eqb e.answer 7 && well_notified
      || eqb e.answer 8 && well_page

  unfoldable pub well_traced : Bool
  well_traced = well_asked && well_answered
