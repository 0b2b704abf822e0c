-- A request over a memory that a post has changed: where the post's descriptor shares no byte with the request's interrupt entry,
-- the answer is the same but for a post's notification.
use Prim.Native.Nat.{ℕ, ◌+◌, ◌%◌, ◌^◌, ◌≤◌, ◌<◌}
use mathlib.Core.Bool.{Bool, true, false, not}
use mathlib.Core.Path.{◌≡◌, ap}
use native.Mathlib.Omega.{arith}
use lib.Dec.{eqb, leb}
use Rattle.image.specs.Bits.{bit, any_set}
use Rattle.image.specs.Check.{stop, go, on_check}
use Rattle.std.specs.Prelude.{if◌then◌else◌}
use Rattle.image.specs.EntryKind.{remapping_entry, posted_descriptor}
use Rattle.image.specs.Memory.{Memory, Fetched, missing, found, on_fetch, entry}
use Rattle.image.specs.Rules.{Rules, answer, run}
use Rattle.image.proofs.Choices.{chosen}
use Rattle.image.proofs.Stages.{after, check-cases}
use Rattle.image.proofs.Trees.{run-map}
use Rattle.registers.specs.declared.Registers.{Registers}
use Rattle.irte.specs.Irte.{Irte, remaps, posts, irte_check, descriptor_address, fault_processing_disabled}
use Rattle.interrupts.specs.Claims.{answer_over, whole_index, indexed_entry, before_table}
use Rattle.interrupts.specs.Descriptor.{Notification, reserved_descriptor, notification_of, descriptor_check}
use Rattle.interrupts.specs.Interrupts.{Delivery, fault, post, descriptor_rules, on_irte, index_rules, InterruptOutcome, posted, delivered}
use Rattle.interrupts.specs.declared.InterruptRequest.{InterruptRequest}
use Rattle.interrupts.proofs.Raised.{asked-for}
use Rattle.interrupts.proofs.RaisedBy.{posts-fields}
use Rattle.interrupts.proofs.Requests.{at_table, request-cases}
use Rattle.takes.proofs.Bitwise.{field-same}

pub data Alike : InterruptOutcome → InterruptOutcome → Type 0 where
  same : {o : InterruptOutcome} → Alike o o
  reposted : {d u : ℕ} (m n : Notification) → Alike (posted d u m) (posted d u n)

-- the reserved bits lie above ON and SN
reserved-same : (eime : Bool) (d d' : ℕ) → ((k : ℕ) → 258 ≤ k → k < 512 → bit d' k ≡ bit d k)
    → reserved_descriptor eime d' ≡ reserved_descriptor eime d
reserved-same eime d d' h =
    let f : (high low : ℕ) → 258 ≤ low → high < 512 → any_set d' high low ≡ any_set d high low =
    λ high low l t. ap (λ (n : ℕ). not (eqb n 0)) (field-same d' d low high (λ k from to. h k (omega arith) (omega arith))) in
    rw (f 271 258 (omega arith) (omega arith), f 287 280 (omega arith) (omega arith), f 511 320 (omega arith) (omega arith), f 295 288 (omega arith) (omega arith), f 319 304 (omega arith) (omega arith))

-- a descriptor in both memories, missing or there, with the same reserved bits
pub data Descriptors : Fetched → Fetched → Type 0 where
  none-there : Descriptors missing missing
  reserved-there : {d d' : ℕ} → ((k : ℕ) → 258 ≤ k → k < 512 → bit d' k ≡ bit d k) → Descriptors (found d) (found d')

module _ (registers : Registers) (request : InterruptRequest) (m m' : Memory)
    (same-irte : entry 2 m' (indexed_entry registers request) ≡ entry 2 m (indexed_entry registers request))
    (descriptors : (at : ℕ) → at % 64 ≡ 0 → Descriptors (entry 8 m at) (entry 8 m' at)) where
  abbrev AlikeD : Delivery → Delivery → Type 0
  AlikeD d d' = Alike (delivered request.source.id (whole_index request) d) (delivered request.source.id (whole_index request) d')

  -- what holds of the rules over both memories
  abbrev Both : Rules Delivery → Type 0
  Both q = AlikeD (run q m) (run q m')

  descriptor-alike : (urgent fpd : Bool) (at vector : ℕ) → at % 64 ≡ 0 → Both (descriptor_rules registers.eime urgent fpd at vector)
  unfolding descriptor_rules run descriptor_check
  descriptor-alike urgent fpd at vector aligned = by (entry 8 m at) (entry 8 m' at) (descriptors at aligned)
    where
      next : ℕ → Rules Delivery
      next = after posted_descriptor at (fault 0x27 fpd) (descriptor_check registers.eime urgent) (λ d reason. fault reason fpd) (λ n. answer (post at vector n))

      rules : Bool → Notification → Rules Delivery
      rules t n = on_check (if t then stop 0x28 else go n) (λ reason. answer (fault reason fpd)) (λ n. answer (post at vector n))

      checked : (t t' : Bool) → t' ≡ t → (n n' : Notification) → AlikeD (run (rules t n) m) (run (rules t' n') m')
      checked true true h n n' = same
      checked false false h n n' = reposted n n'
      checked true false h n n' = let z : ◌≡◌ {A = ℕ} 0 1 = cc in absurd (omega arith)
      checked false true h n n' = let z : ◌≡◌ {A = ℕ} 0 1 = cc in absurd (omega arith)

      by : (f f' : Fetched) → Descriptors f f'
          → AlikeD (on_fetch f (fault 0x27 fpd) (λ d. run (next d) m)) (on_fetch f' (fault 0x27 fpd) (λ d. run (next d) m'))
      by missing missing none-there = same
      by missing (found d') h = elim h [ ]
      by (found d) missing h = elim h [ ]
      by (found d) (found d') (reserved-there h) =
          checked (reserved_descriptor registers.eime d) (reserved_descriptor registers.eime d') (reserved-same registers.eime d d' h)
          (notification_of registers.eime urgent d) (notification_of registers.eime urgent d')

  irte-alike : (e : ℕ) (i : Irte) → irte_check registers request.source.id e ≡ go i → Both (on_irte registers.eime i)
  unfolding run
  irte-alike e (remaps r) h = same
  irte-alike e (posts at vector urgent fpd) h =
      let address : at ≡ descriptor_address e = (posts-fields registers.eime e (asked-for registers request.source.id e h)).1 in
      descriptor-alike urgent fpd at vector (omega arith)

  index-alike : Both (index_rules registers request.source.id (whole_index request))
  unfolding index_rules run
  index-alike =
      chosen Both (leb (2 ^ (registers.s + 1)) (whole_index request)) (λ h. same)
      (λ h. rw same-irte (by (entry 2 m (indexed_entry registers request))))
    where
      next : ℕ → Rules Delivery
      next = after remapping_entry (indexed_entry registers request) (fault 0x23 false) (irte_check registers request.source.id)
          (λ e reason. fault reason (fault_processing_disabled e)) (on_irte registers.eime)

      by : (f : Fetched)
          → AlikeD (on_fetch f (fault 0x23 false) (λ e. run (next e) m)) (on_fetch f (fault 0x23 false) (λ e. run (next e) m'))
      by missing = same
      by (found e) =
          check-cases Both (irte_check registers request.source.id e) (λ reason. fault reason (fault_processing_disabled e)) (on_irte registers.eime)
          (λ reason h. same) (irte-alike e)

  pub alike : Alike (answer_over registers request m) (answer_over registers request m')
  unfolding run
  alike =
      request-cases registers request (λ q. Alike (run q m) (run q m')) early-answer
      (rw (told m, told m') index-alike)
    where
      told : (memory : Memory) → run (at_table registers request) memory
          ≡ delivered request.source.id (whole_index request) (run (index_rules registers request.source.id (whole_index request)) memory)
      told = run-map (delivered request.source.id (whole_index request)) (index_rules registers request.source.id (whole_index request))

      early-answer : (o : InterruptOutcome) → before_table o ≡ true → Alike (run (answer o) m) (run (answer o) m')
      early-answer o h = same
