-- Which interrupt is raised: a remapped or posted answer comes of the entry of the whole index, and a post of its descriptor too.
use Prim.Native.Nat.{ℕ, ◌+◌, ◌%◌, ◌^◌, ◌<◌}
use mathlib.Core.Bool.{Bool, true, false, not}
use mathlib.Core.List.{List}
use mathlib.Core.Path.{◌≡◌, refl, sym, ◌∙◌}
use native.Mathlib.Omega.{arith}
use borrow.Author.Tests.{leb-false}
use lib.Dec.{leb}
use lib.ListN.{length}
use Rattle.image.specs.Bits.{bits, bit}
use Rattle.image.specs.Check.{Check, stop, go, on_check}
use Rattle.std.specs.Prelude.{if◌then◌else◌}
use Rattle.image.specs.EntryKind.{remapping_entry, posted_descriptor}
use Rattle.image.specs.Memory.{Memory, found, entry}
use Rattle.image.specs.Rules.{answer, run}
use Rattle.image.specs.Windows.{windows_of, here, spot_in, of_windows, bad_windows}
use Rattle.image.proofs.Choices.{chosen, past, same-go}
use Rattle.image.proofs.Fields.{fits}
use Rattle.image.proofs.Stages.{run-cases}
use Rattle.image.proofs.Trees.{run-map}
use Rattle.image.proofs.WindowEntries.{whole-at}
use Rattle.registers.specs.declared.Registers.{Registers}
use Rattle.irte.specs.Irte.{Irte, asks, stops, asked, remaps, posts, remapped_by, descriptor_address, reserved_irte, irte_of, irte_check, urgent_of, fault_processing_disabled}
use Rattle.irte.specs.Source.{source_allowed}
use Rattle.interrupts.specs.Claims.{whole_index, indexed_entry, before_table, answer_over}
use Rattle.interrupts.specs.Descriptor.{Notification, descriptor_check}
use Rattle.interrupts.specs.Interrupts.{Delivery, fault, post, descriptor_rules, on_irte, index_rules, InterruptOutcome, passed, remapped, posted, blocked, refused, delivered, interrupt_rules, interrupt_answer}
use Rattle.interrupts.specs.declared.InterruptRequest.{InterruptRequest}
use Rattle.interrupts.proofs.Requests.{request-cases}

module _ (registers : Registers) (request : InterruptRequest) (m : Memory) where
  -- the entry of the request's whole index lies in the table, can be fetched, and its check lets it ask for i
  pub record Told (i : Irte) : Type 0 where
    pub e : ℕ
    pub in_table : whole_index request < 2 ^ (registers.s + 1)
    pub fetched : entry 2 m (indexed_entry registers request) ≡ found e
    pub checked : irte_check registers request.source.id e ≡ go i

  -- it asks for a post to a descriptor that can be fetched, and whose check gives the notification
  pub record Posting (descriptor vector : ℕ) (n : Notification) : Type 0 where
    pub urgent : Bool
    pub fpd : Bool
    pub told : Told (posts descriptor vector urgent fpd)
    pub d : ℕ
    pub fetched : entry 8 m descriptor ≡ found d
    pub checked : descriptor_check registers.eime urgent d ≡ go n

  abbrev pub Raised : InterruptOutcome → Type 0
  Raised (remapped r) = Told (remaps r)
  Raised (posted descriptor vector n) = Posting descriptor vector n
  Raised passed = Unit {0}
  Raised (blocked f) = Unit {0}
  Raised (refused number) = Unit {0}

  abbrev From : Delivery → Type 0
  From d = Raised (delivered request.source.id (whole_index request) d)

  descriptor-raised : (i : Irte) → Told i → From (run (on_irte registers.eime i) m)
  unfolding descriptor_rules run
  descriptor-raised (remaps r) told = told
  descriptor-raised (posts at vector urgent fpd) told =
      run-cases posted_descriptor at (fault 0x27 fpd) (descriptor_check registers.eime urgent) (λ d reason. fault reason fpd) (λ n. answer (post at vector n)) m From tt
      (λ d reason there stops. tt)
      (λ d n there goes. record { urgent = urgent; fpd = fpd; told = told; d = d; fetched = there; checked = goes })

  index-raised : From (run (index_rules registers request.source.id (whole_index request)) m)
  unfolding index_rules run
  index-raised =
      chosen (λ q. From (run q m)) (leb (2 ^ (registers.s + 1)) (whole_index request)) (λ h. tt)
      (λ h. run-cases remapping_entry (indexed_entry registers request) (fault 0x23 false) (irte_check registers request.source.id)
      (λ e reason. fault reason (fault_processing_disabled e)) (on_irte registers.eime) m From tt (λ e reason there stops. tt)
      (λ e i there goes. descriptor-raised i (record { e = e; in_table = leb-false _ _ h; fetched = there; checked = goes })))

  pub raised : Raised (run (interrupt_rules registers request) m)
  unfolding run
  raised =
      request-cases registers request (λ q. Raised (run q m)) early-answer
      (rw (run-map (delivered request.source.id (whole_index request)) (index_rules registers request.source.id (whole_index request)) m) index-raised)
    where
      early-answer : (o : InterruptOutcome) → before_table o ≡ true → Raised o
      early-answer passed h = tt
      early-answer (blocked f) h = tt
      early-answer (refused number) h = tt
      early-answer (remapped r) h = let z : ◌≡◌ {A = ℕ} 0 1 = cc in absurd (omega arith)
      early-answer (posted descriptor vector n) h = let z : ◌≡◌ {A = ℕ} 0 1 = cc in absurd (omega arith)

-- what an entry that is let pass asks for
pub asked-for : (registers : Registers) (source e : ℕ) {i : Irte} → irte_check registers source e ≡ go i → irte_of registers.eime e ≡ i
unfolding irte_check
asked-for registers source e {i} h =
    let present = past (not (bit e 0)) 0x22 _ i h in
    let valid = past (reserved_irte registers e) 0x24 _ i present.1 in
    same-go (past (not (source_allowed source e)) 0x26 (go (irte_of registers.eime e)) i valid.1).1

-- a post's descriptor is at a multiple of 64, its vector is one of 256, and its urgency the entry's URG
posted-fields : (eime : Bool) (e : ℕ) {d v : ℕ} {urgent fpd : Bool} → irte_of eime e ≡ posts d v urgent fpd
    → (d % 64 ≡ 0) × (v < 256) × (urgent ≡ urgent_of e)
posted-fields eime e {d} {v} {urgent} {fpd} asked = by (bit e 15) asked
  where
    by : (t : Bool)
        → (if t then posts (descriptor_address e) (bits e 23 16) (urgent_of e) (fault_processing_disabled e) else remaps (remapped_by eime e)) ≡ posts d v urgent fpd
        → (d % 64 ≡ 0) × (v < 256) × (urgent ≡ urgent_of e)
    by true h =
        let at : descriptor_address e ≡ d = cc in
        let same : bits e 23 16 ≡ v = cc in
        (omega arith, omega (arith, fits e 23 16), cc)
    by false h = let z : ◌≡◌ {A = ℕ} 0 1 = cc in absurd (omega arith)

-- as the code's check tells it
pub asked-aligned : (registers : Registers) (source e : ℕ) {d v : ℕ} {urgent fpd : Bool} → asks (posts d v urgent fpd) ≡ asked registers source e → d % 64 ≡ 0
asked-aligned registers source e {d} {v} {urgent} {fpd} h = by (irte_check registers source e) refl h
  where
    by : (k : Check Irte) → irte_check registers source e ≡ k → asks (posts d v urgent fpd) ≡ on_check k (λ reason. stops reason (fault_processing_disabled e)) asks
        → d % 64 ≡ 0
    by (stop reason) told h = let z : ◌≡◌ {A = ℕ} 0 1 = cc in absurd (omega arith)
    by (go i) told h =
        let same : posts d v urgent fpd ≡ i = cc in
        (posted-fields registers.eime e (asked-for registers source e told ∙ sym same)).0

module _ (registers : Registers) (request : InterruptRequest) (m : Memory) {descriptor vector : ℕ} {n : Notification} where
  pub fields-of : (p : Posting registers request m descriptor vector n) → (descriptor % 64 ≡ 0) × (vector < 256) × (p.urgent ≡ urgent_of p.told.e)
  fields-of p =
      posted-fields registers.eime p.told.e (asked-for registers request.source.id p.told.e p.told.checked)

-- a post's descriptor stands whole in a window of memory that isn't refused, at a multiple of 64, and its vector is one of 256
pub record Stands (windows bytes : List ℕ) (descriptor vector : ℕ) : Type 0 where
  pub good : bad_windows windows (length bytes) ≡ false
  pub aligned : descriptor % 64 ≡ 0
  pub place : ℕ
  pub left : ℕ
  pub there : spot_in (windows_of windows) 64 descriptor ≡ here place left
  pub small : vector < 256

abbrev pub Within : (windows bytes : List ℕ) → InterruptOutcome → Type 0
Within windows bytes (posted descriptor vector n) = Stands windows bytes descriptor vector
Within windows bytes passed = Unit {0}
Within windows bytes (remapped r) = Unit {0}
Within windows bytes (blocked f) = Unit {0}
Within windows bytes (refused number) = Unit {0}

pub within : (registers : Registers) (request : InterruptRequest) (windows bytes : List ℕ)
    → Within windows bytes (interrupt_answer registers request windows bytes)
within registers request windows bytes =
    chosen (Within windows bytes) (bad_windows windows (length bytes)) (λ bad. tt)
    (λ good. by good (answer_over registers request m) (raised registers request m))
  where
    m : Memory
    m = of_windows windows bytes

    by : bad_windows windows (length bytes) ≡ false → (o : InterruptOutcome) → Raised registers request m o → Within windows bytes o
    by good (posted at vector n) p =
        let f = fields-of registers request m p in
        let aligned = f.0 in
        let whole = whole-at windows bytes good 7 at (omega arith) p.fetched in
        record { good = good; aligned = aligned; place = whole.place; left = whole.left; there = whole.spot; small = f.1 }
    by good passed p = tt
    by good (remapped r) p = tt
    by good (blocked f) p = tt
    by good (refused number) p = tt

-- a post's windows aren't refused, so that the rules gave it
pub posted-over : (registers : Registers) (request : InterruptRequest) (windows bytes : List ℕ) {descriptor vector : ℕ} {n : Notification}
    → interrupt_answer registers request windows bytes ≡ posted descriptor vector n
    → (bad_windows windows (length bytes) ≡ false) × (answer_over registers request (of_windows windows bytes) ≡ posted descriptor vector n)
posted-over registers request windows bytes {descriptor} {vector} {n} e = by (bad_windows windows (length bytes)) e
  where
    by : (t : Bool) → (if t then refused 1 else answer_over registers request (of_windows windows bytes)) ≡ posted descriptor vector n
        → (t ≡ false) × (answer_over registers request (of_windows windows bytes) ≡ posted descriptor vector n)
    by true h = let z : ◌≡◌ {A = ℕ} 0 1 = cc in absurd (omega arith)
    by false h = (refl, h)
