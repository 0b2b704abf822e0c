-- Which interrupt is raised, from the entry that a request was told by.
use Prim.Native.Nat.{ℕ}
use mathlib.Core.Bool.{Bool, true, false, not}
use mathlib.Core.Path.{◌≡◌, refl, sym}
use native.Mathlib.Omega.{arith}
use borrow.Author.Tests.{not-false, eqb-true}
use Rattle.image.specs.Bits.{bits, bit}
use Rattle.image.specs.Check.{go}
use Rattle.std.specs.Prelude.{if◌then◌else◌}
use Rattle.image.specs.Memory.{Memory, found, entry}
use Rattle.image.proofs.Choices.{past}
use Rattle.registers.specs.declared.Registers.{Registers}
use Rattle.irte.specs.Irte.{Remapped, Irte, remaps, posts, remapped_by, descriptor_address, reserved_irte, irte_of, irte_check, urgent_of, fault_processing_disabled}
use Rattle.irte.specs.Source.{source_allowed}
use Rattle.interrupts.specs.Claims.{indexed_entry}
use Rattle.interrupts.specs.RaisedBy.{ItsEntry, RemappedByEntry, PostedByEntry, Raises, remapping, posting, OneSource, ExactSource}
use Rattle.interrupts.specs.declared.InterruptRequest.{InterruptRequest}
use Rattle.interrupts.proofs.Raised.{Told, Posting, raised, asked-for}

module _ (registers : Registers) (request : InterruptRequest) (m : Memory) {i : Irte} where
  its-entry : (told : Told registers request m i) → ItsEntry registers request m told.e
  unfolding irte_check
  its-entry told =
      let e = told.e in
      let present = past (not (bit e 0)) 0x22 _ i told.checked in
      let valid = past (reserved_irte registers e) 0x24 _ i present.1 in
      let admitted = past (not (source_allowed request.source.id e)) 0x26 (go (irte_of registers.eime e)) i valid.1 in
      record {
        in_table = told.in_table;
        fetched = told.fetched;
        present = not-false _ present.0;
        valid = valid.0;
        admitted = not-false _ admitted.0;
      }

  its-request : (told : Told registers request m i) → irte_of registers.eime told.e ≡ i
  its-request told = asked-for registers request.source.id told.e told.checked

-- the fields of what an entry asks for
module _ (eime : Bool) (e : ℕ) where
  abbrev asking : Bool → Irte
  asking t =
      if t then posts (descriptor_address e) (bits e 23 16) (urgent_of e) (fault_processing_disabled e)
      else remaps (remapped_by eime e)

  remaps-fields : {r : Remapped} → irte_of eime e ≡ remaps r → (bit e 15 ≡ false) × (r ≡ remapped_by eime e)
  remaps-fields {r} asked = by (bit e 15) refl asked
    where
      by : (t : Bool) → bit e 15 ≡ t → asking t ≡ remaps r → (bit e 15 ≡ false) × (r ≡ remapped_by eime e)
      by true posted h = let z : ◌≡◌ {A = ℕ} 0 1 = cc in absurd (omega arith)
      by false kind h = (kind, cc)

  pub posts-fields : {descriptor vector : ℕ} {urgent fpd : Bool} → irte_of eime e ≡ posts descriptor vector urgent fpd
      → (bit e 15 ≡ true) × (descriptor ≡ descriptor_address e) × (vector ≡ bits e 23 16)
  posts-fields {descriptor} {vector} {urgent} {fpd} asked = by (bit e 15) refl asked
    where
      by : (t : Bool) → bit e 15 ≡ t → asking t ≡ posts descriptor vector urgent fpd
          → (bit e 15 ≡ true) × (descriptor ≡ descriptor_address e) × (vector ≡ bits e 23 16)
      by true kind h = (kind, cc, cc)
      by false remapped h = let z : ◌≡◌ {A = ℕ} 0 1 = cc in absurd (omega arith)

pub remapped-by-entry : RemappedByEntry
remapped-by-entry registers request m r h =
    let told : Told registers request m (remaps r) = rw h at (raised registers request m) in
    let f = remaps-fields registers.eime told.e (its-request registers request m told) in
    (told.e, its-entry registers request m told, f.0, f.1)

pub posted-by-entry : PostedByEntry
posted-by-entry registers request m descriptor vector n h =
    let p : Posting registers request m descriptor vector n = rw h at (raised registers request m) in
    let told = p.told in
    let f = posts-fields registers.eime told.e (its-request registers request m told) in
    (told.e, its-entry registers request m told, f.0, f.1, f.2)

-- the entry of a request that raises an interrupt admits its source
admits : (registers : Registers) (request : InterruptRequest) (m : Memory) (e : ℕ)
    → entry 2 m (indexed_entry registers request) ≡ found e → Raises registers request m
    → source_allowed request.source.id e ≡ true
admits registers request m e there raises = by raises
  where
    same : (e' : ℕ) → ItsEntry registers request m e' → source_allowed request.source.id e ≡ true
    same e' its = let one : e' ≡ e = cc its.fetched in rw one at its.admitted

    by : Raises registers request m → source_allowed request.source.id e ≡ true
    by (remapping {r} h) = let told = remapped-by-entry registers request m r h in same told.0 told.1
    by (posting {descriptor} {vector} {n} h) =
        let told = posted-by-entry registers request m descriptor vector n h in
        same told.0 told.1

pub one-source : OneSource
one-source registers m index e owner there only request whole raises =
    only request.source.id (admits registers request m e (rw whole there) raises)

pub exact-source : ExactSource
unfolding source_allowed
exact-source registers m request e there svt sq raises =
    let allowed = rw (svt, sq) at (admits registers request m e there raises) in
    sym (eqb-true (bits e 79 64) request.source.id allowed)
