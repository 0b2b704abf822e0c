-- The region of an address beside the walk of an untranslated request there.
use Prim.Native.Nat.{ℕ, zero, suc, ◌+◌, ◌*◌, ◌/◌, ◌^◌, ◌<◌}
use mathlib.Core.Bool.{Bool, true, false}
use mathlib.Core.Path.{◌≡◌, refl, ap, sym, ◌∙◌, subst}
use native.Mathlib.Nat.{mod-lt}
use native.Mathlib.Omega.{arith}
use Rattle.image.specs.Bits.{any_set, bits, in_place}
use Rattle.image.specs.Check.{stop}
use Rattle.std.specs.Prelude.{if◌then◌else◌}
use Rattle.image.specs.Memory.{Memory, Fetched, missing, found, entry, on_fetch}
use Rattle.image.specs.Rules.{run}
use Rattle.registers.specs.declared.Registers.{Registers}
use Rattle.dma.specs.InterruptRange.{meets_interrupt_range, span_at}
use Rattle.dma.specs.Page.{denied, own_right, leaf_at, page_reserved, page_check, host_address}
use Rattle.dma.specs.Requests.{MemoryOutcome, granted, blocked, refused, memory_outcome}
use Rattle.dma.specs.Translation as plain
use Rattle.dma.specs.Walk.{Step, done, on_step, place_in, walk_rules, step_over}
use Rattle.dma.specs.declared.MemoryRequest.{MemoryRequest}
use Rattle.dma.proofs.Steps.{index_of}
use Rattle.dma.proofs.Walks.{walk_step_lem}
use Rattle.faults.specs.Record.{memory_fault}
use Rattle.translation.specs.Completion.{Completion, entry_step}
use Rattle.translation.specs.Completion as completion
use Rattle.translation.specs.Rights.{neither, joined, right_of}
use Rattle.translation.specs.declared.Rights.{Rights}
use Rattle.translation.proofs.Entries.{step-cases, joined-right, none_left, check-clear, check-lost, check-own}
use Rattle.regions.specs.Region.{What, Region, ended, region_in}
use Rattle.regions.specs.Region as region
use Rattle.regions.proofs.Regions.{first}
use Rattle.agreement.specs.Claims.{NoEntryOutside, lacking}

check-reserved : (registers : Registers) (write : Bool) (level e : ℕ) → any_set e 1 0 ≡ true → page_reserved registers level e ≡ true
    → page_check registers write level e ≡ stop 0x0C
unfolding page_check
check-reserved registers write level e any set = rw (any, set)

off : (write : Bool) → right_of write neither ≡ false
off true = refl
off false = refl

-- what a region says of a request: of a page, the frame plus the offset in the region
abbrev pub said : (fpd : Bool) → What → (level : ℕ) → MemoryRequest → MemoryOutcome
said fpd (region.page frame) level r = granted (host_address level frame r.address)
said fpd (region.fault reason) level r = blocked (memory_fault reason fpd r.source.id r.address r.write)
said fpd (region.refused number) level r = refused number
said fpd region.nothing level r = lacking fpd r

abbrev pub answered : (fpd : Bool) → MemoryRequest → Region → MemoryOutcome
answered fpd r x = if right_of r.write x.rights then said fpd x.what x.level r else lacking fpd r

module _ (registers : Registers) (m : Memory) (outside : (table : ℕ) → Bool) (none : NoEntryOutside m outside) (fpd : Bool) (r : MemoryRequest) where
  abbrev address : ℕ
  address = r.address

  abbrev write : Bool
  write = r.write

  abbrev here : (level table : ℕ) → Rights → Region
  here = region_in registers m outside address

  abbrev entered : (n table : ℕ) → Rights → Step Rights Completion
  entered n table above =
      on_fetch (entry 1 m (place_in address table n)) (done (completion.fault 0x07 false)) (entry_step registers false (suc n) (place_in address table n) above)

  abbrev after : (n : ℕ) → Rights → Step Rights Completion → Region
  after n above step = on_step step (ended (suc n) above) (here n)

  abbrev all : (n : ℕ) → Rights → Region
  all n above = record { level = suc (suc n); what = region.fault 0x07; rights = above }

  -- a right that is lost above is lost
  lost : (level table : ℕ) (above : Rights) → right_of write above ≡ false → right_of write (here level table above).rights ≡ false
  unfolding region_in
  lost zero table above is = is
  lost (suc n) table above is =
      subst (λ (x : Region). right_of write x.rights ≡ false) (sym (first registers m outside address n table above)) (by (outside table) (lost n))
    where
      Ih : Type 0
      Ih = (next : ℕ) (t : Rights) → right_of write t ≡ false → right_of write (here n next t).rights ≡ false

      still : (e : ℕ) → right_of write (joined above e) ≡ false
      still e = joined-right write above e ∙ rw is

      on : (f : Fetched) → Ih
          → right_of write
          (after n above (on_fetch f (done (completion.fault 0x07 false)) (entry_step registers false (suc n) (place_in address table n) above))).rights
          ≡ false
      on missing ih = is
      on (found e) ih =
          step-cases registers false (suc n) (place_in address table n) above e (λ x. right_of write (after n above x).rights ≡ false)
          (λ none. off write) (λ any set. is) (λ any free none. off write) (λ any free left leaf. still e)
          (λ any free left more. ih (in_place e 51 12) (joined above e) (still e))

      by : (o : Bool) → Ih → right_of write (if o then all n above else after n above (entered n table above)).rights ≡ false
      by true ih = is
      by false ih = on (entry 1 m (place_in address table n)) ih

  abbrev walk : (level table : ℕ) → plain.Translation
  walk level table = run (plain.page_rules registers address write fpd level table) m

  abbrev walk_after : (n : ℕ) → Step (Unit {0}) plain.Translation → plain.Translation
  walk_after n x = on_step x (λ t. t) (λ next t. walk n next)

  abbrev stepped : (n table : ℕ) → Fetched → Step (Unit {0}) plain.Translation
  stepped n table f = on_fetch f (done (plain.fault 0x07 fpd)) (plain.page_step registers address write fpd (suc n) (place_in address table n) tt)

  abbrev Alike : plain.Translation → Region → Type 0
  Alike t x = memory_outcome r t ≡ answered fpd r x

  -- an entry that says no
  denied-alike : (x : Region) → right_of write x.rights ≡ false → Alike (plain.fault (denied write) fpd) x
  denied-alike x is = rw is

  step_is : (n table : ℕ)
      → walk_after n (step_over address (λ s. plain.fault 0x07 fpd) (plain.page_step registers address write fpd) m n table tt)
      ≡ walk_after n (stepped n table (entry 1 m (place_in address table n)))
  unfolding step_over
  step_is n table = refl

  pub region-alike : (level table : ℕ) (above : Rights) → right_of write above ≡ true → Alike (walk level table) (here level table above)
  unfolding run walk_rules region_in
  region-alike zero table above on = rw on
  region-alike (suc n) table above on =
      ap (memory_outcome r) (walk_step_lem address (λ s. plain.fault 0x07 fpd) (plain.page_step registers address write fpd) m n table tt ∙ step_is n table)
      ∙ subst (Alike (walk_after n (stepped n table (entry 1 m (place_in address table n))))) (sym (first registers m outside address n table above))
      (by (outside table) refl (region-alike n))
    where
      Ih : Type 0
      Ih = (next : ℕ) (t : Rights) → right_of write t ≡ true → Alike (walk n next) (here n next t)

      same-own : (e : ℕ) → right_of write (joined above e) ≡ own_right write e
      same-own e = joined-right write above e ∙ rw on

      place : ℕ
      place = place_in address table n

      leaf-meets : (e : ℕ) (meets : Bool) → meets_interrupt_range (in_place e 51 12) (span_at (suc n)) ≡ meets
          → (if meets then refused 4 else granted (host_address (suc n) (in_place e 51 12) address))
          ≡ said fpd (if meets then region.refused 4 else region.page (in_place e 51 12)) (suc n) r
      leaf-meets e true is = refl
      leaf-meets e false is = refl

      ends : (e : ℕ) → any_set e 1 0 ≡ true → page_reserved registers (suc n) e ≡ false → leaf_at (suc n) e ≡ true
          → (has : Bool) → own_right write e ≡ has
          → Alike (walk_after n (plain.page_step registers address write fpd (suc n) place tt e))
          (ended (suc n) above (completion.page (in_place e 51 12) (suc n) (joined above e)))
      ends e any free leaf true is =
          rw (check-own registers write (suc n) e any free is, leaf, same-own e, is)
          (leaf-meets e (meets_interrupt_range (in_place e 51 12) (span_at (suc n))) refl)
      ends e any free leaf false is = rw (check-lost registers write (suc n) e any free is, same-own e, is)

      leads : Ih → (e : ℕ) → any_set e 1 0 ≡ true → page_reserved registers (suc n) e ≡ false → leaf_at (suc n) e ≡ false
          → (has : Bool) → own_right write e ≡ has
          → Alike (walk_after n (plain.page_step registers address write fpd (suc n) place tt e)) (here n (in_place e 51 12) (joined above e))
      leads ih e any free more true is =
          rw (check-own registers write (suc n) e any free is, more) (ih (in_place e 51 12) (joined above e) (same-own e ∙ is))
      leads ih e any free more false is =
          rw (check-lost registers write (suc n) e any free is)
          (denied-alike (here n (in_place e 51 12) (joined above e)) (lost n (in_place e 51 12) (joined above e) (same-own e ∙ is)))

      on-entry : (f : Fetched) → Ih
          → Alike (walk_after n (stepped n table f))
          (after n above (on_fetch f (done (completion.fault 0x07 false)) (entry_step registers false (suc n) place above)))
      on-entry missing ih = rw on
      on-entry (found e) ih =
          step-cases registers false (suc n) place above e
          (λ x. Alike (walk_after n (plain.page_step registers address write fpd (suc n) place tt e)) (after n above x))
          (λ none. rw (check-clear registers write (suc n) e none, off write))
          (λ any set. rw (check-reserved registers write (suc n) e any set, on))
          (λ any free none. rw (check-lost registers write (suc n) e any free (sym (same-own e) ∙ none_left write (joined above e) none), off write))
          (λ any free left leaf. ends e any free leaf (own_right write e) refl)
          (λ any free left more. leads ih e any free more (own_right write e) refl)

      index : ℕ
      index = bits address (20 + 9 * n) (12 + 9 * n)

      below : index < 512
      below = subst (λ (i : ℕ). i < 512) (index_of address n) (mod-lt (address / 2 ^ (12 + 9 * n)) {m = 512} (omega arith))

      by : (o : Bool) → outside table ≡ o → Ih
          → Alike (walk_after n (stepped n table (entry 1 m place))) (if o then all n above else after n above (entered n table above))
      by true is ih =
          subst (λ (f : Fetched). Alike (walk_after n (stepped n table f)) (all n above)) (sym (none table index is below)) (rw on)
      by false is ih = on-entry (entry 1 m place) ih
