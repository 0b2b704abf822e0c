-- What every answer of a translation in scalable mode is: those to entries that can't be fetched are faults, no other is an access fault, and a
-- page that is reached holds the host address.
use Prim.Native.Nat.{ℕ, suc, ◌+◌, ◌≤◌, ◌<◌}
use mathlib.Core.Bool.{Bool, true, false, not, ◌&&◌, ◌||◌}
use mathlib.Core.List.{List, [], ◌++◌}
use mathlib.Core.Path.{◌≡◌, refl}
use native.Mathlib.Omega.{arith}
use lib.Dec.{eqb}
use Rattle.image.specs.Bits.{bit, in_place}
use Rattle.image.specs.Check.{Check, stop, go, on_check}
use Rattle.std.specs.Prelude.{if◌then◌else◌}
use Rattle.image.specs.EntryKind.{first_level_entry}
use Rattle.image.specs.Rules.{Rules, answer}
use Rattle.dma.specs.InterruptRange.{span_at}
use Rattle.dma.specs.Page.{leaf_at, page_reserved, host_address}
use Rattle.dma.specs.Translation.{overflows}
use Rattle.dma.specs.Walk.{Step, done, down}
use Rattle.dma.proofs.Stepped.{more-levels}
use Rattle.dma.proofs.Steps.{offset-lt}
use Rattle.pasid.specs.Context.{context_reserved, context_invalid, beyond, context_check}
use Rattle.pasid.specs.Directory.{directory_reserved, directory_check}
use Rattle.pasid.specs.Root.{half, root_reserved, root_check}
use Rattle.pasid.specs.Table.{table_reserved, table_invalid, table_check}
use Rattle.pasid.specs.declared.Pasid.{Pasid}
use Rattle.pasid.specs.declared.ScalableRegisters.{ScalableRegisters}
use Rattle.pasid.specs.declared.context.ScalableContext.{ScalableContext}
use Rattle.pasid.specs.declared.directory.PasidTable.{PasidTable}
use Rattle.pasid.specs.declared.table.PasidEntry.{PasidEntry}
use Rattle.first.specs.First.{FirstStep, down as down_to, page as page_at, fault as stopped, on_first, flag_clear, first_reserved, not_snooped, user_denied, write_denied, first_frame, first_step, not_canonical}
use Rattle.second.specs.Second.{Walked, page, fault as no_page, SecondHanded as Above, readable, writable, flags_not_snooped, second_flags, handed_on, at_top, no_second_entry, second_step, second_rules}
use Rattle.second.specs.declared.step.Wanted.{Wanted}
use Rattle.nested.specs.Pages.{Pages, reached, fault, FirstHanded, first_handed, no_first_entry, wanted_of_entry, wanted_of_page, entry_flags, to_entry, to_page, intermediate_rules, locate, host_page_rules, walk_step, first_rules, pages_rules}
use Rattle.nested.specs.Way.{Located, located, lost}
use Rattle.scalable.specs.Isolation.{access_reason}
use Rattle.scalable.specs.Lookup.{Lookup, pasid_entry, no_pasid_entry, table_rules, directory_rules, context_rules, lookup_rules}
use Rattle.scalable.specs.Requests.{Translation, through, translated, without_entry, second_pages, paged_rules, type_rules, looked_up, translation_rules}
use Rattle.claims.proofs.ScalableTold.{Told, told-answer, told-fetch, told-if, told-map, told-then, StepSays, step-if, told-walk, told-way}

-- a walk through the second level: a page, or a fault
abbrev OutWalked : Walked → Type 0
OutWalked (page frame level may flags) = ⊥
OutWalked (no_page reason fpd) = Unit {0}

abbrev SaysWalked : Walked → Type 0
SaysWalked (page frame level may flags) = Unit {0}
SaysWalked (no_page reason fpd) = access_reason reason ≡ false

-- a page that is reached holds the host address
abbrev OutPages : Pages → Type 0
OutPages (reached frame level host flags) = ⊥
OutPages (fault reason fpd) = Unit {0}

abbrev SaysPages : Pages → Type 0
SaysPages (reached frame level host flags) = (frame ≤ host) × (host < frame + span_at level)
SaysPages (fault reason fpd) = access_reason reason ≡ false

abbrev pub OutTranslation : Translation → Type 0
OutTranslation through = ⊥
OutTranslation (translated w) = OutPages w

abbrev pub SaysTranslation : Translation → Type 0
SaysTranslation through = Unit {0}
SaysTranslation (translated w) = SaysPages w

-- a PASID table entry that is found has tables of some levels
abbrev OutLookup : Lookup → Type 0
OutLookup (pasid_entry p) = ⊥
OutLookup (no_pasid_entry reason fpd) = Unit {0}

abbrev Levels : PasidEntry → Type 0
Levels p = (0 < p.second_levels) × (0 < p.first_levels)

abbrev SaysLookup : Lookup → Type 0
SaysLookup (pasid_entry p) = Levels p
SaysLookup (no_pasid_entry reason fpd) = access_reason reason ≡ false

-- a check stops with no access fault
abbrev Checks : {A : Type 0} → (A → Type 0) → Check A → Type 0
Checks Goes (stop reason) = access_reason reason ≡ false
Checks Goes (go a) = Goes a

tested : {A : Type 0} (Goes : A → Type 0) (t : Bool) (reason : ℕ) (rest : Check A) → access_reason reason ≡ false → Checks Goes rest
    → Checks Goes (if t then stop reason else rest)
tested Goes true reason rest h k = h
tested Goes false reason rest h k = k

told-check : {A B : Type 0} (Out Says : A → Type 0) (Goes : B → Type 0) (k : Check B) (stops : ℕ → A) (next : B → Rules A) → Checks Goes k
    → ((reason : ℕ) → access_reason reason ≡ false → Says (stops reason)) → ((b : B) → Goes b → Told Out Says (next b))
    → Told Out Says (on_check k (λ reason. answer (stops reason)) next)
told-check Out Says Goes (stop reason) stops next h says goes = told-answer Out Says (stops reason) (says reason h)
told-check Out Says Goes (go b) stops next h says goes = goes b h

module _ (r : ScalableRegisters) where
  root-checks : (upper : Bool) (e : ℕ) → Checks (λ table. Unit {0}) (root_check r.base.haw upper e)
  unfolding root_check
  root-checks upper e =
      tested _ (not (bit (half upper e) 0)) 0x39 _ refl (tested _ (root_reserved r.base.haw e) 0x3A _ refl tt)

  context-checks : (pasid : Pasid) (e : ℕ) → Checks (λ c. Unit {0}) (context_check r.base.haw pasid e)
  unfolding context_check
  context-checks pasid e =
      tested _ (not (bit e 0)) 0x41 _ refl
      (tested _ (context_reserved r.base.haw e) 0x42 _ refl
      (tested _ (context_invalid pasid e) 0x43 _ refl
      (tested _ (pasid.present && not (bit e 3)) 0x45 _ refl (tested _ (pasid.present && beyond e pasid.value) 0x46 _ refl tt))))

  directory-checks : (fpd : Bool) (e : ℕ) → Checks (λ t. Unit {0}) (directory_check r.base.haw fpd e)
  unfolding directory_check
  directory-checks fpd e = tested _ (not (bit e 0)) 0x51 _ refl (tested _ (directory_reserved r.base.haw e) 0x52 _ refl tt)

  table-checks : (privileged fpd : Bool) (e : ℕ) → Checks Levels (table_check r privileged fpd e)
  unfolding table_check
  table-checks privileged fpd e =
      tested _ (not (bit e 0)) 0x59 _ refl
      (tested _ (table_reserved r e) 0x5A _ refl
      (tested _ (table_invalid r e) 0x5B _ refl (tested _ (privileged && not (bit e 128)) 0x5D _ refl (omega arith, omega arith))))

  table-told : (c : ScalableContext) (t : PasidTable) → Told OutLookup SaysLookup (table_rules r c t)
  unfolding table_rules
  table-told c t =
      told-fetch OutLookup SaysLookup _ _ _ _ tt
      (λ e.
      told-check OutLookup SaysLookup Levels (table_check r c.privileged t.fpd e) (λ reason. no_pasid_entry reason (t.fpd || bit e 1)) (λ p. answer (pasid_entry p)) (table-checks c.privileged t.fpd e)
      (λ reason h. h) (λ p h. told-answer OutLookup SaysLookup (pasid_entry p) h))

  directory-told : (c : ScalableContext) → Told OutLookup SaysLookup (directory_rules r c)
  unfolding directory_rules
  directory-told c =
      told-fetch OutLookup SaysLookup _ _ _ _ tt
      (λ e.
      told-check OutLookup SaysLookup _ (directory_check r.base.haw c.fpd e) (λ reason. no_pasid_entry reason (c.fpd || bit e 1)) (table_rules r c) (directory-checks c.fpd e)
      (λ reason h. h) (λ t h. table-told c t))

  context-told : (pasid : Pasid) (source table : ℕ) → Told OutLookup SaysLookup (context_rules r pasid source table)
  unfolding context_rules
  context-told pasid source table =
      told-fetch OutLookup SaysLookup _ _ _ _ tt
      (λ e.
      told-check OutLookup SaysLookup _ (context_check r.base.haw pasid e) (λ reason. no_pasid_entry reason (bit e 1)) (directory_rules r) (context-checks pasid e)
      (λ reason h. h) (λ c h. directory-told c))

  lookup-told : (pasid : Pasid) (source : ℕ) → Told OutLookup SaysLookup (lookup_rules r pasid source)
  unfolding lookup_rules
  lookup-told pasid source =
      told-fetch OutLookup SaysLookup _ _ _ _ tt
      (λ e.
      told-check OutLookup SaysLookup _ (root_check r.base.haw (bit source 7) e) (λ reason. no_pasid_entry reason false) (context_rules r pasid source) (root-checks (bit source 7) e)
      (λ reason h. h) (λ table h. context-told pasid source table))

  module _ (p : PasidEntry) where
    second-step : (wanted : Wanted) (n place : ℕ) (s : Above) (e : ℕ) → StepSays SaysWalked n (second_step r p wanted (suc n) place s e)
    second-step wanted n place s e =
        step-if SaysWalked n (not (readable s e || writable s e)) (done (no_page 0x79 p.fpd)) _ refl
        (step-if SaysWalked n (page_reserved r.base (suc n) e) (done (no_page 0x7A p.fpd)) _ refl
        (step-if SaysWalked n (flags_not_snooped r p wanted.write (suc n) e) (done (no_page 0x7C p.fpd)) _ refl
        (step-if SaysWalked n (wanted.write && not (bit e 1)) (done (no_page 0x85 p.fpd)) _ refl
        (step-if SaysWalked n (wanted.read && not (bit e 0)) (done (no_page 0x86 p.fpd)) _ refl (last (leaf_at (suc n) e) refl)))))
      where
        last : (leaf : Bool) → leaf_at (suc n) e ≡ leaf
            → StepSays SaysWalked n
            (if leaf then done (page (in_place e 51 12) (suc n) (writable s e) (s.flags ++ second_flags p wanted.write place e))
            else down (in_place e 51 12) (handed_on s e (second_flags p false place e)))
        last true h = tt
        last false h = more-levels n e h

    second-told : 0 < p.second_levels → (wanted : Wanted) (address : ℕ) (flags : List ℕ)
        → Told OutWalked SaysWalked (second_rules r p wanted address p.second_levels p.second_top (at_top flags))
    second-told some wanted address flags =
        told-walk OutWalked SaysWalked address (no_second_entry r p wanted) (second_step r p wanted) (λ s. tt) (second-step wanted) p.second_levels p.second_top (at_top flags) some

    held : (level frame address : ℕ) → (frame ≤ host_address level frame address) × (host_address level frame address < frame + span_at level)
    held level frame address = (omega arith, omega (arith, offset-lt address level))

    page-says : (host : ℕ) (w : Walked) → SaysWalked w → SaysPages (to_page host w)
    page-says host (page frame level may flags) h = held level frame host
    page-says host (no_page reason fpd) h = h

    page-out : (host : ℕ) (w : Walked) → OutWalked w → OutPages (to_page host w)
    page-out host (page frame level may flags) h = absurd h
    page-out host (no_page reason fpd) h = tt

    first_step_lem : (address : ℕ) (write : Bool) (n place : ℕ) (s : FirstHanded) (e : ℕ) → StepSays SaysPages n (walk_step r p address write (suc n) place s e)
    unfolding first_step
    first_step_lem address write n place s e =
        let clear = flag_clear p write (leaf_at (suc n) e) e in
        on (not (bit e 0)) (stopped 0x71 p.fpd) _ refl
        (on (first_reserved r p.nxe (suc n) e) (stopped 0x72 p.fpd) _ refl
        (on (not_snooped r p clear) (stopped 0x7C p.fpd) _ refl
        (on (user_denied p e) (stopped 0x81 p.fpd) _ refl (on (write_denied p write s.writable clear e) (stopped 0x85 p.fpd) _ refl (last (leaf_at (suc n) e) refl)))))
      where
        told : FirstStep → Step FirstHanded Pages
        told x =
            on_first x (λ table. down table (first_handed false (s.flags ++ entry_flags p write false place e)))
            (λ frame level. done (reached frame level (host_address level frame address) (s.flags ++ entry_flags p write true place e)))
            (λ reason fpd. done (fault reason fpd))

        on : (t : Bool) (x y : FirstStep) → StepSays SaysPages n (told x) → StepSays SaysPages n (told y) → StepSays SaysPages n (told (if t then x else y))
        on true x y h k = h
        on false x y h k = k

        last : (leaf : Bool) → leaf_at (suc n) e ≡ leaf
            → StepSays SaysPages n (told (if leaf then page_at (first_frame (suc n) e) (suc n) else down_to (in_place e 51 12)))
        last true h = held (suc n) (first_frame (suc n) e) address
        last false h = more-levels n e h

    module _ (levels : Levels p) where
      intermediate-told : (wanted : Wanted) (address : ℕ) (flags : List ℕ) → Told OutWalked SaysWalked (intermediate_rules r p wanted address flags)
      unfolding intermediate_rules
      intermediate-told wanted address flags =
          told-if OutWalked SaysWalked (overflows r.base p.second_levels address) (answer (no_page 0x74 p.fpd)) _ (told-answer OutWalked SaysWalked _ refl)
          (second-told levels.0 wanted address flags)

      module _ (address : ℕ) (write : Bool) where
        abbrev OutLocated : Located FirstHanded Pages → Type 0
        OutLocated (located place s) = ⊥
        OutLocated (lost a) = OutPages a

        abbrev SaysLocated : Located FirstHanded Pages → Type 0
        SaysLocated (located place s) = Unit {0}
        SaysLocated (lost a) = SaysPages a

        entry-says : (top : Bool) (place : ℕ) (w : Walked) → SaysWalked w → SaysLocated (to_entry top place w)
        entry-says top place (page frame level may flags) h = tt
        entry-says top place (no_page reason fpd) h = h

        entry-out : (top : Bool) (place : ℕ) (w : Walked) → OutWalked w → OutLocated (to_entry top place w)
        entry-out top place (page frame level may flags) h = absurd h
        entry-out top place (no_page reason fpd) h = tt

        locate-told : (s : FirstHanded) (place : ℕ) → Told OutLocated SaysLocated (locate r p s place)
        unfolding locate
        locate-told s place =
            told-if OutLocated SaysLocated (eqb p.kind 3) _ (answer (located place s))
            (told-map (to_entry s.top place) OutWalked SaysWalked OutLocated SaysLocated (entry-out s.top place) (entry-says s.top place)
            (intermediate_rules r p (wanted_of_entry p) place s.flags) (intermediate-told (wanted_of_entry p) place s.flags))
            (told-answer OutLocated SaysLocated (located place s) tt)

        first-told : Told OutPages SaysPages (first_rules r p address write p.first_levels p.first_top (first_handed true []))
        first-told =
            told-way OutPages SaysPages address (no_first_entry p) (walk_step r p address write) (λ s. tt) (first_step_lem address write) first_level_entry (locate r p) locate-told
            p.first_levels p.first_top (first_handed true []) levels.1

        final-told : (w : Pages) → SaysPages w → Told OutPages SaysPages (host_page_rules r p write w)
        unfolding host_page_rules
        final-told (reached frame level host flags) h =
            told-if OutPages SaysPages (eqb p.kind 3) _ (answer (reached frame level host flags))
            (told-map (to_page host) OutWalked SaysWalked OutPages SaysPages (page-out host) (page-says host)
            (intermediate_rules r p (wanted_of_page write) host flags) (intermediate-told (wanted_of_page write) host flags))
            (told-answer OutPages SaysPages (reached frame level host flags) h)
        final-told (fault reason fpd) h = told-answer OutPages SaysPages (fault reason fpd) h

        pages-told : Told OutPages SaysPages (pages_rules r p address write)
        pages-told =
            told-then (λ w. w) (host_page_rules r p write) OutPages SaysPages OutPages SaysPages (λ w h. h) final-told
            (first_rules r p address write p.first_levels p.first_top (first_handed true [])) first-told

        alone-told : Told OutPages SaysPages (second_pages r address write p)
        unfolding second_pages
        alone-told =
            told-if OutPages SaysPages (overflows r.base p.second_levels address) (answer (fault 0x84 p.fpd)) _ (told-answer OutPages SaysPages _ refl)
            (told-map (to_page address) OutWalked SaysWalked OutPages SaysPages (page-out address) (page-says address) _
            (second-told levels.0 (wanted_of_page write) address []))

        paged-told : Told OutPages SaysPages (paged_rules r address write p)
        unfolding paged_rules
        paged-told =
            told-if OutPages SaysPages (eqb p.kind 2) (second_pages r address write p) _ alone-told
            (told-if OutPages SaysPages (not_canonical p.first_levels address) (answer (fault 0x80 p.fpd)) _ (told-answer OutPages SaysPages _ refl)
            pages-told)

        type-told : Told OutTranslation SaysTranslation (type_rules r address write p)
        unfolding type_rules
        type-told =
            told-if OutTranslation SaysTranslation (eqb p.kind 4) (answer through) _ (told-answer OutTranslation SaysTranslation through tt)
            (told-map translated OutPages SaysPages OutTranslation SaysTranslation (λ w h. h) (λ w h. h) (paged_rules r address write p) paged-told)

  pub translation-told : (address : ℕ) (write : Bool) (pasid : Pasid) (source : ℕ)
      → Told OutTranslation SaysTranslation (translation_rules r address write pasid source)
  translation-told address write pasid source =
      told-then without_entry (looked_up r address write) OutLookup SaysLookup OutTranslation SaysTranslation out says (lookup_rules r pasid source)
      (lookup-told pasid source)
    where
      out : (l : Lookup) → OutLookup l → OutTranslation (without_entry l)
      out (pasid_entry p) h = absurd h
      out (no_pasid_entry reason fpd) h = tt

      says : (l : Lookup) → SaysLookup l → Told OutTranslation SaysTranslation (looked_up r address write l)
      says (pasid_entry p) h = type-told p h address write
      says (no_pasid_entry reason fpd) h = told-answer OutTranslation SaysTranslation (translated (fault reason fpd)) h
