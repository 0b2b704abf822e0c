-- First-level and nested translation (document 003, 3.6 and 3.8). Both walk the first level's tables. In a nested translation the addresses of
-- its entries, and that of its page, are intermediate ones, which the second level translates.
use Rattle.std.specs.Prelude.{ℕ, ◌%◌, ◌^◌, ◌<◌, ◌≤◌, Bool, true, false, not, List, [], ◌++◌, map, ◌≡◌, eqb}
use Rattle.std.specs.Prelude.{if◌then◌else◌}
use Rattle.image.specs.EntryKind.{first_level_entry}
use Rattle.image.specs.Rules.{Rules, answer, map_rules}
use Rattle.dma.specs.Page.{host_address}
use Rattle.dma.specs.Translation.{overflows}
use Rattle.dma.specs.Walk.{Step, done, down}
use Rattle.pasid.specs.declared.ScalableRegisters.{ScalableRegisters}
use Rattle.pasid.specs.declared.table.PasidEntry.{PasidEntry}
use Rattle.flags.specs.Flags.{flag}
use Rattle.first.specs.First.{first_flags, flag_clear, first_step, on_first, unfetchable_reason}
use Rattle.second.specs.Second.{Walked, page, fault as no_page, at_top, second_rules}
use Rattle.second.specs.declared.step.Wanted.{Wanted}
use Rattle.nested.specs.Then.{then_rules}
use Rattle.nested.specs.Way.{Located, located, lost, way_rules}

-- the page that a translation ends with: its frame, the level of its entry, where in host memory the address is, and the flags of the entries
-- that were used; or a fault with FPD
pub data Pages : Type 0 where
  reached : (frame level host : ℕ) (flags : List ℕ) → Pages
  fault : (reason : ℕ) (fpd : Bool) → Pages

-- what is handed to a first-level entry: whether it is the top one, whether the way to it may be written, and the flags of the entries before
pub record FirstHanded : Type 0 where
  pub top : Bool
  pub writable : Bool
  pub flags : List ℕ

-- the way counts as one that may be written, until the second level says otherwise
abbrev pub first_handed : (top : Bool) (flags : List ℕ) → FirstHanded
first_handed top flags = record { top = top; writable = true; flags = flags }

-- the flags of the entry at a host address, where one of them is still clear: setting those that are set changes nothing
abbrev pub entry_flags : PasidEntry → (write leaf : Bool) (place e : ℕ) → List ℕ
entry_flags p write leaf place e = if flag_clear p write leaf e then map (flag place) (first_flags p write leaf) else []

-- an entry that can't be fetched: 73h the top one, 70h any other
abbrev pub no_first_entry : PasidEntry → FirstHanded → Pages
no_first_entry p s = fault (unfetchable_reason s.top) p.fpd

-- through the second level an entry is read, and with SLADE it counts as written, whether or not a flag of it has to be set
abbrev pub wanted_of_entry : PasidEntry → Wanted
wanted_of_entry p = record { read = true; write = p.slade }

-- of a page the right that the request asks for: R for a read, W for a write
abbrev pub wanted_of_page : (write : Bool) → Wanted
wanted_of_page write = record { read = not write; write = write }

-- what the second level says of an entry's address, and of a page's
abbrev pub to_entry : (top : Bool) (place : ℕ) → Walked → Located FirstHanded Pages
to_entry top place (page frame level writable flags) =
    located (host_address level frame place) (record { top = top; writable = writable; flags = flags })
to_entry top place (no_page reason fpd) = lost (fault reason fpd)

abbrev pub to_page : (host : ℕ) → Walked → Pages
to_page host (page frame level writable flags) = reached frame level (host_address level frame host) flags
to_page host (no_page reason fpd) = fault reason fpd

module _ (r : ScalableRegisters) (p : PasidEntry) where
  -- an intermediate address: 74h at or above 2^X, else the second-level walk
  unfoldable pub intermediate_rules : Wanted → (address : ℕ) (flags : List ℕ) → Rules Walked
  intermediate_rules wanted address flags =
      if overflows r.base p.second_levels address then answer (no_page 0x74 p.fpd)
      else second_rules r p wanted address p.second_levels p.second_top (at_top flags)

  -- where a first-level entry stands: at the address itself, or in a nested translation where the second level says
  unfoldable pub locate : FirstHanded → (place : ℕ) → Rules (Located FirstHanded Pages)
  locate s place =
      if eqb p.kind 3 then map_rules (to_entry s.top place) (intermediate_rules (wanted_of_entry p) place s.flags)
      else answer (located place s)

  -- in a nested translation the first level's page is at an intermediate address
  unfoldable pub host_page_rules : (write : Bool) → Pages → Rules Pages
  host_page_rules write (reached frame level host flags) =
      if eqb p.kind 3 then map_rules (to_page host) (intermediate_rules (wanted_of_page write) host flags)
      else answer (reached frame level host flags)
  host_page_rules write (fault reason fpd) = answer (fault reason fpd)

  module _ (address : ℕ) (write : Bool) where
    abbrev pub walk_step : (level place : ℕ) → FirstHanded → (e : ℕ) → Step FirstHanded Pages
    walk_step level place s e =
        on_first (first_step r p write s.writable level e) (λ table. down table (first_handed false (s.flags ++ entry_flags p write false place e)))
        (λ frame level. done (reached frame level (host_address level frame address) (s.flags ++ entry_flags p write true place e)))
        (λ reason fpd. done (fault reason fpd))

    abbrev pub first_rules : (level table : ℕ) → FirstHanded → Rules Pages
    first_rules = way_rules first_level_entry address locate (no_first_entry p) walk_step

    abbrev pub pages_rules : Rules Pages
    pages_rules = then_rules (λ w. w) (host_page_rules write) (first_rules p.first_levels p.first_top (first_handed true []))

-- a page as a translation can answer it: for the code's contracts
abbrev pub Reachable : Pages → Type 0
Reachable (reached frame level host flags) = (frame < 2 ^ 52) × (0 < level) × (level ≤ 3)
Reachable (fault reason fpd) = Unit {0}

-- a PASID table entry whose second level can be walked, and one whose first level can: for the code's contracts
abbrev pub SecondWalkable : PasidEntry → Type 0
SecondWalkable p = (0 < p.second_levels) × (p.second_levels ≤ 5) × (p.second_top % 4096 ≡ 0) × (p.second_top < 2 ^ 52)

abbrev pub FirstWalkable : PasidEntry → Type 0
FirstWalkable p =
    (0 < p.first_levels)
    × (p.first_levels ≤ 5)
    × (p.first_top % 4096 ≡ 0)
    × (p.first_top < 2 ^ 52)
    × (p.kind ≡ 3 → SecondWalkable p)

-- one whose tables can be walked as its PGTT says
abbrev pub PagesWalkable : PasidEntry → Type 0
PagesWalkable p = (p.kind ≡ 2 → SecondWalkable p) × ((p.kind ≡ 2 → ⊥) → FirstWalkable p)
