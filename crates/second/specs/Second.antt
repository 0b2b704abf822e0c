-- The second-level walk of scalable mode (document 003, 3.7): an instance of the walk by levels. Its entries are those of legacy mode's
-- page tables, with the flags A (bit 8) and D (bit 9) where SLADE is set.
use Rattle.std.specs.Prelude.{ℕ, ◌%◌, ◌^◌, ◌<◌, ◌≤◌, Bool, true, false, not, ◌&&◌, ◌||◌, List, [], ◌∷◌, ◌++◌, ◌≡◌}
use Rattle.image.specs.Bits.{bit, in_place}
use Rattle.std.specs.Prelude.{if◌then◌else◌}
use Rattle.image.specs.Memory.{Memory}
use Rattle.image.specs.Rules.{Rules}
use Rattle.dma.specs.Page.{leaf_at, page_reserved}
use Rattle.dma.specs.Walk.{Step, done, down, walk_rules, step_over}
use Rattle.pasid.specs.declared.ScalableRegisters.{ScalableRegisters}
use Rattle.pasid.specs.declared.table.PasidEntry.{PasidEntry}
use Rattle.flags.specs.Flags.{flag}
use Rattle.second.specs.declared.step.Wanted.{Wanted}

-- the frame of a page, with the level of its entry, whether all entries of the walk had W, and the flags that the request sets where it is
-- granted; or a fault with FPD
pub data Walked : Type 0 where
  page : (frame level : ℕ) (writable : Bool) (flags : List ℕ) → Walked
  fault : (reason : ℕ) (fpd : Bool) → Walked

-- a page as a walk can answer it: for the code's contracts
abbrev pub Reachable : Walked → Type 0
Reachable (page frame level writable flags) = (frame < 2 ^ 52) × (0 < level) × (level ≤ 3) × (frame % 4096 ≡ 0)
Reachable (fault reason fpd) = Unit {0}

-- what an entry is handed by those above it: whether there are none, their joined rights, and the flags so far
pub record SecondHanded : Type 0 where
  pub top : Bool
  pub read : Bool
  pub write : Bool
  pub flags : List ℕ

abbrev pub at_top : (flags : List ℕ) → SecondHanded
at_top flags = record { top = true; read = true; write = true; flags = flags }

-- R, bit 0, and W, bit 1, joined with those of the entries above
abbrev pub readable : SecondHanded → (e : ℕ) → Bool
readable above e = above.read && bit e 0

abbrev pub writable : SecondHanded → (e : ℕ) → Bool
writable above e = above.write && bit e 1

-- what an entry hands on, with its own flags
abbrev pub handed_on : SecondHanded → (e : ℕ) → (own : List ℕ) → SecondHanded
handed_on above e own = record { top = false; read = readable above e; write = writable above e; flags = above.flags ++ own }

-- a flag that a granted request sets is still clear: A, D in the entry of a page that is written
abbrev pub flag_clear : (dirty : Bool) (e : ℕ) → Bool
flag_clear dirty e = not (bit e 8) || dirty && not (bit e 9)

-- the flags of an entry that is used, where SLADE is set and one of them is still clear: setting those that are set changes nothing
abbrev pub second_flags : PasidEntry → (dirty : Bool) (place e : ℕ) → List ℕ
second_flags p dirty place e = if p.slade && flag_clear dirty e then flag place 8 ∷ (if dirty then flag place 9 ∷ [] else []) else []

-- a flag has to be set, and the walk isn't snooped (SMPWC or PWSNP clear)
abbrev pub flags_not_snooped : ScalableRegisters → PasidEntry → (dirty : Bool) (level e : ℕ) → Bool
flags_not_snooped r p dirty level e = p.slade && not (r.smpwc && p.pwsnp) && flag_clear (leaf_at level e && dirty) e

module _ (r : ScalableRegisters) (p : PasidEntry) (wanted : Wanted) where
  -- 79h where no joined right is left, 7Ah, 7Ch, then 85h and 86h where a right that is wanted lacks, in this order. Else a page ends
  -- the walk, and any other entry leads one level down
  abbrev pub second_step : (level place : ℕ) → SecondHanded → (e : ℕ) → Step SecondHanded Walked
  second_step level place above e =
      if not (readable above e || writable above e) then done (fault 0x79 p.fpd)
      else if page_reserved r.base level e then done (fault 0x7A p.fpd)
      else if flags_not_snooped r p wanted.write level e then done (fault 0x7C p.fpd)
      else if wanted.write && not (bit e 1) then done (fault 0x85 p.fpd)
      else if wanted.read && not (bit e 0) then done (fault 0x86 p.fpd)
      else if leaf_at level e then done (page (in_place e 51 12) level (writable above e) (above.flags ++ second_flags p wanted.write place e))
      else down (in_place e 51 12) (handed_on above e (second_flags p false place e))

  -- an entry that can't be fetched: 7Bh the top one, 78h any other
  abbrev pub no_second_entry : SecondHanded → Walked
  no_second_entry above = fault (if above.top then 0x7B else 0x78) p.fpd

  -- one level over a memory: for the code's contracts
  abbrev pub second_over : (address : ℕ) → Memory → (below table : ℕ) → SecondHanded → Step SecondHanded Walked
  second_over address = step_over address no_second_entry second_step

  abbrev pub second_rules : (address level table : ℕ) → SecondHanded → Rules Walked
  second_rules address = walk_rules address no_second_entry second_step
