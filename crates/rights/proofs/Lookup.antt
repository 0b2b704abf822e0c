-- The lookup of a PASID table entry, over two memories with the same tables.
use Prim.Native.Nat.{ℕ, ◌+◌, ◌*◌, ◌%◌, ◌≤◌}
use mathlib.Core.Bool.{Bool, false, not, ◌&&◌, ◌||◌}
use mathlib.Core.Path.{◌≡◌, refl, sym}
use native.Mathlib.Omega.{arith}
use Rattle.image.specs.Bits.{bits, bit}
use Rattle.image.specs.Check.{Check, stop, go, on_check}
use Rattle.image.specs.EntryKind.{root_entry, scalable_context_entry, pasid_directory_entry, pasid_table_entry}
use Rattle.image.specs.Rules.{Rules, answer}
use Rattle.image.proofs.Choices.{past}
use Rattle.registers.specs.Source.{bus_of}
use Rattle.dma.proofs.Raised.{Raised}
use Rattle.pasid.specs.Context.{context_check}
use Rattle.pasid.specs.Directory.{directory_check}
use Rattle.pasid.specs.Root.{root_check}
use Rattle.pasid.specs.Table.{table_reserved, table_invalid, pasid_entry_of, table_check}
use Rattle.pasid.specs.declared.Pasid.{Pasid}
use Rattle.pasid.specs.declared.ScalableRegisters.{ScalableRegisters}
use Rattle.pasid.specs.declared.context.ScalableContext.{ScalableContext}
use Rattle.pasid.specs.declared.directory.PasidTable.{PasidTable}
use Rattle.pasid.specs.declared.table.PasidEntry.{PasidEntry}
use Rattle.scalable.specs.Lookup.{Lookup, pasid_entry, no_pasid_entry, table_rules, directory_rules, context_rules, lookup_rules}
use Rattle.scalable.proofs.Tables.{root-aligned, directory-aligned, usable}
use Rattle.rights.proofs.Kept.{Keeps, keeps-answer, keeps-fetch}

-- the same is found, and its tables begin at multiples of 8
abbrev pub LookupKept : Lookup → Lookup → Type 0
LookupKept (pasid_entry p) b = (b ≡ pasid_entry p) × (p.second_top % 8 ≡ 0) × (p.first_top % 8 ≡ 0)
LookupKept (no_pasid_entry reason fpd) b = b ≡ no_pasid_entry reason fpd

abbrev pub LookupDead : Lookup → Type 0
LookupDead l = ⊥

abbrev Same : Rules Lookup → Type 0
Same q = Keeps Raised LookupKept LookupDead q q

module _ (r : ScalableRegisters) where
  found : (privileged fpd : Bool) (e : ℕ) (p : PasidEntry) → table_check r privileged fpd e ≡ go p → LookupKept (pasid_entry p) (pasid_entry p)
  unfolding table_check
  found privileged fpd e p h =
      let h1 = past (not (bit e 0)) 0x59 _ p h in
      let h2 = past (table_reserved r e) 0x5A _ p h1.1 in
      let h3 = past (table_invalid r e) 0x5B _ p h2.1 in
      let h4 = past (privileged && not (bit e 128)) 0x5D _ p h3.1 in
      let is : p ≡ pasid_entry_of privileged fpd e = cc in
      rw is (refl, omega arith, omega arith)

  table_kept : (c : ScalableContext) (t : PasidTable) → t.address % 8 ≡ 0 → Same (table_rules r c t)
  unfolding table_rules
  table_kept c t aligned =
      keeps-fetch Raised LookupKept LookupDead pasid_table_entry (t.address + 64 * bits c.pasid 5 0) _ _ _ _ (omega arith) refl
      (λ e e' same. rw (← same) (by e (table_check r c.privileged t.fpd e) refl))
    where
      by : (e : ℕ) (k : Check PasidEntry) → table_check r c.privileged t.fpd e ≡ k
          → Same (on_check k (λ reason. answer (no_pasid_entry reason (t.fpd || bit e 1))) (λ p. answer (pasid_entry p)))
      by e (stop reason) told = keeps-answer Raised LookupKept LookupDead _ _ refl
      by e (go p) told = keeps-answer Raised LookupKept LookupDead _ _ (found c.privileged t.fpd e p told)

  directory-kept : (c : ScalableContext) → c.directory % 8 ≡ 0 → Same (directory_rules r c)
  unfolding directory_rules
  directory-kept c aligned =
      keeps-fetch Raised LookupKept LookupDead pasid_directory_entry (c.directory + 8 * bits c.pasid 19 6) _ _ _ _ (omega arith) refl
      (λ e e' same. rw (← same) (by e (directory_check r.base.haw c.fpd e) refl))
    where
      by : (e : ℕ) (k : Check PasidTable) → directory_check r.base.haw c.fpd e ≡ k
          → Same (on_check k (λ reason. answer (no_pasid_entry reason (c.fpd || bit e 1))) (table_rules r c))
      by e (stop reason) told = keeps-answer Raised LookupKept LookupDead _ _ refl
      by e (go t) told = table_kept c t (omega (arith, directory-aligned r.base.haw c.fpd e (sym told)))

  module _ (low : r.base.haw ≤ 52) (pasid : Pasid) (source : ℕ) where
    context-kept : (table : ℕ) → table % 8 ≡ 0 → Same (context_rules r pasid source table)
    unfolding context_rules
    context-kept table aligned =
        keeps-fetch Raised LookupKept LookupDead scalable_context_entry (table + 32 * bits source 6 0) _ _ _ _ (omega arith) refl
        (λ e e' same. rw (← same) (by e (context_check r.base.haw pasid e) refl))
      where
        by : (e : ℕ) (k : Check ScalableContext) → context_check r.base.haw pasid e ≡ k
            → Same (on_check k (λ reason. answer (no_pasid_entry reason (bit e 1))) (directory_rules r))
        by e (stop reason) told = keeps-answer Raised LookupKept LookupDead _ _ refl
        by e (go c) told = directory-kept c (omega (arith, (usable r.base.haw pasid e low (sym told)).0))

    pub lookup-kept : r.base.root_table % 8 ≡ 0 → Same (lookup_rules r pasid source)
    unfolding lookup_rules
    lookup-kept aligned =
        keeps-fetch Raised LookupKept LookupDead root_entry (r.base.root_table + 16 * bus_of source) _ _ _ _ (omega arith) refl
        (λ e e' same. rw (← same) (by e (root_check r.base.haw (bit source 7) e) refl))
      where
        by : (e : ℕ) (k : Check ℕ) → root_check r.base.haw (bit source 7) e ≡ k
            → Same (on_check k (λ reason. answer (no_pasid_entry reason false)) (context_rules r pasid source))
        by e (stop reason) told = keeps-answer Raised LookupKept LookupDead _ _ refl
        by e (go table) told = context-kept table (omega (arith, root-aligned r.base.haw (bit source 7) e (sym told)))
