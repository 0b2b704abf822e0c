-- The lookup of a PASID table entry as a tree: entries of 2, 4, 1 and 8 words. An entry that can't be fetched is an access fault, and a PASID
-- table entry that is found passed the check.
use Prim.Native.Nat.{ℕ, ◌+◌, ◌*◌}
use mathlib.Core.Bool.{Bool, true, false, ◌||◌}
use mathlib.Core.Path.{◌≡◌, refl}
use Rattle.image.specs.Bits.{bits, bit}
use Rattle.image.specs.Check.{go}
use Rattle.image.specs.EntryKind.{EntryKind, root_entry, scalable_context_entry, pasid_directory_entry, pasid_table_entry}
use Rattle.image.specs.Rules.{answer}
use Rattle.image.proofs.Forks.{Every, every-answer, every-fetch}
use Rattle.image.proofs.Stages.{check-cases}
use Rattle.registers.specs.Source.{bus_of}
use Rattle.pasid.specs.Context.{context_check}
use Rattle.pasid.specs.Directory.{directory_check}
use Rattle.pasid.specs.Root.{root_check}
use Rattle.pasid.specs.Table.{table_check}
use Rattle.pasid.specs.declared.Pasid.{Pasid}
use Rattle.pasid.specs.declared.ScalableRegisters.{ScalableRegisters}
use Rattle.pasid.specs.declared.context.ScalableContext.{ScalableContext}
use Rattle.pasid.specs.declared.directory.PasidTable.{PasidTable}
use Rattle.pasid.specs.declared.table.PasidEntry.{PasidEntry}
use Rattle.scalable.specs.Isolation.{access_reason}
use Rattle.scalable.specs.Lookup.{Lookup, pasid_entry, no_pasid_entry, table_rules, directory_rules, context_rules, lookup_rules}

abbrev pub Absent : EntryKind → ℕ → Lookup → Type 0
Absent kind at (pasid_entry p) = ⊥
Absent kind at (no_pasid_entry reason fpd) = access_reason reason ≡ true

-- an entry that is found is so
abbrev pub FoundSo : (PasidEntry → Type 0) → Lookup → Type 0
FoundSo So (pasid_entry p) = So p
FoundSo So (no_pasid_entry reason fpd) = Unit {0}

-- what holds of every lookup that finds no entry
pub when-absent : (Kind : Lookup → Type 0) → ((reason : ℕ) (fpd : Bool) → access_reason reason ≡ true → Kind (no_pasid_entry reason fpd))
    → (kind : EntryKind) (at : ℕ) (a : Lookup) → Absent kind at a → Kind a
when-absent Kind so kind at (pasid_entry p) h = absurd h
when-absent Kind so kind at (no_pasid_entry reason fpd) h = so reason fpd h

module _ (r : ScalableRegisters) (So : PasidEntry → Type 0)
    (good : (privileged fpd : Bool) (e : ℕ) (p : PasidEntry) → table_check r privileged fpd e ≡ go p → So p) where
  abbrev Ends : Lookup → Type 0
  Ends = FoundSo So

  table-forks : (c : ScalableContext) (t : PasidTable) → Every Absent Ends 8 (table_rules r c t)
  unfolding table_rules
  table-forks c t =
      every-fetch Absent Ends 8 0 pasid_table_entry (t.address + 64 * bits c.pasid 5 0) (no_pasid_entry 0x58 t.fpd) _ refl refl
      (λ e.
      check-cases (Every Absent Ends 0) (table_check r c.privileged t.fpd e) (λ reason. no_pasid_entry reason (t.fpd || bit e 1)) (λ p. answer (pasid_entry p))
      (λ reason told. every-answer Absent Ends 0 (no_pasid_entry reason (t.fpd || bit e 1)) tt)
      (λ p told. every-answer Absent Ends 0 (pasid_entry p) (good c.privileged t.fpd e p told)))

  directory-forks : (c : ScalableContext) → Every Absent Ends 9 (directory_rules r c)
  unfolding directory_rules
  directory-forks c =
      every-fetch Absent Ends 9 8 pasid_directory_entry (c.directory + 8 * bits c.pasid 19 6) (no_pasid_entry 0x50 c.fpd) _ refl refl
      (λ e.
      check-cases (Every Absent Ends 8) (directory_check r.base.haw c.fpd e) (λ reason. no_pasid_entry reason (c.fpd || bit e 1)) (table_rules r c)
      (λ reason told. every-answer Absent Ends 8 (no_pasid_entry reason (c.fpd || bit e 1)) tt) (λ t told. table-forks c t))

  context-forks : (pasid : Pasid) (source table : ℕ) → Every Absent Ends 13 (context_rules r pasid source table)
  unfolding context_rules
  context-forks pasid source table =
      every-fetch Absent Ends 13 9 scalable_context_entry (table + 32 * bits source 6 0) (no_pasid_entry 0x40 false) _ refl refl
      (λ e.
      check-cases (Every Absent Ends 9) (context_check r.base.haw pasid e) (λ reason. no_pasid_entry reason (bit e 1)) (directory_rules r)
      (λ reason told. every-answer Absent Ends 9 (no_pasid_entry reason (bit e 1)) tt) (λ c told. directory-forks c))

  pub lookup-forks : (pasid : Pasid) (source : ℕ) → Every Absent Ends 15 (lookup_rules r pasid source)
  unfolding lookup_rules
  lookup-forks pasid source =
      every-fetch Absent Ends 15 13 root_entry (r.base.root_table + 16 * bus_of source) (no_pasid_entry 0x38 false) _ refl refl
      (λ e.
      check-cases (Every Absent Ends 13) (root_check r.base.haw (bit source 7) e) (λ reason. no_pasid_entry reason false) (context_rules r pasid source)
      (λ reason told. every-answer Absent Ends 13 (no_pasid_entry reason false) tt) (λ table told. context-forks pasid source table))

-- whatever is found
pub any-lookup : (r : ScalableRegisters) (pasid : Pasid) (source : ℕ) → Every Absent (FoundSo (λ p. Unit {0})) 15 (lookup_rules r pasid source)
any-lookup r = lookup-forks r (λ p. Unit {0}) (λ privileged fpd e p told. tt)
