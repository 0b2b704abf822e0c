-- A fault's answer with PASID fields, from the words that the code holds.
use Prim.Native.Nat.{ℕ, ◌+◌, ◌*◌, ◌/◌, ◌^◌, ◌<◌}
use mathlib.Core.Bool.{Bool, not}
use mathlib.Core.List.{[], ◌∷◌}
use mathlib.Core.Path.{◌≡◌, refl, ap}
use native.Mathlib.Nat.{mul-add, mul_comm, add_assoc}
use Rattle.image.specs.Bytes.{spell}
use Rattle.faults.specs.Answers.{high_word}
use Rattle.faults.specs.Record as legacy
use Rattle.faults.specs.Record.{FaultAnswer, memory_fault, memory_record}
use Rattle.faults.proofs.Contents.{two-words, memory-answered}
use Rattle.pasid.specs.Record.{recordable, pasid_word, scalable_record, scalable_fault}
use Rattle.pasid.specs.declared.Pasid.{Pasid}

with-pasid : (low word p : ℕ) → spell (low ∷ (word + p) ∷ []) ≡ spell (low ∷ word ∷ []) + p * 2 ^ 64
with-pasid low word p =
    rw (two-words low (word + p), two-words low word, mul-add (2 ^ 64) word p, mul_comm (2 ^ 64) p, add_assoc low (2 ^ 64 * word) (p * 2 ^ 64))

module _ (fpd write : Bool) (source address : ℕ) (pasid : Pasid) {reason number word p : ℕ} {may : Bool} (numbered : number ≡ reason)
    (told : may ≡ recordable fpd number) (fits : address < 2 ^ 64) (high : word ≡ high_word source number (not write))
    (field : p ≡ pasid_word pasid) where
  contents : spell ((address / 4096 * 4096) ∷ word ∷ []) ≡ memory_record source address reason (not write)
  unfolding memory_fault
  contents = ap (λ (a : FaultAnswer). a.contents) (memory-answered fpd source {may = legacy.recordable fpd number} numbered refl address write fits high)

  pub answered : ◌≡◌ {A = FaultAnswer}
      (record { reason = reason; recordable = may; contents = spell ((address / 4096 * 4096) ∷ (word + p) ∷ []) })
      (scalable_fault reason fpd source address write pasid)
  unfolding scalable_fault scalable_record
  answered = rw (with-pasid (address / 4096 * 4096) word p, contents, field, told, numbered)
