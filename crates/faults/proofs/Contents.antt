-- The record of two words, the fields of the upper one put together from bit 64.
use Prim.Native.Nat.{ℕ, ◌+◌, ◌*◌, ◌/◌, ◌^◌, ◌<◌}
use mathlib.Core.Path.{◌≡◌, ap, sym, ◌∙◌}
use mathlib.Core.List.{[], ◌∷◌}
use mathlib.Core.Bool.{Bool, true, false, not}
use native.Mathlib.Nat.{mul-add, mul_comm, mul_left_comm, mul-zero, add-zero}
use native.Mathlib.Omega.{arith}
use Rattle.image.specs.Bits.{bits, in_place}
use Rattle.image.specs.Bytes.{spell}
use Rattle.faults.specs.declared.fault.Fault.{Fault}
use Rattle.faults.specs.Answers.{fault_of, high_word}
use Rattle.faults.specs.Reason.{number_of}
use Rattle.faults.proofs.Numbers.{number_of-injective}
use Rattle.faults.specs.Record.{FaultAnswer, from_bit64, recordable, memory_record, memory_fault, translation_record, translation_fault, index_field, interrupt_record, interrupt_fault}

spread : (w s n a r t : ℕ) → w * (s + n * a + r + t) ≡ s * w + n * (w * a) + w * r + w * t
spread w s n a r t =
    rw (mul-add w (s + n * a + r) t, mul-add w (s + n * a) r, mul-add w s (n * a), mul_comm w s, mul_left_comm w n a)

pub two-words : (low high : ℕ) → spell (low ∷ high ∷ []) ≡ low + 2 ^ 64 * high
unfolding spell
two-words low high = simp (mul-zero, add-zero)

-- two words are told by the number that they spell
pub two-words-injective : {a b c d : ℕ} → a < 2 ^ 64 → c < 2 ^ 64
    → spell (a ∷ b ∷ []) ≡ spell (c ∷ d ∷ []) → (a ≡ c) × (b ≡ d)
two-words-injective {a} {b} {c} {d} ha hc e =
    let sums = sym (two-words a b) ∙ e ∙ two-words c d in
    (omega arith, omega arith)

-- a struct of a fault, made of a reason and its record, is told by its answer where a reason is told by its number: no two stand for the same
module _ {Reason Struct : Type 0} (number : Reason → ℕ) (told : (r s : Reason) → number r ≡ number s → r ≡ s)
    (made : Reason → Bool → ℕ → ℕ → Struct) where
  pub one-fault : {r s : Reason} {may may' : Bool} {low high low' high' : ℕ} → low < 2 ^ 64 → low' < 2 ^ 64
      → ◌≡◌ {A = FaultAnswer}
      (record { reason = number r; recordable = may; contents = spell (low ∷ high ∷ []) })
      (record { reason = number s; recordable = may'; contents = spell (low' ∷ high' ∷ []) })
      → made r may low high ≡ made s may' low' high'
  one-fault {r} {s} h h' e i =
      let words = two-words-injective h h' (ap (λ (a : FaultAnswer). a.contents) e) in
      made (told r s (ap (λ (a : FaultAnswer). a.reason) e) i) (e i).recordable (words.0 i) (words.1 i)

pub fault_of-injective : (f g : Fault) → f.low < 2 ^ 64 → g.low < 2 ^ 64 → fault_of f ≡ fault_of g → f ≡ g
fault_of-injective f g =
    one-fault number_of number_of-injective (λ reason may low high. record { reason = reason; recordable = may; low = low; high = high })

upper : (low source number : ℕ) (read : Bool)
    → spell (low ∷ high_word source number read ∷ []) ≡ low + from_bit64 source number read
unfolding from_bit64
upper low source number true =
    rw (two-words, spread (2 ^ 64) source number (2 ^ 32) (2 ^ 62) (2 ^ 63))
upper low source number false =
    rw (two-words, spread (2 ^ 64) source number (2 ^ 32) 0 (2 ^ 63))

-- bits 125:124 of a record are bits 61:60 of its upper word
with-type : (low word : ℕ) → spell (low ∷ (word + 2 ^ 60) ∷ []) ≡ spell (low ∷ word ∷ []) + 2 ^ 124
with-type low word = rw (two-words, two-words, mul-add (2 ^ 64) word (2 ^ 60)) (omega arith)

-- an address with its low 12 bits cleared has bits 63:12 in place
pub aligned : (address : ℕ) → address < 2 ^ 64 → address / 4096 * 4096 ≡ in_place address 63 12
unfolding bits
aligned address h = omega arith

module _ (fpd : Bool) (source : ℕ) {reason number high : ℕ} {may : Bool} (numbered : number ≡ reason)
    (told : may ≡ recordable fpd number) where
  answered : (low : ℕ) (read : Bool) → high ≡ high_word source number read
      → ◌≡◌ {A = FaultAnswer}
      (record { reason = reason; recordable = may; contents = spell (low ∷ high ∷ []) })
      (record { reason = reason; recordable = recordable fpd reason; contents = low + from_bit64 source reason read })
  answered low read word = rw (told, word, upper low source number read, numbered)

  pub memory-answered : (address : ℕ) (write : Bool) → address < 2 ^ 64
      → high ≡ high_word source number (not write)
      → ◌≡◌ {A = FaultAnswer}
      (record { reason = reason; recordable = may; contents = spell ((address / 4096 * 4096) ∷ high ∷ []) })
      (memory_fault reason fpd source address write)
  unfolding memory_fault memory_record
  memory-answered address write fits word = rw (← aligned address fits) (answered _ (not write) word)

  pub translation-answered : (address : ℕ) {word : ℕ} → address < 2 ^ 64
      → word ≡ high_word source number true → high ≡ word + 2 ^ 60
      → ◌≡◌ {A = FaultAnswer}
      (record { reason = reason; recordable = may; contents = spell ((address / 4096 * 4096) ∷ high ∷ []) })
      (translation_fault reason fpd source address)
  unfolding translation_fault translation_record memory_record
  translation-answered address fits told-word sum =
      rw (← aligned address fits, sum, told, with-type _ _, told-word, upper _ source number true, numbered)

  pub interrupt-answered : (index : ℕ) {field : ℕ} → field ≡ index_field number index
      → high ≡ high_word source number false
      → ◌≡◌ {A = FaultAnswer}
      (record { reason = reason; recordable = may; contents = spell ((field * 2 ^ 48) ∷ high ∷ []) })
      (interrupt_fault reason fpd source index)
  unfolding interrupt_fault interrupt_record
  interrupt-answered index placed word =
      rw (placed) (answered (index_field number index * 2 ^ 48) false word ∙ rw numbered)
