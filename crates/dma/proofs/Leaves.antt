-- What becomes of a page that a walk ends with: a grant, or refusal 4; never a fault.
use Prim.Native.Nat.{ℕ}
use mathlib.Core.Bool.{Bool, true, false}
use mathlib.Core.Path.{◌≡◌, refl}
use native.Mathlib.Omega.{arith}
use Rattle.std.specs.Prelude.{if◌then◌else◌}
use Rattle.dma.specs.InterruptRange.{meets_interrupt_range, span_at}
use Rattle.dma.specs.Isolation.{access_fault}
use Rattle.dma.specs.Page.{host_address}
use Rattle.dma.specs.Requests.{granted, refused, memory_outcome}
use Rattle.dma.specs.Translation.{leaf}
use Rattle.dma.specs.declared.MemoryRequest.{MemoryRequest}

module _ (request : MemoryRequest) (frame level : ℕ) where
  abbrev at : ℕ
  at = host_address level frame request.address

  pub leaf-granted : {host : ℕ} → memory_outcome request (leaf frame level) ≡ granted host
      → (meets_interrupt_range frame (span_at level) ≡ false) × (host ≡ host_address level frame request.address)
  leaf-granted {host} = by (meets_interrupt_range frame (span_at level))
    where
      by : (meets : Bool) → (if meets then refused 4 else granted at) ≡ granted host → (meets ≡ false) × (host ≡ at)
      by true h = let z : ◌≡◌ {A = ℕ} 0 1 = cc in absurd (omega arith)
      by false h = (refl, cc)

  pub leaf-no-access : access_fault (memory_outcome request (leaf frame level)) ≡ true → ⊥
  leaf-no-access = by (meets_interrupt_range frame (span_at level))
    where
      by : (meets : Bool) → access_fault (if meets then refused 4 else granted at) ≡ true → ⊥
      by true h = let z : ◌≡◌ {A = ℕ} 0 1 = cc in omega arith
      by false h = let z : ◌≡◌ {A = ℕ} 0 1 = cc in omega arith
