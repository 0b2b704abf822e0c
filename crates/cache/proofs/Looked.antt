-- What is kept after the lookup of a context.
use Prim.Native.Nat.{ℕ}
use mathlib.Core.Bool.{Bool}
use mathlib.Core.List.{List}
use mathlib.Core.Path.{◌≡◌}
use Rattle.image.specs.Memory.{Memory}
use Rattle.image.specs.Rules.{run}
use Rattle.registers.specs.declared.Registers.{Registers}
use Rattle.dma.specs.Lookup.{context, no_context, lookup_rules}
use Rattle.dma.specs.Translation.{fault, width_rules}
use Rattle.dma.specs.declared.MemoryRequest.{MemoryRequest}
use Rattle.dma.specs.declared.context.Context.{Context}
use Rattle.dma.proofs.Lookups.{looked-up}
use Rattle.cache.specs.Engine.{rules_of, domain_over}
use Rattle.cache.specs.Numbers.{state_kept}

module _ (registers : Registers) (request : MemoryRequest) (m : Memory) where
  pub context-domain : (c : Context) → run (lookup_rules registers request.source.id) m ≡ context c → domain_over registers request.source.id m ≡ c.domain
  context-domain c found = rw found

  -- nothing is kept without a context
  pub stopped-kept : (reason : ℕ) (fpd : Bool) → run (lookup_rules registers request.source.id) m ≡ no_context reason fpd → (state : List ℕ) (domain : ℕ)
      → state ≡ state_kept state request (run (rules_of registers request) m) domain
  stopped-kept reason fpd none state domain =
      rw (looked-up registers fault (width_rules registers request.address request.write) m request.source.id, none)
