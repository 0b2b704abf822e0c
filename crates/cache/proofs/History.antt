-- When a held translation was cached.
use mathlib.Core.List.Memᴰ
use mathlib.Core.List.{List, [], ◌∷◌, Memᴰ}
use mathlib.Core.Logic.{◌⊎◌, inl, inr, ⊎_elim}
use Prim.Native.Nat.{ℕ}
use mathlib.Core.Bool.{Bool}
use mathlib.Core.Path.{◌≡◌, refl, ap, sym, ◌∙◌}
use native.Mathlib.Omega.{arith}
use Rattle.image.specs.Memory.{Memory}
use Rattle.image.specs.Rules.{run}
use Rattle.dma.specs.Lookup.{Lookup, context, no_context, on_lookup, lookup_rules}
use Rattle.dma.specs.Translation.{leaf, fault, width_rules, translation_rules}
use Rattle.dma.specs.declared.context.Context.{Context}
use Rattle.dma.proofs.Lookups.{looked-up}
use Rattle.registers.specs.declared.Registers.{Registers}
use Rattle.cache.specs.Held.{Held}
use Rattle.cache.specs.Engine.{Operation, request, edit, invalidate_all, invalidate_domain, State, from, domain_over, step, left}
use Rattle.cache.specs.Claims.{CachedIn, WhenCached, DomainAsCached}
use Rattle.cache.proofs.Lists.{mem-without}
use Rattle.cache.proofs.Runs.{mem-after}

module _ (registers : Registers) where
  first : (o : Operation) (os : List Operation) (s : State) (h : Held) → Memᴰ h (step registers o s).held
      → Memᴰ h s.held ⊎ CachedIn registers (o ∷ os) s h
  unfolding step left
  first (request r) os s h is =
      ⊎_elim (λ old. inl old)
      (λ c.
      inr
      (record { before = []; by = r; after = os; split = refl; frame = c.frame; level = c.level; is = c.is; walked = c.walked; granted = c.granted }))
      (mem-after registers s.held r s.memory h is)
  first (edit m) os s h is = inl is
  first invalidate_all os s h is = absurd (Memᴰ.not-nil is)
  first (invalidate_domain d) os s h is = inl (mem-without d s.held is).0

  later : (o : Operation) (os : List Operation) (s : State) (h : Held) → CachedIn registers os (step registers o s) h → CachedIn registers (o ∷ os) s h
  unfolding left
  later o os s h c =
      record {
        before = o ∷ c.before;
        by = c.by;
        after = c.after;
        split = ap (λ (l : List Operation). o ∷ l) c.split;
        frame = c.frame;
        level = c.level;
        is = c.is;
        walked = c.walked;
        granted = c.granted;
      }

  origin : (os : List Operation) (s : State) (h : Held) → Memᴰ h (left registers os s).held → Memᴰ h s.held ⊎ CachedIn registers os s h
  unfolding left
  origin [] s h is = inl is
  origin (o ∷ os) s h is = ⊎_elim (first o os s h) (λ c. inr (later o os s h c)) (origin os (step registers o s) h is)

pub when-cached : WhenCached
when-cached registers os m h is = ⊎_elim (λ none. absurd (Memᴰ.not-nil none)) (λ c. c) (origin registers os (from m) h is)

-- a walk that reached a page found a context
found-context : (registers : Registers) (a source : ℕ) (write : Bool) (m : Memory) (frame level : ℕ)
    → run (translation_rules registers a write source) m ≡ leaf frame level
    → (c : Context) × (run (lookup_rules registers source) m ≡ context c) × (domain_over registers source m ≡ c.domain)
found-context registers a source write m frame level was =
    on (run (lookup_rules registers source) m) refl (sym (looked-up registers fault (width_rules registers a write) m source) ∙ was)
  where
    on : (l : Lookup) → run (lookup_rules registers source) m ≡ l → on_lookup l fault (λ c. run (width_rules registers a write c) m) ≡ leaf frame level
        → (c : Context) × (run (lookup_rules registers source) m ≡ context c) × (domain_over registers source m ≡ c.domain)
    on (context c) told h = (c, told, rw told)
    on (no_context reason fpd) told h = let z : ◌≡◌ {A = ℕ} 0 1 = cc in absurd (omega arith)

pub domain-as-cached : DomainAsCached
domain-as-cached registers os m h is =
    let w = when-cached registers os m h is in
    rw w.is
    (found-context registers w.by.address w.by.source.id w.by.write (left registers w.before (from m)).memory w.frame w.level
    w.walked)
