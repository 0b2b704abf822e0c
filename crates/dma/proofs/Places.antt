-- A blocked memory request stopped at an entry.
use Prim.Native.Nat.{ℕ}
use mathlib.Core.Path.{◌≡◌, sym, ◌∙◌, subst}
use native.Mathlib.Omega.{arith}
use Rattle.image.specs.Place.{no_entry, stopped_at}
use Rattle.image.specs.Rules.{Rules, run, map_rules}
use Rattle.image.proofs.Places.{Some, some-fetch, tried-map}
use Rattle.registers.specs.Admission.{Admitted, refusal, pass, taken_up, admission, on_admission, in_interrupt_range}
use Rattle.dma.specs.Isolation.{AlwaysAnEntry}
use Rattle.dma.specs.Lookup.{root_rules}
use Rattle.dma.specs.Requests.{MemoryOutcome, granted, blocked, refused, memory_outcome, concerned, memory_rules}
use Rattle.dma.specs.Translation.{Translation, translation_rules}

pub always-an-entry : AlwaysAnEntry
unfolding memory_rules run root_rules
always-an-entry registers request m f ended none = on (admission registers (in_interrupt_range request.address) registers.te) ended none
  where
    rules : Rules Translation
    rules = translation_rules registers request.address request.write request.source.id

    tree : Admitted → Rules MemoryOutcome
    tree a = on_admission a refused (granted request.address) (map_rules (memory_outcome request) rules)

    on : (a : Admitted) → run (tree a) m ≡ blocked f
        → concerned (run (tree a) m) (stopped_at (tree a) m) ≡ no_entry → ⊥
    on (refusal n) ended none = let z : ◌≡◌ {A = ℕ} 0 1 = cc in omega arith
    on pass ended none = let z : ◌≡◌ {A = ℕ} 0 1 = cc in omega arith
    on taken_up ended none =
        let there : stopped_at (tree taken_up) m ≡ no_entry = rw ended at none in
        subst Some (sym (tried-map (memory_outcome request) no_entry rules m) ∙ there)
        (some-fetch _ _ _ _ m)
