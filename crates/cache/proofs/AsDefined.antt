-- The code's answers and what it leaves, over a state that holds a list, are those of the second engine as it is defined.
use Prim.Native.Nat.{ℕ, ◌+◌, ◌-◌, ◌*◌, ◌%◌, ◌^◌, ◌<◌, ◌≤◌, min}
use mathlib.Core.Bool.{Bool, true, false}
use mathlib.Core.List.{List, [], ◌∷◌}
use mathlib.Core.Path.{◌≡◌, refl, ap₂, sym, ◌∙◌}
use native.Mathlib.Omega.{arith}
use native.Mathlib.Nat.{lt_of_lt_of_le}
use borrow.Author.Tests.{eq-eqb, lt-ltb, le-ltb, leb-false}
use lib.Dec.{eqb, ltb, leb}
use lib.ListN.{length, replicate}
use lib.Pow.{pow_mono}
use Rattle.std.specs.Prelude.{if◌then◌else◌}
use Rattle.image.specs.Memory.{Memory}
use Rattle.image.specs.Rules.{answer, run, map_rules}
use Rattle.image.specs.Windows.{of_windows, bad_windows}
use Rattle.registers.specs.Admission.{Admitted, refusal, pass, taken_up, on_admission, in_interrupt_range}
use Rattle.registers.specs.declared.Registers.{Registers}
use Rattle.registers.proofs.Good.{taken-good}
use Rattle.dma.specs.InterruptRange.{meets_interrupt_range, span_at}
use Rattle.dma.specs.Lookup.{Lookup, context, no_context, on_lookup, lookup_rules}
use Rattle.dma.specs.Page.{host_address}
use Rattle.dma.specs.Requests.{MemoryOutcome, granted, refused, memory_outcome}
use Rattle.dma.specs.Translation.{Translation, through, leaf, fault, page_rules, width_rules, translation_rules}
use Rattle.dma.specs.declared.context.Context.{Context}
use Rattle.dma.specs.declared.MemoryRequest.{MemoryRequest}
use Rattle.dma.proofs.Forks.{reachable}
use Rattle.dma.proofs.Lookups.{looked-up}
use Rattle.dma.proofs.Steps.{offset-of}
use Rattle.places.specs.Layout.{words, head_of}
use Rattle.places.specs.Changes.{holding}
use Rattle.cache.specs.Held.{Held, on_hit, lookup, insert, without}
use Rattle.cache.specs.Engine.{on_grant, if_taken, admitted, rules_of, held_answer, domain_over, cached_rules, cached_as, held_after, step, answers, plain_answers}
use Rattle.cache.specs.Keys.{key_for}
use Rattle.cache.specs.Lent.{CacheCall, ask, change, drop_all, drop_domain, call_answers, plain_calls, operations, Fair, AsDefined, EqualCalls}
use Rattle.cache.specs.Numbers.{caches, newest, held_address, state_kept, state_rules, state_after, state_without}
use Rattle.cache.proofs.Found.{Finds, found, nothing, finds}
use Rattle.cache.proofs.Holds.{Holdable, holdable-key, HeldAt, Holds, empty_holds, hold_holds}
use Rattle.cache.proofs.Runs.{equal}
use Rattle.cache.proofs.Sifted.{sift-holds}
use mathlib.Core.List.{append-nil}

-- a walk that reaches a page is of an address below 2^57
module _ (registers : Registers) (write : Bool) (m : Memory) (a frame level : ℕ) (most : registers.mgaw ≤ 57) where
  width_small : (c : Context) → run (width_rules registers a write c) m ≡ leaf frame level → a < 2 ^ 57
  unfolding width_rules run
  width_small c was = on (leb (2 ^ min registers.mgaw (12 + 9 * c.levels)) a) refl was
    where
      on : (over : Bool) → leb (2 ^ min registers.mgaw (12 + 9 * c.levels)) a ≡ over
          → run (if over then answer (fault 0x04 c.fpd) else if eqb c.translation_type 2 then answer through else page_rules registers a write c.fpd c.levels c.top) m
          ≡ leaf frame level
          → a < 2 ^ 57
      on true o was = let z : ◌≡◌ {A = ℕ} 0 1 = cc in absurd (omega arith)
      on false o was = lt_of_lt_of_le (leb-false _ _ o) (pow_mono {j = 57} (omega arith))

  leaf-small : (source : ℕ) → run (translation_rules registers a write source) m ≡ leaf frame level → a < 2 ^ 57
  leaf-small source was = on (run (lookup_rules registers source) m) (sym (looked-up registers fault (width_rules registers a write) m source) ∙ was)
    where
      on : (l : Lookup) → on_lookup l fault (λ c. run (width_rules registers a write c) m) ≡ leaf frame level → a < 2 ^ 57
      on (context c) h = width_small c h
      on (no_context reason fpd) h = let z : ◌≡◌ {A = ℕ} 0 1 = cc in absurd (omega arith)

-- what a hit gives
held-as : (state : List ℕ) (h : Held) (age address : ℕ) → HeldAt state h age → held_address state age address ≡ host_address h.level h.frame address
held-as state h age address at =
    let good = at.holdable in
    let level = (holdable-key h good).0 in
    let bits : 3 + 9 * h.level ≡ 12 + 9 * (h.level - 1) = omega (arith, good.least) in
    let small : h.frame % 2 ^ 52 ≡ h.frame = omega (arith, good.frame) in
    rw (at.key, at.frame, level, bits, offset-of address h.level, small)

module _ (registers : Registers) (state : List ℕ) (held : List Held) (r : MemoryRequest) (m : Memory) (was : Holds state held) (id : r.source.id < 2 ^ 16) where
  pub answers-alike : run (state_rules registers state r) m ≡ run (cached_rules registers held r) m
  unfolding state_rules cached_rules
  answers-alike = on (finds state held r was id)
    where
      on : Finds state held r
          → run (on_admission (admitted registers r) refused (granted r.address)
          (if ltb (newest state r) 64 then answer (granted (held_address state (newest state r) r.address))
          else map_rules (memory_outcome r) (rules_of registers r))) m
          ≡ run (on_admission (admitted registers r) refused (granted r.address)
          (on_hit (lookup r held) (map_rules (memory_outcome r) (rules_of registers r)) (λ h. answer (held_answer registers r h)))) m
      on (nothing none is) = rw (is, le-ltb (newest state r) 64 none)
      on (found h few is at) = rw (is, lt-ltb (newest state r) 64 few, held-as state h (newest state r) r.address at)

  -- what a granted walk reaches can be held
  holdable : (frame level : ℕ) → taken_up ≡ admitted registers r → run (rules_of registers r) m ≡ leaf frame level
      → Holdable (cached_as registers r m frame level)
  holdable frame level taken walked =
      let good = taken-good registers (in_interrupt_range r.address) registers.te taken in
      let reach = rw walked at (reachable registers r m good.root.aligned) in
      record {
        source = id;
        address = leaf-small registers r.write m r.address frame level good.mgaw.most r.source.id walked;
        frame = reach.0;
        least = reach.1;
        most = reach.2;
      }

  pub left-alike : Holds (state_after registers state r m) (held_after registers held r m)
  unfolding state_after held_after
  left-alike = on (admitted registers r) refl (finds state held r was id) (run (rules_of registers r) m) refl
    where
      on : (a : Admitted) → a ≡ admitted registers r → Finds state held r → (t : Translation) → run (rules_of registers r) m ≡ t
          → Holds
          (if_taken a (if ltb (newest state r) 64 then state else state_kept state r t (domain_over registers r.source.id m)) state)
          (if_taken a (on_hit (lookup r held) (on_grant t held (λ frame level. insert (cached_as registers r m frame level) held)) (λ h. held)) held)
      on (refusal n) told f t walked = was
      on pass told f t walked = was
      on taken_up told (found h few is at) t walked = rw (is, lt-ltb (newest state r) 64 few) was
      on taken_up told (nothing none is) through walked = rw (is, le-ltb (newest state r) 64 none) was
      on taken_up told (nothing none is) (fault reason fpd) walked = rw (is, le-ltb (newest state r) 64 none) was
      on taken_up told (nothing none is) (leaf frame level) walked = rw (is, le-ltb (newest state r) 64 none) (by (meets_interrupt_range frame (span_at level)))
        where
          by : (meets : Bool)
              → Holds
              (if meets then state else if caches state r then holding state (key_for r level) frame (domain_over registers r.source.id m) else state)
              (if meets then held else insert (cached_as registers r m frame level) held)
          by true = was
          by false =
              let good = holdable frame level told walked in
              rw (eq-eqb (length state) words was.long, lt-ltb r.address (2 ^ 57) good.address)
              (hold_holds state held (cached_as registers r m frame level) good was)

without-holds : (state : List ℕ) (held : List Held) (d : ℕ) → Holds state held → Holds (state_without state d) (without d held)
unfolding state_without
without-holds state held d was =
    rw (eq-eqb (length state) words was.long, ← append-nil (without d held))
    (sift-holds d 64 (head_of state) state [] held was was.few (omega arith) (omega arith))

module _ (registers : Registers) (windows : List ℕ) where
  runs-alike : (calls : List CacheCall) (bytes state : List ℕ) (held : List Held) → Holds state held → bad_windows windows (length bytes) ≡ false
      → Fair registers windows calls
      → call_answers registers windows calls bytes state
      ≡ answers registers (operations registers windows calls) (record { memory = of_windows windows bytes; held = held })
  unfolding call_answers answers operations Fair step
  runs-alike [] bytes state held was good fair = refl
  runs-alike (ask r ∷ calls) bytes state held was good fair =
      rw good
      (ap₂ (λ (o : MemoryOutcome) (os : List MemoryOutcome). o ∷ os)
      (answers-alike registers state held r (of_windows windows bytes) was fair.0)
      (runs-alike calls bytes (state_after registers state r (of_windows windows bytes)) (held_after registers held r (of_windows windows bytes))
      (left-alike registers state held r (of_windows windows bytes) was fair.0) good fair.1))
  runs-alike (change bytes' ∷ calls) bytes state held was good fair = runs-alike calls bytes' state held was fair.0 fair.1
  runs-alike (drop_all ∷ calls) bytes state held was good fair =
      rw was.long (runs-alike calls bytes (replicate words 0) [] empty_holds good fair)
  runs-alike (drop_domain d ∷ calls) bytes state held was good fair =
      runs-alike calls bytes (state_without state d) (without d held) (without-holds state held d was) good fair

  plain-alike : (calls : List CacheCall) (bytes : List ℕ) → bad_windows windows (length bytes) ≡ false → Fair registers windows calls
      → plain_answers registers (operations registers windows calls) (of_windows windows bytes) ≡ plain_calls registers windows calls bytes
  unfolding plain_answers plain_calls operations Fair
  plain-alike [] bytes good fair = refl
  plain-alike (ask r ∷ calls) bytes good fair = rw (good, plain-alike calls bytes good fair.1)
  plain-alike (change bytes' ∷ calls) bytes good fair = plain-alike calls bytes' fair.0 fair.1
  plain-alike (drop_all ∷ calls) bytes good fair = plain-alike calls bytes good fair
  plain-alike (drop_domain d ∷ calls) bytes good fair = plain-alike calls bytes good fair

pub as-defined : AsDefined
as-defined registers windows bytes calls good fair = runs-alike registers windows calls bytes (replicate words 0) [] empty_holds good fair

pub equal-calls : EqualCalls
equal-calls registers windows bytes calls good fair proviso =
    as-defined registers windows bytes calls good fair
    ∙ equal registers (operations registers windows calls) (of_windows windows bytes) proviso
    ∙ plain-alike registers windows calls bytes good fair
