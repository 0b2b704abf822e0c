-- Ask 11's claims over any run of operations.
use Prim.Native.Nat.{ℕ}
use mathlib.Core.Bool.{Bool, true, false}
use mathlib.Core.Path.{◌≡◌, refl, ap, sym, ◌∙◌, subst}
use mathlib.Core.List.Memᴰ
use mathlib.Core.List.{List, [], ◌∷◌, Memᴰ}
use mathlib.Core.Logic.{◌⊎◌, inl, inr, ⊎_elim}
use native.Mathlib.Omega.{arith}
use Rattle.image.specs.Memory.{Memory}
use Rattle.image.specs.Rules.{answer, run, map_rules, SameIn}
use Rattle.registers.specs.Admission.{Admitted, refusal, pass, taken_up, on_admission, in_interrupt_range}
use Rattle.registers.specs.declared.Registers.{Registers}
use Rattle.std.specs.Prelude.{if◌then◌else◌}
use Rattle.dma.specs.InterruptRange.{meets_interrupt_range, span_at}
use Rattle.dma.specs.Requests.{granted, refused, memory_outcome, memory_rules}
use Rattle.dma.specs.Translation.{Translation, through, leaf, fault, translation_rules}
use Rattle.dma.specs.declared.MemoryRequest.{MemoryRequest}
use Rattle.dma.proofs.Admissions.{takes}
use Rattle.cache.specs.Held.{Held, Hit, miss, hit, on_hit, lookup, insert}
use Rattle.cache.specs.Engine.{Operation, request, edit, invalidate_all, invalidate_domain, State, from, on_grant, if_taken, admitted, rules_of, held_answer, cached_rules, cached_as, held_after, held_words, step, left, answers, plain_answers, TakenOut}
use Rattle.cache.specs.Claims.{Proviso, Equal, AsCached, AsNow}
use Rattle.cache.proofs.Lists.{mem-insert, mem-without, mem-lookup, fitting}
use Rattle.cache.proofs.Page.{same-page}
use Rattle.cache.proofs.Kept.{leaf-kept, taken-wide, same_refl, same-trans, same-words}

-- one request
module _ (registers : Registers) where
  -- over this memory the walk for the address that it was cached for reaches its page
  abbrev pub Reaches : Held → Memory → Type 0
  Reaches h m = run (translation_rules registers h.address h.write h.source) m ≡ leaf h.frame h.level

  -- and the page is granted
  abbrev pub Clear : Held → Type 0
  Clear h = meets_interrupt_range h.frame (span_at h.level) ≡ false

  -- then so does the walk of each request that it fits, and the plain engine answers as it does
  pub hit-plain : (held : List Held) (r : MemoryRequest) (h : Held) (m now : Memory) → admitted registers r ≡ taken_up → lookup r held ≡ hit h
      → Reaches h m → Clear h → run (cached_rules registers held r) now ≡ run (memory_rules registers r) m
  unfolding cached_rules run
  hit-plain held r h m now taken found was clear =
      let f = fitting r h (mem-lookup r held found).1 in
      let wide = taken-wide registers (in_interrupt_range r.address) registers.te taken in
      let there : run (translation_rules registers r.address h.write h.source) m ≡ leaf h.frame h.level =
      same-page registers h.write m h.address r.address h.frame h.level f.2 h.source wide was in
      let mine : run (rules_of registers r) m ≡ leaf h.frame h.level = rw (f.0, f.1) at there in
      let says : memory_outcome r (leaf h.frame h.level) ≡ held_answer registers r h = rw clear in
      rw (taken, found) (sym says ∙ ap (memory_outcome r) (sym mine) ∙ takes registers r m refl (sym taken))

  pub miss-plain : (held : List Held) (r : MemoryRequest) (m : Memory) → lookup r held ≡ miss
      → run (cached_rules registers held r) m ≡ run (memory_rules registers r) m
  unfolding cached_rules memory_rules
  miss-plain held r m none = rw none

  pub untaken-plain : (held : List Held) (r : MemoryRequest) (m : Memory) → (admitted registers r ≡ taken_up → ⊥)
      → run (cached_rules registers held r) m ≡ run (memory_rules registers r) m
  unfolding cached_rules memory_rules
  untaken-plain held r m h = on (admitted registers r) h
    where
      on : (a : Admitted) → (a ≡ taken_up → ⊥)
          → run
          (on_admission a refused (granted r.address)
          (on_hit (lookup r held) (map_rules (memory_outcome r) (rules_of registers r)) (λ h. answer (held_answer registers r h)))) m
          ≡ run (on_admission a refused (granted r.address) (map_rules (memory_outcome r) (rules_of registers r))) m
      on (refusal n) h = refl
      on pass h = refl
      on taken_up h = absurd (h refl)

  -- what a request adds
  pub record Cached (r : MemoryRequest) (m : Memory) (h : Held) : Type 0 where
    pub frame : ℕ
    pub level : ℕ
    pub is : h ≡ cached_as registers r m frame level
    pub walked : run (rules_of registers r) m ≡ leaf frame level
    pub granted : meets_interrupt_range frame (span_at level) ≡ false

  pub mem-after : (held : List Held) (r : MemoryRequest) (m : Memory) (h : Held) → Memᴰ h (held_after registers held r m)
      → Memᴰ h held ⊎ Cached r m h
  unfolding held_after
  mem-after held r m h is = on (admitted registers r) (lookup r held) (run (rules_of registers r) m) refl is
    where
      on : (a : Admitted) (l : Hit) (t : Translation) → run (rules_of registers r) m ≡ t
          → Memᴰ h
          (if_taken a (on_hit l (on_grant t held (λ frame level. insert (cached_as registers r m frame level) held)) (λ h. held)) held)
          → Memᴰ h held ⊎ Cached r m h
      on (refusal n) l t told is = inl is
      on pass l t told is = inl is
      on taken_up (hit x) t told is = inl is
      on taken_up miss through told is = inl is
      on taken_up miss (fault reason fpd) told is = inl is
      on taken_up miss (leaf frame level) told is = by (meets_interrupt_range frame (span_at level)) refl is
        where
          by : (meets : Bool) → meets_interrupt_range frame (span_at level) ≡ meets
              → Memᴰ h (if meets then held else insert (cached_as registers r m frame level) held) → Memᴰ h held ⊎ Cached r m h
          by true clear is = inl is
          by false clear is =
              ⊎_elim (λ e. inr (record { frame = frame; level = level; is = e; walked = told; granted = clear })) (λ rest. inl rest)
              (mem-insert (cached_as registers r m frame level) held is)

  -- as the walk was when it was cached
  abbrev pub Was : Held → Type 0
  Was h = Reaches h h.memory × Clear h

  cached-was : (r : MemoryRequest) (m : Memory) (h : Held) → Cached r m h → Was h
  cached-was r m h c = rw c.is (c.walked, c.granted)

  -- every held translation is as the walk was when it was cached
  pub step-was : (o : Operation) (s : State) → ((h : Held) → Memᴰ h s.held → Was h)
      → (h : Held) → Memᴰ h (step registers o s).held → Was h
  unfolding step
  step-was (request r) s all h is =
      ⊎_elim (all h) (cached-was r s.memory h) (mem-after s.held r s.memory h is)
  step-was (edit m) s all h is = all h is
  step-was invalidate_all s all h is = absurd (Memᴰ.not-nil is)
  step-was (invalidate_domain d) s all h is = all h (mem-without d s.held is).0

  pub left-was : (os : List Operation) (s : State) → ((h : Held) → Memᴰ h s.held → Was h)
      → (h : Held) → Memᴰ h (left registers os s).held → Was h
  unfolding left
  left-was [] s all h is = all h is
  left-was (o ∷ os) s all h is = left-was os (step registers o s) (step-was o s all) h is

pub as-cached : AsCached
as-cached registers os m r h taken found =
    let was = left-was registers os (from m) (λ x is. absurd (Memᴰ.not-nil is)) h (mem-lookup r (left registers os (from m)).held found).0 in
    hit-plain registers (left registers os (from m)).held r h h.memory (left registers os (from m)).memory taken found was.0 was.1

pub as-now : AsNow
as-now registers held m r (inl h) = untaken-plain registers held r m h
as-now registers held m r (inr h) = miss-plain registers held r m h

-- With the proviso. At each place of a run, each held translation still has its words as they were when it was cached, or is taken out before
-- the next request.
module _ (registers : Registers) where
  pub record Fresh (os : List Operation) (now : Memory) (h : Held) : Type 0 where
    pub was : Was registers h
    pub words : SameIn (held_words registers h) h.memory now ⊎ TakenOut h os

  abbrev AllFresh : List Operation → State → Type 0
  AllFresh os s = (h : Held) → Memᴰ h s.held → Fresh os s.memory h

  -- where a request comes next, none is to be taken out before it
  unchanged : (r : MemoryRequest) (os : List Operation) (now : Memory) (h : Held) → Fresh (request r ∷ os) now h
      → SameIn (held_words registers h) h.memory now
  unfolding TakenOut
  unchanged r os now h f = ⊎_elim (λ same. same) (λ none. absurd none) f.words

  served : (r : MemoryRequest) (os : List Operation) (s : State) → AllFresh (request r ∷ os) s
      → run (cached_rules registers s.held r) s.memory ≡ run (memory_rules registers r) s.memory
  unfolding held_words
  served r os s fresh = on (admitted registers r) refl (lookup r s.held) refl
    where
      on : (a : Admitted) → admitted registers r ≡ a → (l : Hit) → lookup r s.held ≡ l
          → run (cached_rules registers s.held r) s.memory ≡ run (memory_rules registers r) s.memory
      on (refusal n) told l found = untaken-plain registers s.held r s.memory (λ h. let z : ◌≡◌ {A = ℕ} 0 1 = cc in omega arith)
      on pass told l found = untaken-plain registers s.held r s.memory (λ h. let z : ◌≡◌ {A = ℕ} 0 1 = cc in omega arith)
      on taken_up told miss found = miss-plain registers s.held r s.memory found
      on taken_up told (hit h) found =
          let f = fresh h (mem-lookup r s.held found).0 in
          hit-plain registers s.held r h s.memory s.memory told found
          (leaf-kept registers h.address h.write h.source h.memory s.memory h.frame h.level f.was.0
          (unchanged r os s.memory h f)) f.was.1

  -- a translation that was cached now has its words as they are
  cached-fresh : (r : MemoryRequest) (os : List Operation) (m : Memory) (h : Held) → Cached registers r m h → Fresh os m h
  cached-fresh r os m h c =
      let now : h.memory ≡ m = ap (λ (x : Held). x.memory) c.is in
      record {
        was = cached-was registers r m h c;
        words = inl (subst (λ (x : Memory). SameIn (held_words registers h) h.memory x) now (same_refl (held_words registers h) h.memory));
      }

  fresh-request : (r : MemoryRequest) (os : List Operation) (s : State) → AllFresh (request r ∷ os) s → AllFresh os (step registers (request r) s)
  unfolding step
  fresh-request r os s fresh h is =
      ⊎_elim
      (λ old. record { was = (fresh h old).was; words = inl (unchanged r os s.memory h (fresh h old)) })
      (cached-fresh r os s.memory h)
      (mem-after registers s.held r s.memory h is)

  fresh-edit : (m : Memory) (os : List Operation) (s : State) → AllFresh (edit m ∷ os) s
      → ((h : Held) → Memᴰ h s.held → (SameIn (held_words registers h) s.memory m → ⊥) → TakenOut h os)
      → AllFresh os (step registers (edit m) s)
  unfolding step TakenOut
  fresh-edit m os s fresh pro h is =
      record {
        was = (fresh h is).was;
        words = ⊎_elim (λ same. on same (same-words (held_words registers h) s.memory m)) (λ out. inr out) (fresh h is).words;
      }
    where
      on : SameIn (held_words registers h) h.memory s.memory → Dec (SameIn (held_words registers h) s.memory m)
          → SameIn (held_words registers h) h.memory m ⊎ TakenOut h os
      on same (yes still) = inl (same-trans (held_words registers h) h.memory s.memory m same still)
      on same (no changed) = inr (pro h is changed)

  fresh-domain : (d : ℕ) (os : List Operation) (s : State) → AllFresh (invalidate_domain d ∷ os) s
      → AllFresh os (step registers (invalidate_domain d) s)
  unfolding step TakenOut
  fresh-domain d os s fresh h is =
      let kept = mem-without d s.held is in
      let f = fresh h kept.0 in
      record {
        was = f.was;
        words = ⊎_elim (λ same. inl same) (⊎_elim (λ its. absurd (kept.1 its)) (λ out. inr out)) f.words;
      }

  fresh-all : (os : List Operation) (s : State) → AllFresh os (step registers invalidate_all s)
  unfolding step
  fresh-all os s h is = absurd (Memᴰ.not-nil is)

  pub equal-from : (os : List Operation) (s : State) → AllFresh os s → Proviso registers os s
      → answers registers os s ≡ plain_answers registers os s.memory
  unfolding answers plain_answers Proviso step
  equal-from [] s fresh pro = refl
  equal-from (request r ∷ os) s fresh pro =
      rw (served r os s fresh, equal-from os (step registers (request r) s) (fresh-request r os s fresh) pro)
  equal-from (edit m ∷ os) s fresh pro =
      equal-from os (step registers (edit m) s) (fresh-edit m os s fresh pro.0) pro.1
  equal-from (invalidate_all ∷ os) s fresh pro = equal-from os (step registers invalidate_all s) (fresh-all os s) pro
  equal-from (invalidate_domain d ∷ os) s fresh pro =
      equal-from os (step registers (invalidate_domain d) s) (fresh-domain d os s fresh) pro

pub equal : Equal
equal registers os m pro = equal-from registers os (from m) (λ h is. absurd (Memᴰ.not-nil is)) pro
