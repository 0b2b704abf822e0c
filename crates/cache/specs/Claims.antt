-- Ask 11's claims. Their proofs are in proofs/.
use Rattle.std.specs.Prelude.{ℕ, ◌≤◌, ◌<◌, ◌≡◌, Bool, true, false, ◌⊎◌, length, take as firsts}
use mathlib.Core.List.{List, [], ◌∷◌, ◌++◌, Memᴰ}
use Rattle.image.specs.Memory.{Memory}
use Rattle.image.specs.Rules.{run, named, SameIn}
use Rattle.registers.specs.Admission.{taken_up}
use Rattle.registers.specs.declared.Registers.{Registers}
use Rattle.dma.specs.InterruptRange.{meets_interrupt_range, span_at}
use Rattle.dma.specs.Lookup.{context, lookup_rules}
use Rattle.dma.specs.Requests.{memory_rules}
use Rattle.dma.specs.declared.context.Context.{Context}
use Rattle.dma.specs.Translation.{leaf, translation_rules}
use Rattle.dma.specs.declared.MemoryRequest.{MemoryRequest}
use Rattle.cache.specs.Held.{Held, miss, hit, page_of, fits, lookup, insert, without}
use Rattle.cache.specs.Engine.{Operation, request, edit, invalidate_all, invalidate_domain, State, from, cached_rules, cached_as, held_after, rules_of, held_words, admitted, step, left, answers, plain_answers, TakenOut}

module _ (registers : Registers) where
  -- the proviso: each edit that changes a word named by a held translation is followed, before the next request, by an invalidation that
  -- takes that translation out
  unfoldable pub Proviso : List Operation → State → Type 0
  Proviso [] s = Unit {0}
  Proviso (request r ∷ os) s = Proviso os (step registers (request r) s)
  Proviso (edit m ∷ os) s =
      ((h : Held) → Memᴰ h s.held → (SameIn (held_words registers h) s.memory m → ⊥) → TakenOut h os)
      × Proviso os (step registers (edit m) s)
  Proviso (invalidate_all ∷ os) s = Proviso os (step registers invalidate_all s)
  Proviso (invalidate_domain d ∷ os) s = Proviso os (step registers (invalidate_domain d) s)

-- (i) From an empty cache, over any run that keeps the proviso, the second engine's answers are the plain engine's.
abbrev pub Equal : Type 0
Equal = (registers : Registers) (os : List Operation) (m : Memory) → Proviso registers os (from m)
    → answers registers os (from m) ≡ plain_answers registers os m

-- (ii) After any run from an empty cache, proviso or not, an answer from the cache is the plain engine's for the same request over the memory at
-- the time it was cached.
abbrev pub AsCached : Type 0
AsCached = (registers : Registers) (os : List Operation) (m : Memory) (r : MemoryRequest) (h : Held)
    → admitted registers r ≡ taken_up → lookup r (left registers os (from m)).held ≡ hit h
    → run (cached_rules registers (left registers os (from m)).held r) (left registers os (from m)).memory
    ≡ run (memory_rules registers r) h.memory

-- and any other answer is the plain engine's over the memory of now
abbrev pub AsNow : Type 0
AsNow = (registers : Registers) (held : List Held) (m : Memory) (r : MemoryRequest)
    → (admitted registers r ≡ taken_up → ⊥) ⊎ (lookup r held ≡ miss)
    → run (cached_rules registers held r) m ≡ run (memory_rules registers r) m

-- (iii) What is cached, held and answered.
-- A request adds at most one translation, and only where it is taken up, nothing held fits it and its walk over the memory of now reaches a page that is
-- granted.
abbrev pub OnlyPages : Type 0
OnlyPages = (registers : Registers) (held : List Held) (r : MemoryRequest) (m : Memory)
    → (held_after registers held r m ≡ held)
    ⊎ ((frame : ℕ) × (level : ℕ) × (admitted registers r ≡ taken_up) × (lookup r held ≡ miss) × (run (rules_of registers r) m ≡ leaf frame level)
    × (meets_interrupt_range frame (span_at level) ≡ false) × (held_after registers held r m ≡ insert (cached_as registers r m frame level) held))

-- never more than 64
abbrev pub AtMost64 : Type 0
AtMost64 = (registers : Registers) (os : List Operation) (m : Memory) → length (left registers os (from m)).held ≤ 64

-- nothing is pushed out before a 65th, and then the oldest alone
abbrev pub Held64 : Type 0
Held64 = (h : Held) (held : List Held) → length held < 64 → insert h held ≡ h ∷ held

abbrev pub PushedOut : Type 0
PushedOut = (h : Held) (held : List Held) → insert h held ≡ h ∷ firsts 63 held

-- an invalidation by domain takes out all of that domain and no other
abbrev pub ByDomain : Type 0
ByDomain = (d : ℕ) (held : List Held) (h : Held)
    → (Memᴰ h (without d held) → Memᴰ h held × (h.domain ≡ d → ⊥))
    × (Memᴰ h held → (h.domain ≡ d → ⊥) → Memᴰ h (without d held))

-- a hit is the newest that fits: those before it don't
abbrev pub Newest : Type 0
Newest = (r : MemoryRequest) (newer older : List Held) (h : Held) → ((x : Held) → Memᴰ x newer → fits r x ≡ false) → fits r h ≡ true
    → lookup r (newer ++ (h ∷ older)) ≡ hit h

-- where one fits, one answers
abbrev pub MustAnswer : Type 0
MustAnswer = (r : MemoryRequest) (held : List Held) (h : Held) → Memᴰ h held → fits r h ≡ true → lookup r held ≡ miss → ⊥

-- only what fits answers, and reads no word
abbrev pub JustThose : Type 0
JustThose = (registers : Registers) (r : MemoryRequest) (held : List Held) (h : Held) (m : Memory) → lookup r held ≡ hit h
    → (fits r h ≡ true) × (named (cached_rules registers held r) m ≡ [])

-- all addresses of a page name the same words, so it is no matter for which of them the translation was cached
abbrev pub PageWords : Type 0
PageWords = (registers : Registers) (source a b : ℕ) (write : Bool) (m : Memory) (frame level : ℕ) → 39 ≤ registers.mgaw
    → run (translation_rules registers a write source) m ≡ leaf frame level → page_of level a ≡ page_of level b
    → named (translation_rules registers b write source) m ≡ named (translation_rules registers a write source) m

-- A translation that is held was cached by a request of the run, over the memory that the run had come to then.
pub record CachedIn (registers : Registers) (os : List Operation) (s : State) (h : Held) : Type 0 where
  pub before : List Operation
  pub by : MemoryRequest
  pub after : List Operation
  pub split : os ≡ before ++ (request by ∷ after)
  pub frame : ℕ
  pub level : ℕ
  pub is : h ≡ cached_as registers by (left registers before s).memory frame level
  pub walked : run (rules_of registers by) (left registers before s).memory ≡ leaf frame level
  pub granted : meets_interrupt_range frame (span_at level) ≡ false

abbrev pub WhenCached : Type 0
WhenCached = (registers : Registers) (os : List Operation) (m : Memory) (h : Held) → Memᴰ h (left registers os (from m)).held
    → CachedIn registers os (from m) h

-- its domain is that of the context entry as cached
abbrev pub DomainAsCached : Type 0
DomainAsCached = (registers : Registers) (os : List Operation) (m : Memory) (h : Held) → Memᴰ h (left registers os (from m)).held
    → (c : Context) × (run (lookup_rules registers h.source) h.memory ≡ context c) × (h.domain ≡ c.domain)
