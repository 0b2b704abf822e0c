-- The second engine, and runs of operations on it and on the plain engine.
use Rattle.std.specs.Prelude.{ℕ, ◌≡◌, ◌⊎◌, cond, List, [], ◌∷◌}
use Rattle.image.specs.Memory.{Memory}
use Rattle.image.specs.Rules.{Rules, answer, run, named, map_rules}
use Rattle.registers.specs.Admission.{Admitted, refusal, pass, taken_up, admission, on_admission, in_interrupt_range}
use Rattle.registers.specs.declared.Registers.{Registers}
use Rattle.dma.specs.InterruptRange.{meets_interrupt_range, span_at}
use Rattle.dma.specs.Lookup.{on_lookup, lookup_rules}
use Rattle.dma.specs.Page.{host_address}
use Rattle.dma.specs.Requests.{MemoryOutcome, granted, refused, memory_outcome, memory_rules}
use Rattle.dma.specs.Translation.{Translation, through, leaf, fault, translation_rules}
use Rattle.dma.specs.declared.MemoryRequest.{MemoryRequest}
use Rattle.cache.specs.Held.{Held, on_hit, lookup, insert, without}

-- a page that a walk ended with and that is granted: one that meets the interrupt range is refusal 4
abbrev pub on_grant {ℓ} : {A : Type ℓ} → Translation → A → (ℕ → ℕ → A) → A
on_grant through none some = none
on_grant (leaf frame level) none some = cond (meets_interrupt_range frame (span_at level)) none (some frame level)
on_grant (fault reason fpd) none some = none

abbrev pub if_taken {ℓ} : {A : Type ℓ} → Admitted → A → A → A
if_taken (refusal n) taken other = other
if_taken pass taken other = other
if_taken taken_up taken other = taken

module _ (registers : Registers) where
  -- refusals 1 and 2 and TE, of now
  abbrev pub admitted : MemoryRequest → Admitted
  admitted request = admission registers (in_interrupt_range request.address) registers.te

  abbrev pub walk_of : (address : ℕ) → MemoryRequest → Rules Translation
  walk_of address request = translation_rules registers address request.write request.source.id

  abbrev pub rules_of : MemoryRequest → Rules Translation
  rules_of request = walk_of request.address request

  -- what a held translation answers
  abbrev pub held_answer : MemoryRequest → Held → MemoryOutcome
  held_answer request h = granted (host_address h.level h.frame request.address)

  -- the second engine's answer: a hit reads no word
  unfoldable pub cached_rules : List Held → MemoryRequest → Rules MemoryOutcome
  cached_rules held request =
      on_admission (admitted request) refused (granted request.address)
      (on_hit (lookup request held) (map_rules (memory_outcome request) (rules_of request)) (λ h. answer (held_answer request h)))

  -- the domain of the context entry that the source's requests go by
  abbrev pub domain_over : (source : ℕ) → Memory → ℕ
  domain_over source m = on_lookup (run (lookup_rules registers source) m) (λ reason fpd. 0) (λ c. c.domain)

  -- a translation that reached a page, as it is cached
  abbrev pub cached_as : MemoryRequest → Memory → (frame level : ℕ) → Held
  cached_as request m frame level =
      record {
        source = request.source.id;
        address = request.address;
        write = request.write;
        frame = frame;
        level = level;
        domain = domain_over request.source.id m;
        memory = m;
      }

  -- only a page walk that is granted is cached
  unfoldable pub held_after : List Held → MemoryRequest → Memory → List Held
  held_after held request m =
      if_taken (admitted request)
      (on_hit (lookup request held)
      (on_grant (run (rules_of request) m) held (λ frame level. insert (cached_as request m frame level) held)) (λ h. held))
      held

  -- the words that a held translation named
  unfoldable pub held_words : Held → List ℕ
  held_words h = named (translation_rules registers h.address h.write h.source) h.memory

-- A request; an edit of the memory, as a post or a take is: whatever it is afterwards; and the invalidations.
pub data Operation : Type 0 where
  request : MemoryRequest → Operation
  edit : Memory → Operation
  invalidate_all : Operation
  invalidate_domain : ℕ → Operation

pub record State : Type 0 where
  pub memory : Memory
  pub held : List Held

abbrev pub from : Memory → State
from m = record { memory = m; held = [] }

module _ (registers : Registers) where
  unfoldable pub step : Operation → State → State
  step (request r) s = record { memory = s.memory; held = held_after registers s.held r s.memory }
  step (edit m) s = record { memory = m; held = s.held }
  step invalidate_all s = record { memory = s.memory; held = [] }
  step (invalidate_domain d) s = record { memory = s.memory; held = without d s.held }

  -- what a run leaves
  unfoldable pub left : List Operation → State → State
  left [] s = s
  left (o ∷ os) s = left os (step o s)

  -- the answers of a run, in order: the second engine's
  unfoldable pub answers : List Operation → State → List MemoryOutcome
  answers [] s = []
  answers (request r ∷ os) s = run (cached_rules registers s.held r) s.memory ∷ answers os (step (request r) s)
  answers (edit m ∷ os) s = answers os (step (edit m) s)
  answers (invalidate_all ∷ os) s = answers os (step invalidate_all s)
  answers (invalidate_domain d ∷ os) s = answers os (step (invalidate_domain d) s)

  -- and the plain engine's
  unfoldable pub plain_answers : List Operation → Memory → List MemoryOutcome
  plain_answers [] m = []
  plain_answers (request r ∷ os) m = run (memory_rules registers r) m ∷ plain_answers os m
  plain_answers (edit m' ∷ os) m = plain_answers os m'
  plain_answers (invalidate_all ∷ os) m = plain_answers os m
  plain_answers (invalidate_domain d ∷ os) m = plain_answers os m

-- before the next request of a run, an invalidation takes this translation out; where no request comes, none is needed
unfoldable pub TakenOut : Held → List Operation → Type 0
TakenOut h [] = Unit {0}
TakenOut h (request r ∷ os) = ⊥
TakenOut h (edit m ∷ os) = TakenOut h os
TakenOut h (invalidate_all ∷ os) = Unit {0}
TakenOut h (invalidate_domain d ∷ os) = (h.domain ≡ d) ⊎ TakenOut h os
