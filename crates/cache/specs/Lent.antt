-- Runs of calls: the second engine as the code has it, over a lent state and lent memory.
use Rattle.std.specs.Prelude.{ℕ, ◌^◌, ◌<◌, false, List, [], ◌∷◌, ◌≡◌, length, replicate}
use Rattle.image.specs.Windows.{of_windows, bad_windows}
use Rattle.registers.specs.declared.Registers.{Registers}
use Rattle.dma.specs.Requests.{MemoryOutcome, memory_answer}
use Rattle.dma.specs.declared.MemoryRequest.{MemoryRequest}
use Rattle.places.specs.Layout.{words}
use Rattle.cache.specs.Engine.{Operation, request, edit, invalidate_all, invalidate_domain, from, answers}
use Rattle.cache.specs.Claims.{Proviso}
use Rattle.cache.specs.Numbers.{cached_answer, cached_state, state_without}

-- a call, or a change of the run of bytes by whatever else
pub data CacheCall : Type 0 where
  ask : MemoryRequest → CacheCall
  change : (bytes : List ℕ) → CacheCall
  drop_all : CacheCall
  drop_domain : (domain : ℕ) → CacheCall

module _ (registers : Registers) (windows : List ℕ) where
  -- the answers of a run of calls, in order
  unfoldable pub call_answers : List CacheCall → (bytes state : List ℕ) → List MemoryOutcome
  call_answers [] bytes state = []
  call_answers (ask r ∷ calls) bytes state =
      cached_answer registers state r windows bytes ∷ call_answers calls bytes (cached_state registers state r windows bytes)
  call_answers (change bytes' ∷ calls) bytes state = call_answers calls bytes' state
  call_answers (drop_all ∷ calls) bytes state = call_answers calls bytes (replicate (length state) 0)
  call_answers (drop_domain d ∷ calls) bytes state = call_answers calls bytes (state_without state d)

  -- those of the plain engine
  unfoldable pub plain_calls : List CacheCall → (bytes : List ℕ) → List MemoryOutcome
  plain_calls [] bytes = []
  plain_calls (ask r ∷ calls) bytes = memory_answer registers r windows bytes ∷ plain_calls calls bytes
  plain_calls (change bytes' ∷ calls) bytes = plain_calls calls bytes'
  plain_calls (drop_all ∷ calls) bytes = plain_calls calls bytes
  plain_calls (drop_domain d ∷ calls) bytes = plain_calls calls bytes

  -- the operations that they are
  unfoldable pub operations : List CacheCall → List Operation
  operations [] = []
  operations (ask r ∷ calls) = request r ∷ operations calls
  operations (change bytes ∷ calls) = edit (of_windows windows bytes) ∷ operations calls
  operations (drop_all ∷ calls) = invalidate_all ∷ operations calls
  operations (drop_domain d ∷ calls) = invalidate_domain d ∷ operations calls

  -- a source id is a u16, and no change makes the windows bad
  unfoldable pub Fair : List CacheCall → Type 0
  Fair [] = Unit {0}
  Fair (ask r ∷ calls) = (r.source.id < 2 ^ 16) × Fair calls
  Fair (change bytes ∷ calls) = (bad_windows windows (length bytes) ≡ false) × Fair calls
  Fair (drop_all ∷ calls) = Fair calls
  Fair (drop_domain d ∷ calls) = Fair calls

-- From an empty cache, the code's answers are those of the second engine as it is defined.
abbrev pub AsDefined : Type 0
AsDefined = (registers : Registers) (windows bytes : List ℕ) (calls : List CacheCall) → bad_windows windows (length bytes) ≡ false → Fair registers windows calls
    → call_answers registers windows calls bytes (replicate words 0) ≡ answers registers (operations registers windows calls) (from (of_windows windows bytes))

-- So, where the proviso is kept, they are the plain engine's.
abbrev pub EqualCalls : Type 0
EqualCalls = (registers : Registers) (windows bytes : List ℕ) (calls : List CacheCall) → bad_windows windows (length bytes) ≡ false → Fair registers windows calls
    → Proviso registers (operations registers windows calls) (from (of_windows windows bytes))
    → call_answers registers windows calls bytes (replicate words 0) ≡ plain_calls registers windows calls bytes
