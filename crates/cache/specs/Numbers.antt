-- The second engine over the numbers of a lent state, whatever they are.
use Rattle.std.specs.Prelude.{ℕ, ◌+◌, ◌*◌, ◌%◌, ◌^◌, min, Bool, ◌&&◌, List, eqb, ltb, length}
use Rattle.std.specs.Prelude.{if◌then◌else◌}
use Rattle.image.specs.Memory.{Memory}
use Rattle.image.specs.Place.{Place, no_entry, stopped_at}
use Rattle.image.specs.Rules.{Rules, answer, run, map_rules}
use Rattle.image.specs.Windows.{over_windows}
use Rattle.registers.specs.Admission.{on_admission}
use Rattle.registers.specs.declared.Registers.{Registers}
use Rattle.dma.specs.Requests.{MemoryOutcome, granted, refused, memory_outcome, concerned}
use Rattle.dma.specs.Translation.{Translation}
use Rattle.dma.specs.declared.MemoryRequest.{MemoryRequest}
use Rattle.places.specs.Layout.{words, key_in, frame_in, place_of_age, key_level}
use Rattle.places.specs.Chain.{age_of_key}
use Rattle.places.specs.Changes.{holding, sifted}
use Rattle.places.specs.Layout.{head_of}
use Rattle.cache.specs.Engine.{on_grant, if_taken, admitted, rules_of, domain_over}
use Rattle.cache.specs.Keys.{key_for}

-- a state of another length is no cache, and no page is held for an address of 2^57 or more: no walk reaches one
abbrev pub caches : (state : List ℕ) (request : MemoryRequest) → Bool
caches state request = eqb (length state) words && ltb request.address (2 ^ 57)

-- the age of the newest place that fits a request, of whatever level its leaf is: 64 where there is none
unfoldable pub newest : (state : List ℕ) (request : MemoryRequest) → ℕ
newest state request =
    if caches state request then
    min (age_of_key state (key_for request 1)) (min (age_of_key state (key_for request 2)) (age_of_key state (key_for request 3)))
    else 64

-- a frame, and the address's low 12, 21 or 30 bits by the level of a key
abbrev pub page_address : (key frame address : ℕ) → ℕ
page_address key frame address = frame % 2 ^ 52 + address % 2 ^ (3 + 9 * key_level key)

-- the host address that the place of an age gives
abbrev pub held_address : (state : List ℕ) (age address : ℕ) → ℕ
held_address state age address = page_address (key_in state (place_of_age state age)) (frame_in state (place_of_age state age)) address

-- a page that is granted is held
abbrev pub state_kept : (state : List ℕ) (request : MemoryRequest) (translated : Translation) (domain : ℕ) → List ℕ
state_kept state request translated domain =
    on_grant translated state
    (λ frame level. if caches state request then holding state (key_for request level) frame domain else state)

module _ (registers : Registers) (state : List ℕ) (request : MemoryRequest) where
  unfoldable pub state_rules : Rules MemoryOutcome
  state_rules =
      on_admission (admitted registers request) refused (granted request.address)
      (if ltb (newest state request) 64 then answer (granted (held_address state (newest state request) request.address))
      else map_rules (memory_outcome request) (rules_of registers request))

  unfoldable pub state_after : Memory → List ℕ
  state_after m =
      if_taken (admitted registers request)
      (if ltb (newest state request) 64 then state
      else state_kept state request (run (rules_of registers request) m) (domain_over registers request.source.id m))
      state

  -- over lent memory: bad windows are refusal 1
  abbrev pub cached_answer : (windows bytes : List ℕ) → MemoryOutcome
  cached_answer windows bytes = over_windows (refused 1) (run state_rules) windows bytes

  abbrev pub cached_place : (windows bytes : List ℕ) → Place
  cached_place windows bytes =
      over_windows no_entry (λ m. concerned (run state_rules m) (stopped_at state_rules m)) windows bytes

  abbrev pub cached_state : (windows bytes : List ℕ) → List ℕ
  cached_state windows bytes = over_windows state state_after windows bytes

-- an invalidation by domain: a state of another length stays as it is
unfoldable pub state_without : (state : List ℕ) (domain : ℕ) → List ℕ
state_without state domain = if eqb (length state) words then sifted domain (head_of state) 64 state else state
