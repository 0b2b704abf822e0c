-- What a reader expects of isolation: a host address that a walk grants lies in the page of a leaf that this request's own walk reached,
-- with the request's own right set in every entry on the way. Proved in proofs/Reached.antt.
use Rattle.std.specs.Prelude.{ℕ, ◌+◌, ◌-◌, ◌*◌, ◌^◌, ◌≤◌, ◌<◌, true, false, ◌≡◌, ◌⊎◌, length}
use mathlib.Core.List.{List, [], ◌∷◌, ◌++◌, Memᴰ}
use Rattle.image.specs.Bits.{in_place}
use Rattle.image.specs.Memory.{Memory, Fetched, found, on_fetch}
use Rattle.image.specs.Rules.{run}
use Rattle.registers.specs.declared.Registers.{Registers}
use Rattle.dma.specs.Isolation.{answer_over}
use Rattle.dma.specs.Lookup.{context, lookup_rules}
use Rattle.dma.specs.Page.{own_right, leaf_at, host_address}
use Rattle.dma.specs.Requests.{granted, walked}
use Rattle.dma.specs.declared.context.Context.{Context}
use Rattle.dma.specs.declared.MemoryRequest.{MemoryRequest}

-- an entry that was fetched, with the request's own right
abbrev pub Allows : MemoryRequest → Fetched → Type 0
Allows request f = on_fetch f ⊥ (λ e. own_right request.write e ≡ true)

-- entries of a memory, from the top table down to a leaf, that give a request its right; as many as from this level down to the leaf's
pub record Path (request : MemoryRequest) (m : Memory) (entries : List ℕ) (top : ℕ) : Type 0 where
  pub above : List ℕ
  pub leaf : ℕ
  pub to-leaf : entries ≡ above ++ (leaf ∷ [])
  -- what stands there, and its level: a page of 4 KiB, 2 MiB or 1 GiB
  pub word : ℕ
  pub there : m leaf ≡ found word
  pub level : ℕ
  pub levels : length above + level ≡ top
  pub page-size : (0 < level) × (level ≤ 3)
  pub is_leaf : leaf_at level word ≡ true
  pub right : (at : ℕ) → Memᴰ at entries → Allows request (m at)

-- the leaf's frame
abbrev pub frame_of : {request : MemoryRequest} {m : Memory} {entries : List ℕ} {top : ℕ} → Path request m entries top → ℕ
frame_of path = in_place path.word 51 12

-- the walk of a request reached the page that holds a host address
pub record Reached (registers : Registers) (request : MemoryRequest) (m : Memory) (host : ℕ) : Type 0 where
  -- from the context of its own source
  pub own : Context
  pub own-context : run (lookup_rules registers request.source.id) m ≡ context own
  pub path : Path request m (walked registers request m) own.levels
  pub address : host ≡ host_address path.level (frame_of path) request.address
  pub in-page : (frame_of path ≤ host) × (host < frame_of path + 2 ^ (12 + 9 * (path.level - 1)))

-- the context of the request's own source passes through
pub record PassesThrough (registers : Registers) (request : MemoryRequest) (m : Memory) : Type 0 where
  pub own : Context
  pub own-context : run (lookup_rules registers request.source.id) m ≡ context own
  pub type : own.translation_type ≡ 2

-- the request goes on unchanged: no page entry is read, with TE off or by pass-through
pub record Unchanged (registers : Registers) (request : MemoryRequest) (m : Memory) (host : ℕ) : Type 0 where
  pub no_walk : walked registers request m ≡ []
  pub address : host ≡ request.address
  pub reason : (registers.te ≡ false) ⊎ PassesThrough registers request m

abbrev pub GrantedByOwnWalk : Type 0
GrantedByOwnWalk =
    (registers : Registers) (request : MemoryRequest) (m : Memory) (host : ℕ)
    → answer_over registers request m ≡ granted host
    → Unchanged registers request m host ⊎ Reached registers request m host
