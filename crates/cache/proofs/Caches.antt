-- What it means that a state caches a request.
use Prim.Native.Nat.{ℕ, ◌^◌, ◌<◌}
use mathlib.Core.Bool.{Bool, true, false}
use mathlib.Core.List.{List}
use mathlib.Core.Path.{◌≡◌, refl}
use native.Mathlib.Omega.{arith}
use borrow.Author.Tests.{eqb-true}
use lib.Dec.{eqb, ltb}
use lib.ListN.{length}
use Rattle.dma.specs.declared.MemoryRequest.{MemoryRequest}
use Rattle.places.specs.Layout.{words}
use Rattle.std.specs.Prelude.{if◌then◌else◌}
use Rattle.image.proofs.Choices.{both}
use Rattle.cache.specs.Numbers.{caches, newest}

pub cache-long : (state : List ℕ) (request : MemoryRequest) → caches state request ≡ true → length state ≡ words
cache-long state request h = eqb-true (length state) words (both (eqb (length state) words) (ltb request.address (2 ^ 57)) h).0

-- where something answers, the state caches the request
pub newest-caches : (state : List ℕ) (request : MemoryRequest) → newest state request < 64 → caches state request ≡ true
unfolding newest
newest-caches state request = on (caches state request) _
  where
    on : (t : Bool) (x : ℕ) → (if t then x else 64) < 64 → t ≡ true
    on true x h = refl
    on false x h = absurd (omega arith)

pub newest-long : (state : List ℕ) (request : MemoryRequest) → newest state request < 64 → length state ≡ words
newest-long state request h = cache-long state request (newest-caches state request h)
