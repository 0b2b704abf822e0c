-- What the calls with a cache answer, and what they leave in its numbers. The first line that applies decides.
use Rattle.std.specs.Prelude.{ℕ, Bool, not, List, eqb, ltb, length, replicate}
use Rattle.std.specs.Prelude.{if◌then◌else◌}
use Rattle.places.specs.Layout.{words}
use Rattle.cache.specs.Numbers.{cached_answer, cached_place, cached_state, state_without}
use Rattle.packing.specs.Answer.{memory_bytes}
use Rattle.packing.specs.Arguments.{malformed_windows, memory_request}
use Rattle.packing.specs.Registers.{malformed_registers, unpacked}
use Rattle.packing.specs.Status.{ok, bad_registers, bad_window_count, bad_answer, bad_kind}

-- not as many numbers as a cache has
abbrev pub bad_cache : ℕ
bad_cache = 0x108

-- 776 numbers, whatever they are
abbrev pub malformed_cache : List ℕ → Bool
malformed_cache cache = not (eqb (length cache) words)

-- the status, the cache and the buffer for the answer
unfoldable pub cached_call : (registers windows image cache : List ℕ) (source address write : ℕ) (answer : List ℕ) → ℕ × List ℕ × List ℕ
cached_call registers windows image cache source address write answer =
    if malformed_registers registers then (bad_registers, cache, answer)
    else if malformed_windows windows then (bad_window_count, cache, answer)
    else if malformed_cache cache then (bad_cache, cache, answer)
    else if not (eqb (length answer) 32) then (bad_answer, cache, answer)
    else if ltb 1 write then (bad_kind, cache, answer)
    else (
      ok,
      cached_state (unpacked registers) cache (memory_request source address write) windows image,
      memory_bytes (cached_answer (unpacked registers) cache (memory_request source address write) windows image)
          (cached_place (unpacked registers) cache (memory_request source address write) windows image),
    )

-- the status and the cache: all zero holds nothing
unfoldable pub invalidate_call : (cache : List ℕ) → ℕ × List ℕ
invalidate_call cache = if malformed_cache cache then (bad_cache, cache) else (ok, replicate (length cache) 0)

unfoldable pub invalidate_domain_call : (cache : List ℕ) (domain : ℕ) → ℕ × List ℕ
invalidate_domain_call cache domain = if malformed_cache cache then (bad_cache, cache) else (ok, state_without cache domain)
