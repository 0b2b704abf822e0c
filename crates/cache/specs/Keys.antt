-- A page, a source and a kind as one number, the key by which a translation is held.
use Rattle.std.specs.Prelude.{ℕ, ◌+◌, ◌-◌, ◌*◌, ◌^◌, Bool}
use Rattle.std.specs.Prelude.{if◌then◌else◌}
use Rattle.dma.specs.declared.MemoryRequest.{MemoryRequest}
use Rattle.cache.specs.Held.{Held, page_of}

abbrev pub write_number : (write : Bool) → ℕ
write_number write = if write then 1 else 0

-- bits 44:0 the first 4 KiB of the page, 60:45 the source, 61 the kind, 63:62 the level of the page's leaf
unfoldable pub key_number : (level address source : ℕ) (write : Bool) → ℕ
key_number level address source write =
    page_of level address * 2 ^ (9 * (level - 1)) + 2 ^ 45 * source + 2 ^ 61 * write_number write + 2 ^ 62 * level

-- of a held translation, and of what would be held for a request by a leaf of a level
abbrev pub key_of : Held → ℕ
key_of h = key_number h.level h.address h.source h.write

abbrev pub key_for : MemoryRequest → (level : ℕ) → ℕ
key_for request level = key_number level request.address request.source.id request.write
