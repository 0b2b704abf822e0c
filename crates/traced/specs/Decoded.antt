-- What a run of bytes says as an entry: malformed where it isn't the 32 bytes of one that is laid out well.
use Rattle.std.specs.Prelude.{ℕ, Bool, ◌&&◌, List, ◌≡◌, eqb, length}
use Rattle.std.specs.Prelude.{if◌then◌else◌}
use Rattle.traced.specs.Entry.{Fits, entry_bytes, traced_in}
use Rattle.traced.specs.Well.{well_traced}
use Rattle.traced.specs.declared.Traced.{Traced}

pub data Decoded : Type 0 where
  malformed : Decoded
  entry : Traced → Decoded

unfoldable pub entry_well : List ℕ → Bool
entry_well bytes = eqb (length bytes) 32 && well_traced (traced_in bytes)

unfoldable pub decoded : List ℕ → Decoded
decoded bytes = if entry_well bytes then entry (traced_in bytes) else malformed

-- what is decoded of an entry's bytes is the entry, if it is laid out well, and else nothing
abbrev pub DecodedAgain : Type 0
DecodedAgain = (e : Traced) → Fits e → decoded (entry_bytes e) ≡ (if well_traced e then entry e else malformed)
