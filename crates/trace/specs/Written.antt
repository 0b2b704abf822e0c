-- A trace as it is written: each block is filled before the next.
use Rattle.std.specs.Prelude.{ℕ, suc, ◌*◌, ◌/◌, ◌%◌, ◌^◌, ◌≤◌, true, List, [], ◌∷◌, ◌++◌, ◌≡◌, eqb, length}
use Rattle.std.specs.Prelude.{if◌then◌else◌}
use Rattle.blocks.specs.Written.{block_bytes}
use Rattle.traced.specs.Entry.{Fits, entry_bytes}
use Rattle.traced.specs.Well.{well_traced}
use Rattle.traced.specs.declared.Traced.{Traced}
use Rattle.trace.specs.Told.{Told, traced_at, told}

-- entries side by side
unfoldable pub entries_bytes : List Traced → List ℕ
entries_bytes [] = []
entries_bytes (e ∷ es) = entry_bytes e ++ entries_bytes es

unfoldable pub block_of : (number : ℕ) → List Traced → List ℕ
block_of number [] = []
block_of number (e ∷ es) = block_bytes number (length (e ∷ es)) (entries_bytes (e ∷ es))

-- the blocks from a number on, where some entries wait for their block to be filled: 15 fill it
unfoldable pub blocks_from : (number : ℕ) (waiting es : List Traced) → List ℕ
blocks_from number waiting [] = block_of number waiting
blocks_from number waiting (e ∷ es) =
    if eqb (length waiting) 14
    then block_of number (waiting ++ (e ∷ [])) ++ blocks_from (suc number) [] es
    else blocks_from number (waiting ++ (e ∷ [])) es

abbrev pub trace_of : List Traced → List ℕ
trace_of es = blocks_from 0 [] es

-- entries that are laid out well, each field in its bytes
unfoldable pub Entries : List Traced → Type 0
Entries [] = Unit {0}
Entries (e ∷ es) = ((well_traced e ≡ true) × Fits e) × Entries es

-- entry n of a trace stands in block n / 15, at n % 15
unfoldable pub placed : (n : ℕ) → List Traced → List Told
placed n [] = []
placed n (e ∷ es) = traced_at (n / 15) (n % 15) (entry_bytes e) ∷ placed (suc n) es

-- what was written is read back: every entry, in order, and nothing damaged. A trace has 2^48 blocks at most
abbrev pub ReadBack : Type 0
ReadBack = (es : List Traced) → Entries es → length es ≤ 15 * 2 ^ 48 → told (trace_of es) ≡ placed 0 es
