-- A writer over a lent buffer of 512 bytes: entries are laid into it, and a block is handed out when it is full or the trace is closed.
use Rattle.std.specs.Prelude.{ℕ, ◌+◌, ◌*◌, ◌^◌, ◌≤◌, Bool, not, ◌||◌, List, [], ◌∷◌, ◌++◌, ◌≡◌, eqb, leb, ltb, length, take, drop}
use Rattle.std.specs.Prelude.{if◌then◌else◌}
use Rattle.blocks.specs.Written.{finished}
use Rattle.traced.specs.Entry.{entry_bytes}
use Rattle.traced.specs.Well.{well_traced}
use Rattle.traced.specs.declared.Traced.{Traced}
use Rattle.trace.specs.Written.{trace_of, Entries}
use Rattle.trace.specs.declared.writer.Writer.{Writer}

-- the writer is to go on with; the buffer holds a block, to be taken first; or nothing was done
pub data Wrote : Type 0 where
  kept : Writer → Wrote
  full : Writer → Wrote
  refused : Wrote

-- a buffer of another length, 15 entries in it, or a number of more than 48 bits
abbrev pub unfit : Writer → (len : ℕ) → Bool
unfit w len = not (eqb len 512) || leb 15 w.count || leb (2 ^ 48) w.number

-- an entry behind the first n
abbrev pub with_entry : (buffer : List ℕ) (n : ℕ) → Traced → List ℕ
with_entry buffer n e =
    if leb (8 + 32 * n + 32) (length buffer) then take (8 + 32 * n) buffer ++ entry_bytes e ++ drop (8 + 32 * n + 32) buffer else buffer

-- the writer of the next block
abbrev pub next_block : Writer → Writer
next_block w = record { count = 0; number = w.number + 1 }

-- the 15th entry fills the block
unfoldable pub appending : Writer → (buffer : List ℕ) → Traced → Wrote × List ℕ
appending w buffer e =
    if unfit w (length buffer) || not (well_traced e) then (refused, buffer)
    else if ltb w.count 14 then (kept (record { count = w.count + 1; number = w.number }), with_entry buffer w.count e)
    else (full (next_block w), finished (with_entry buffer w.count e) w.number 15)

-- a block of no entries is never handed out
unfoldable pub closing : Writer → (buffer : List ℕ) → Wrote × List ℕ
closing w buffer =
    if unfit w (length buffer) then (refused, buffer)
    else if eqb w.count 0 then (kept w, buffer)
    else (full (next_block w), finished buffer w.number w.count)

-- what is handed out by a call, and by those after it
abbrev pub on_wrote : (old : Writer) → Wrote × List ℕ → (Writer → List ℕ → List ℕ) → List ℕ
on_wrote old (kept w, buffer) after = after w buffer
on_wrote old (full w, buffer) after = buffer ++ after w buffer
on_wrote old (refused, buffer) after = after old buffer

-- entries appended one by one, each block taken as it is handed out, and closed at the end
unfoldable pub handed_out : Writer → (buffer : List ℕ) → List Traced → List ℕ
handed_out w buffer [] = on_wrote w (closing w buffer) (λ w' buffer'. [])
handed_out w buffer (e ∷ es) = on_wrote w (appending w buffer e) (λ w' buffer'. handed_out w' buffer' es)

-- the blocks handed out are the trace, whatever stood in the buffer
abbrev pub TraceHandedOut : Type 0
TraceHandedOut = (buffer : List ℕ) (es : List Traced) → length buffer ≡ 512 → Entries es → length es ≤ 15 * 2 ^ 48
    → handed_out (record { count = 0; number = 0 }) buffer es ≡ trace_of es
