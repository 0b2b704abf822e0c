-- An entry's 32 bytes in a buffer.
use Prim.Native.Nat.{ℕ, ◌+◌}
use mathlib.Core.List.{List, [], ◌++◌, append-nil}
use mathlib.Core.Path.{◌≡◌, ap, sym, ◌∙◌}
use lib.Dec.{leb}
use lib.ListN.{length, take, drop}
use lib.Seq.{drop-length}
use Rattle.std.specs.Prelude.{if◌then◌else◌}

pub whole : (buffer bytes : List ℕ) → length buffer ≡ 32
    → (if leb (0 + 32) (length buffer) then take 0 buffer ++ bytes ++ drop (0 + 32) buffer else buffer) ≡ bytes
whole buffer bytes h =
    let none : drop 32 buffer ≡ [] = ap (λ (n : ℕ). drop n buffer) (sym h) ∙ drop-length buffer in
    rw (h, none) (append-nil bytes)
