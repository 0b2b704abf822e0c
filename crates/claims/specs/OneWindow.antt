-- Document 02, Ask 9: an entry is fetched exactly if it lies whole in a single window. Requests read entries word by word, and a word is
-- fetched where a single window shows all of it. That no window shows one word of an entry and another window the next, also where the two
-- touch, follows: windows begin at multiples of 4096, and no entry leaves the 4096 bytes in which it begins. Proved in proofs/OneWindow.antt.
use Rattle.std.specs.Prelude.{ℕ, suc, ◌+◌, ◌*◌, ◌%◌, ◌≤◌, false, List, ◌≡◌, length}
use Rattle.image.specs.Memory.{entry}
use Rattle.image.specs.Windows.{of_windows, entry_in, bad_windows}

-- an entry of so many words, as the rules read it, is the number in its bytes where a single window holds them all, and else missing
abbrev pub WholeInOneWindow : Type 0
WholeInOneWindow =
    (windows bytes : List ℕ) → bad_windows windows (length bytes) ≡ false
    → (n at : ℕ) → at % 4096 + 8 * suc n ≤ 4096
    → entry (suc n) (of_windows windows bytes) at ≡ entry_in windows bytes (8 * suc n) at
