-- Which entries the claims on rights speak of, over any rules tree.
use Rattle.std.specs.Prelude.{ℕ, ◌+◌, ◌≤◌, ◌<◌, Bool, true, false, List, [], ◌++◌}
use Rattle.std.specs.Prelude.{if◌then◌else◌}
use Rattle.image.specs.EntryKind.{EntryKind, root_entry, context_entry, page_entry, remapping_entry, posted_descriptor, scalable_context_entry, pasid_directory_entry, pasid_table_entry, first_level_entry, words_of}
use Rattle.image.specs.Memory.{Memory, entry, on_fetch}
use Rattle.image.specs.Rules.{Rules, answer, fetch, words_from}

-- the entries that a walk reads: of the first and of the second level
abbrev pub is_walked : EntryKind → Bool
is_walked page_entry = true
is_walked first_level_entry = true
is_walked root_entry = false
is_walked context_entry = false
is_walked remapping_entry = false
is_walked posted_descriptor = false
is_walked scalable_context_entry = false
is_walked pasid_directory_entry = false
is_walked pasid_table_entry = false

-- the words of all other entries that rules read over a memory: root, context, PASID directory and PASID table entry
unfoldable pub table_words : {A : Type 0} → Rules A → Memory → List ℕ
table_words (answer a) m = []
table_words (fetch kind at outside next) m =
    on_fetch (entry (words_of kind) m at) []
    (λ e. (if is_walked kind then [] else words_from (words_of kind) at) ++ table_words (next e) m)

-- 8 bytes from each of two addresses have none in common
abbrev pub SharesNoByte : (a b : ℕ) → Type 0
SharesNoByte a b = (n : ℕ) → a ≤ n → n < a + 8 → b ≤ n → n < b + 8 → ⊥
