-- The kinds of entries that requests read, and how many words of 8 bytes each has. A fork of the rules names its entry's kind.
use Rattle.std.specs.Prelude.{ℕ, Bool, true, false}

pub data EntryKind : Type 0 where
  root_entry : EntryKind
  context_entry : EntryKind
  page_entry : EntryKind
  -- of the interrupt table
  remapping_entry : EntryKind
  posted_descriptor : EntryKind
  -- of scalable mode
  scalable_context_entry : EntryKind
  pasid_directory_entry : EntryKind
  pasid_table_entry : EntryKind
  first_level_entry : EntryKind

abbrev pub words_of : EntryKind → ℕ
words_of root_entry = 2
words_of context_entry = 2
words_of page_entry = 1
words_of remapping_entry = 2
words_of posted_descriptor = 8
words_of scalable_context_entry = 4
words_of pasid_directory_entry = 1
words_of pasid_table_entry = 8
words_of first_level_entry = 1

abbrev pub is_page : EntryKind → Bool
is_page page_entry = true
is_page root_entry = false
is_page context_entry = false
is_page remapping_entry = false
is_page posted_descriptor = false
is_page scalable_context_entry = false
is_page pasid_directory_entry = false
is_page pasid_table_entry = false
is_page first_level_entry = false

abbrev pub is_root_or_context : EntryKind → Bool
is_root_or_context root_entry = true
is_root_or_context context_entry = true
is_root_or_context page_entry = false
is_root_or_context remapping_entry = false
is_root_or_context posted_descriptor = false
is_root_or_context scalable_context_entry = false
is_root_or_context pasid_directory_entry = false
is_root_or_context pasid_table_entry = false
is_root_or_context first_level_entry = false
