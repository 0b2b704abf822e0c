-- What is known of memory that was opened.
use Rattle.std.proofs.Common.{◌≡◌, ℕ, false, List, length, Some}
use Rattle.image.specs.Answers.{memory_of, OpenedBy}
use Rattle.image.specs.Windows.{of_windows, bad_windows}
use Rattle.image.specs.declared.memory.Memory.{Memory as MemoryCode}

module _ (m : MemoryCode) {numbers run : List ℕ} (opened : OpenedBy (Some m) numbers run) where
  pub fine : bad_windows numbers (length run) ≡ false
  fine = opened.0

  pub shown : memory_of m ≡ of_windows numbers run
  shown = rw (opened.1, opened.2)
