-- Document 02, Ask 1: the read and write rights joined over all levels.
use Rattle.std.specs.Prelude.{ℕ, Bool, true, false, ◌&&◌, ◌||◌}
use Rattle.image.specs.Bits.{bit}
use Rattle.std.specs.Prelude.{if◌then◌else◌}
use Rattle.translation.specs.declared.Rights.{Rights}

-- what a walk begins with
abbrev pub both : Rights
both = record { read = true; write = true }

abbrev pub neither : Rights
neither = record { read = false; write = false }

-- the rights of the entries above, joined with an entry's own: bit 0 read, bit 1 write
abbrev pub joined : Rights → (e : ℕ) → Rights
joined above e = record { read = above.read && bit e 0; write = above.write && bit e 1 }

-- a right is left
abbrev pub some_left : Rights → Bool
some_left rights = rights.read || rights.write

-- the right that an untranslated request of this kind needs
abbrev pub right_of : (write : Bool) → Rights → Bool
right_of write rights = if write then rights.write else rights.read
