-- Tables below which nothing is listed, as the code remembers them: for its contracts.
use Rattle.std.specs.Prelude.{ℕ, ◌+◌, ◌*◌, ◌/◌, ◌%◌, ◌^◌, ◌≤◌, ◌<◌, Bool, false, List, ◌≡◌, ◌⊎◌, get_or, set}
use Rattle.std.specs.Prelude.{if◌then◌else◌}
use Rattle.image.specs.Memory.{Memory}
use Rattle.registers.specs.declared.Registers.{Registers}
use Rattle.translation.specs.Rights.{both}
use Rattle.translation.specs.declared.Rights.{Rights}
use Rattle.regions.specs.Region.{is_listed, region_in}

-- bit 0 read, bit 1 write
abbrev pub rights_number : Rights → ℕ
rights_number rights = (if rights.read then 1 else 0) + (if rights.write then 2 else 0)

-- a table, its level and the rights joined above it as one number: a table begins a page, so they fit below its address
abbrev pub key_of : (table level : ℕ) → Rights → ℕ
key_of table level rights = table + (4 * level + rights_number rights)

-- a key stands somewhere
pub record StandsIn (known : List ℕ) (key : ℕ) : Type 0 where
  pub at : ℕ
  pub there : get_or known at 0 ≡ key

pub record PutIn (before after : List ℕ) (key : ℕ) : Type 0 where
  pub at : ℕ
  pub put : after ≡ set before at key

-- a key was put somewhere, and then the span of a table of the level ends with an address and begins no earlier than from; or nothing changed
abbrev pub Remembers : (before after : List ℕ) (key from last level : ℕ) → Type 0
Remembers before after key from last level =
    (after ≡ before)
    ⊎ (((last + 1) % 2 ^ (12 + 9 * level) ≡ 0) × (from + 2 ^ (12 + 9 * level) ≤ last + 1) × PutIn before after key)

module _ (registers : Registers) (m : Memory) (outside : (table : ℕ) → Bool) where
  -- nothing is listed for an address that the walk takes on from a table
  abbrev pub Quiet : (level table : ℕ) → Rights → (address : ℕ) → Type 0
  Quiet level table rights address = is_listed (region_in registers m outside address level table rights).what ≡ false

  -- all that is remembered is such a table
  abbrev pub Sound : List ℕ → Type 0
  Sound known =
      (i table level : ℕ) (rights : Rights) → table % 4096 ≡ 0 → 0 < level → level ≤ 5 → get_or known i 0 ≡ key_of table level rights
      → (address : ℕ) → Quiet level table rights address

  -- nothing is listed for the addresses that share a table of a level with this one; none of level 0
  abbrev pub QuietAround : (levels top level address : ℕ) → Type 0
  QuietAround levels top level address =
      0 < level → (x : ℕ) → address / 2 ^ (12 + 9 * level) ≡ x / 2 ^ (12 + 9 * level) → Quiet levels top both x

  -- nor from an address up to another one
  abbrev pub QuietTo : (levels top from to : ℕ) → Type 0
  QuietTo levels top from to = (x : ℕ) → from ≤ x → x < to → Quiet levels top both x
