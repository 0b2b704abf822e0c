-- Document 02, Ask 12: an entry of the trace, a request and its answer in 32 bytes. Numbers are little-endian.
use Rattle.std.specs.Prelude.{ℕ, ◌^◌, ◌<◌, List, [], ◌∷◌, ◌++◌, ◌≡◌, length, get_or}
use Rattle.image.specs.Bits.{bits}
use Rattle.image.specs.Bytes.{bytes_of}
use Rattle.image.specs.Memory.{word_at}
use Rattle.traced.specs.declared.Traced.{Traced}

-- byte 0 the kind, 1 the answer, 2 a number, 3 flags, 5:4 the source, 6 a vector, 7 the posted vector
unfoldable pub head_bytes : Traced → List ℕ
head_bytes e = e.kind ∷ e.answer ∷ e.number ∷ e.flags ∷ (bytes_of 2 e.source ++ (e.vector ∷ e.posted ∷ []))

-- then bytes 15:8 the address, 19:16 the data, 23:20 a destination, 31:24 a value
unfoldable pub entry_bytes : Traced → List ℕ
entry_bytes e = head_bytes e ++ bytes_of 8 e.address ++ (bytes_of 4 e.«data» ++ bytes_of 4 e.destination) ++ bytes_of 8 e.value

-- the fields back, from the four words of an entry: it undoes `entry_bytes`, by the two claims below
unfoldable pub traced_in : List ℕ → Traced
traced_in bytes =
    record {
      kind = bits (word_at bytes 0) 7 0;
      answer = bits (word_at bytes 0) 15 8;
      number = bits (word_at bytes 0) 23 16;
      flags = bits (word_at bytes 0) 31 24;
      source = bits (word_at bytes 0) 47 32;
      vector = bits (word_at bytes 0) 55 48;
      posted = bits (word_at bytes 0) 63 56;
      address = word_at bytes 8;
      «data» = bits (word_at bytes 16) 31 0;
      destination = bits (word_at bytes 16) 63 32;
      value = word_at bytes 24;
    }

-- each field fits its bytes, as it does in the code's types
pub record Fits (e : Traced) : Type 0 where
  pub kind_fits : e.kind < 256
  pub answer-fits : e.answer < 256
  pub number_fits : e.number < 256
  pub flags-fits : e.flags < 256
  pub source_fits : e.source < 2 ^ 16
  pub vector-fits : e.vector < 256
  pub posted-fits : e.posted < 256
  pub address-fits : e.address < 2 ^ 64
  pub data-fits : e.«data» < 2 ^ 32
  pub destination-fits : e.destination < 2 ^ 32
  pub value-fits : e.value < 2 ^ 64

-- the entry comes back from its bytes, and 32 bytes from their entry
abbrev pub EntryBack : Type 0
EntryBack = (e : Traced) → Fits e → traced_in (entry_bytes e) ≡ e

abbrev pub BytesAgain : Type 0
BytesAgain = (bytes : List ℕ) → length bytes ≡ 32 → ((i : ℕ) → get_or bytes i 0 < 256) → entry_bytes (traced_in bytes) ≡ bytes
