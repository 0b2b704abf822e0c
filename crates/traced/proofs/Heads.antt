-- An entry's four words: the first and the third hold fields, side by side.
use Prim.Native.Nat.{ℕ, suc, ◌+◌, ◌*◌, ◌-◌, ◌/◌, ◌^◌, ◌<◌}
use mathlib.Core.Path.{◌≡◌, ap, sym, ◌∙◌}
use mathlib.Core.List.{◌++◌}
use native.Mathlib.Nat.{mul_comm, mod-add-div, div-div-eq-div-mul}
use native.Mathlib.Omega.{arith}
use lib.Dec.{lit<}
use lib.Pow.{pow-add}
use Rattle.image.specs.Bits.{bits}
use Rattle.image.specs.Bytes.{bytes_of}
use Rattle.image.proofs.Bytes.{byte-before, one_byte, bytes-beside}
use Rattle.image.proofs.Fields.{whole, in-digit, above-digit}
use Rattle.traced.specs.Entry.{head_bytes, Fits}
use Rattle.traced.specs.declared.Traced.{Traced}

-- from a field up
abbrev from_vector : Traced → ℕ
from_vector e = e.vector + 256 * e.posted

abbrev from_source : Traced → ℕ
from_source e = e.source + 65536 * from_vector e

abbrev from_flags : Traced → ℕ
from_flags e = e.flags + 256 * from_source e

abbrev from_number : Traced → ℕ
from_number e = e.number + 256 * from_flags e

abbrev from_answer : Traced → ℕ
from_answer e = e.answer + 256 * from_number e

abbrev pub head_of : Traced → ℕ
head_of e = e.kind + 256 * from_answer e

abbrev pub message_of : Traced → ℕ
message_of e = e.«data» + 4294967296 * e.destination

module _ (e : Traced) (f : Fits e) where
  pub head_bytes_lem : bytes_of 8 (head_of e) ≡ head_bytes e
  unfolding head_bytes
  head_bytes_lem =
      rw (
        byte-before 7 e.kind (from_answer e) f.kind_fits,
        byte-before 6 e.answer (from_number e) f.answer-fits,
        byte-before 5 e.number (from_flags e) f.number_fits,
        byte-before 4 e.flags (from_source e) f.flags-fits,
        ← bytes-beside 2 2 e.source (from_vector e) f.source_fits,
        byte-before 1 e.vector e.posted f.vector-fits,
        one_byte e.posted f.posted-fits,
      )

  pub head-below : head_of e < 2 ^ 64
  head-below =
      let k = f.kind_fits in
      let a = f.answer-fits in
      let n = f.number_fits in
      let g = f.flags-fits in
      let s = f.source_fits in
      let v = f.vector-fits in
      let p = f.posted-fits in
      omega arith

  pub message-bytes : bytes_of 8 (message_of e) ≡ bytes_of 4 e.«data» ++ bytes_of 4 e.destination
  message-bytes = sym (bytes-beside 4 4 e.«data» e.destination f.data-fits)

  pub message-below : message_of e < 2 ^ 64
  message-below =
      let d = f.data-fits in
      let t = f.destination-fits in
      omega arith

  -- the fields of the first word
  pub kind-of : bits (head_of e) 7 0 ≡ e.kind
  kind-of = in-digit 8 (from_answer e) f.kind_fits 7 0 (lit< tt) ∙ whole e.kind 7 f.kind_fits

  above-kind : (high low : ℕ) → bits (head_of e) (8 + high) (8 + low) ≡ bits (from_answer e) high low
  above-kind = above-digit 8 (from_answer e) f.kind_fits

  pub answer-of : bits (head_of e) 15 8 ≡ e.answer
  answer-of = above-kind 7 0 ∙ in-digit 8 (from_number e) f.answer-fits 7 0 (lit< tt) ∙ whole e.answer 7 f.answer-fits

  above-answer : (high low : ℕ) → bits (head_of e) (8 + (8 + high)) (8 + (8 + low)) ≡ bits (from_number e) high low
  above-answer high low = above-kind (8 + high) (8 + low) ∙ above-digit 8 (from_number e) f.answer-fits high low

  pub number_of : bits (head_of e) 23 16 ≡ e.number
  number_of = above-answer 7 0 ∙ in-digit 8 (from_flags e) f.number_fits 7 0 (lit< tt) ∙ whole e.number 7 f.number_fits

  above-number : (high low : ℕ) → bits (head_of e) (8 + (8 + (8 + high))) (8 + (8 + (8 + low))) ≡ bits (from_flags e) high low
  above-number high low = above-answer (8 + high) (8 + low) ∙ above-digit 8 (from_flags e) f.number_fits high low

  pub flags_of : bits (head_of e) 31 24 ≡ e.flags
  flags_of = above-number 7 0 ∙ in-digit 8 (from_source e) f.flags-fits 7 0 (lit< tt) ∙ whole e.flags 7 f.flags-fits

  above-flags : (high low : ℕ) → bits (head_of e) (8 + (8 + (8 + (8 + high)))) (8 + (8 + (8 + (8 + low)))) ≡ bits (from_source e) high low
  above-flags high low = above-number (8 + high) (8 + low) ∙ above-digit 8 (from_source e) f.flags-fits high low

  pub source_of : bits (head_of e) 47 32 ≡ e.source
  source_of = above-flags 15 0 ∙ in-digit 16 (from_vector e) f.source_fits 15 0 (lit< tt) ∙ whole e.source 15 f.source_fits

  above-source : (high low : ℕ)
      → bits (head_of e) (8 + (8 + (8 + (8 + (16 + high))))) (8 + (8 + (8 + (8 + (16 + low))))) ≡ bits (from_vector e) high low
  above-source high low = above-flags (16 + high) (16 + low) ∙ above-digit 16 (from_vector e) f.source_fits high low

  pub vector-of : bits (head_of e) 55 48 ≡ e.vector
  vector-of = above-source 7 0 ∙ in-digit 8 e.posted f.vector-fits 7 0 (lit< tt) ∙ whole e.vector 7 f.vector-fits

  pub posted-of : bits (head_of e) 63 56 ≡ e.posted
  posted-of = above-source 15 8 ∙ above-digit 8 e.posted f.vector-fits 7 0 ∙ whole e.posted 7 f.posted-fits

  -- and of the third
  pub data_of : bits (message_of e) 31 0 ≡ e.«data»
  data_of = in-digit 32 e.destination f.data-fits 31 0 (lit< tt) ∙ whole e.«data» 31 f.data-fits

  pub destination-of : bits (message_of e) 63 32 ≡ e.destination
  destination-of = above-digit 32 e.destination f.data-fits 31 0 ∙ whole e.destination 31 f.destination-fits

-- a field with what stands above it, next being the bit above the field
pub digit : (w high low k next : ℕ) → suc high - low ≡ k → low + k ≡ next → {rest : ℕ} → rest ≡ w / 2 ^ next
    → bits w high low + 2 ^ k * rest ≡ w / 2 ^ low
unfolding bits
digit w high low k next width above is =
    let up : w / 2 ^ next ≡ w / 2 ^ low / 2 ^ k = ap (λ (n : ℕ). w / 2 ^ n) (sym above) ∙ rw (pow-add 2 low k, div-div-eq-div-mul) in
    rw (width, is, up) (mod-add-div (w / 2 ^ low) (2 ^ k))

-- as the code adds them up
pub added-head : (e : Traced) → Fits e
    → bytes_of 8 (e.kind + e.answer * 256 + e.number * 65536 + e.flags * 16777216 + e.source * 4294967296 + e.vector * 281474976710656 + e.posted * 72057594037927936)
    ≡ head_bytes e
added-head e f =
    let nested : e.kind + e.answer * 256 + e.number * 65536 + e.flags * 16777216 + e.source * 4294967296 + e.vector * 281474976710656 + e.posted * 72057594037927936
    ≡ head_of e = omega arith in
    rw nested (head_bytes_lem e f)

pub added-message : (low high : ℕ) → low < 2 ^ 32 → bytes_of 8 (low + high * 4294967296) ≡ bytes_of 4 low ++ bytes_of 4 high
added-message low high h = rw (mul_comm high 4294967296) (sym (bytes-beside 4 4 low high h))
