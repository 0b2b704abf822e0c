-- What is traced of an answer's 32 bytes is the entry of the answer.
use Prim.Native.Nat.{ℕ, ◌+◌, ◌*◌, ◌%◌, ◌^◌, ◌<◌, ◌≤◌, min}
use mathlib.Core.Bool.{Bool, true, false, ◌&&◌}
use mathlib.Core.List.{List, [], ◌∷◌, ◌++◌}
use mathlib.Core.Path.{◌≡◌, refl, ap, sym, ◌∙◌}
use native.Mathlib.Nat.{mod-eq_of_lt, mul-zero, add-zero, add-mul-mod_self_left}
use native.Mathlib.Omega.{arith}
use borrow.Author.Tests.{eqb-true}
use lib.Dec.{eqb, leb}
use lib.ListN.{length, length-append}
use Rattle.image.specs.Bits.{bits}
use Rattle.image.specs.Bytes.{bytes_of, spell}
use Rattle.std.specs.Prelude.{if◌then◌else◌}
use Rattle.image.specs.Choice.{one-if}
use Rattle.image.specs.Memory.{word_at}
use Rattle.image.specs.Place.{Place, no_entry, entry_at}
use Rattle.image.proofs.Bytes.{number-back, length-bytes_of, bytes-beside}
use Rattle.image.proofs.Choices.{either}
use Rattle.image.proofs.Fields.{fits}
use Rattle.image.proofs.Words.{word-inside}
use Rattle.faults.specs.Record.{FaultAnswer}
use Rattle.irte.specs.Irte.{Remapped}
use Rattle.dma.specs.Requests as dma
use Rattle.dma.specs.Requests.{memory_answer, memory_answer_place}
use Rattle.dma.specs.declared.MemoryRequest.{MemoryRequest}
use Rattle.translation.specs.Requests as translation
use Rattle.translation.specs.Requests.{translation_answer, translation_answer_place}
use Rattle.translation.specs.declared.Rights.{Rights}
use Rattle.translation.specs.declared.TranslationRequest.{TranslationRequest}
use Rattle.interrupts.specs.Descriptor.{silent, notification}
use Rattle.interrupts.specs.Interrupts as interrupts
use Rattle.interrupts.specs.Interrupts.{interrupt_answer, interrupt_answer_place}
use Rattle.interrupts.specs.declared.InterruptRequest.{InterruptRequest}
use Rattle.blocks.proofs.Frames.{and_left, and_right}
use Rattle.traced.specs.Entry.{Fits}
use Rattle.traced.specs.Well.{well_traced}
use Rattle.traced.specs.declared.Traced.{Traced}
use Rattle.answered.specs.Answered.{kind_of, width_of, fault_traced, plain, modes_of, memory_traced, translation_traced, interrupt_traced}
use Rattle.answered.specs.Claims.{memory_entry, translation_entry, interrupt_entry}
use Rattle.answered.specs.Told.{translation_outcome_in, interrupt_outcome_in, size_in}
use Rattle.answered.proofs.Entries.{entries-well, entries-tell}
use Rattle.trace_calls.specs.Calls.{unanswered}
use Rattle.answered.specs.Packed.{with, word_in, entry_packed, packed_in}
use Rattle.packing.specs.Answer.{laid, blocked_bytes, memory_bytes, modes, interrupt_bytes}
use Rattle.trace_calls.specs.Traces.{AnswersTraced}
use Rattle.packing.specs.Translations.{translation_bytes}
use Rattle.packing.proofs.FourWords.{head_bytes_lem}

-- an entry from an answer's parts
abbrev by_parts : Traced → (kind one two three four low middle last : ℕ) → Traced
by_parts e kind one two three four low middle last =
    if eqb kind 1 then with e 2 one (min 255 (two + 2 * three)) 0 0 0 last
    else if eqb kind 2 then with e 1 one 0 0 0 0 0
    else if eqb kind 3 then (if eqb e.kind 3 then with e 4 0 0 0 0 0 0 else with e 3 0 0 0 0 0 low)
    else if eqb kind 4 then with e 5 0 (min 255 (three + 8 * two)) one 0 four 0
    else if eqb kind 5 then (if eqb one 0 then with e 6 0 0 0 three 0 low else with e 7 0 0 two three four low)
    else if eqb kind 6 then with e 3 0 0 0 0 0 low
    else if eqb kind 7 then with e 8 (width_of middle) (min 255 (one + 2 * two)) 0 0 0 low
    else if eqb kind 8 then with e 8 0 0 0 0 0 0
    else with e 0 0 0 0 0 0 0

module _ (head eight last : ℕ) where
  abbrev words : List ℕ
  words = bytes_of 8 head ++ bytes_of 16 eight ++ bytes_of 8 last

  words-length : length words ≡ 32
  words-length = simp (length-append, length-bytes_of)

  word_of : (at : ℕ) → at + 8 ≤ 32 → word_in words at ≡ word_at words at
  word_of at h =
      let sized = words-length in
      rw (word-inside words at (omega arith))

  head-word : head < 2 ^ 64 → word_at words 0 ≡ head
  unfolding word_at bytes_of
  head-word h = number-back 8 head ∙ mod-eq_of_lt h

  low_word : word_at words 8 ≡ eight % 2 ^ 64
  unfolding word_at bytes_of
  low_word = number-back 8 eight

  last_word : last < 2 ^ 64 → word_at words 24 ≡ last
  unfolding word_at bytes_of
  last_word h = number-back 8 last ∙ mod-eq_of_lt h

module _ (kind one two three four : ℕ) (k : kind < 256) (a : one < 256) (b : two < 256) (c : three < 256) (d : four < 2 ^ 32) where
  abbrev head : ℕ
  head = kind + one * 256 + two * 65536 + three * 16777216 + four * 4294967296

  zero_of : bits head 7 0 ≡ kind
  unfolding bits
  zero_of = omega arith

  one_of : bits head 15 8 ≡ one
  unfolding bits
  one_of = omega arith

  two-of : bits head 23 16 ≡ two
  unfolding bits
  two-of = omega arith

  three-of : bits head 31 24 ≡ three
  unfolding bits
  three-of = omega arith

  four-of : bits head 63 32 ≡ four
  unfolding bits
  four-of = omega arith

  parts : (e : Traced) (low middle last : ℕ) → entry_packed e head low middle last ≡ by_parts e kind one two three four low middle last
  unfolding entry_packed
  parts e low middle last = rw (zero_of, one_of, two-of, three-of, four-of)

  packed : (e : Traced) (eight last : ℕ) → last < 2 ^ 64
      → packed_in e (laid kind one two three four eight last)
      ≡ by_parts e kind one two three four (eight % 2 ^ 64) (word_at (words head eight last) 16) last
  packed e eight last small =
      let bytes : laid kind one two three four eight last ≡ words head eight last = rw (head_bytes_lem kind one two three four k a b c) in
      let h : head < 2 ^ 64 = omega arith in
      ap (packed_in e) bytes
      ∙ rw (
        word_of head eight last 0 (omega arith),
        word_of head eight last 8 (omega arith),
        word_of head eight last 16 (omega arith),
        word_of head eight last 24 (omega arith),
        head-word head eight last h,
        low_word head eight last,
        last_word head eight last small,
      )
      (parts e (eight % 2 ^ 64) (word_at (words head eight last) 16) last)

one-small : (t : Bool) → one-if t < 256
one-small true = omega arith
one-small false = omega arith

-- faults, of any kind of request
fault-packed : (kind source address message : ℕ) (f : FaultAnswer) (p : Place) → Fits (fault_traced kind source address message f p)
    → packed_in (unanswered kind source address message) (blocked_bytes f p) ≡ fault_traced kind source address message f p
fault-packed kind source address message f no_entry h =
    packed 1 f.reason (one-if f.recordable) 0 0 (omega arith) h.number_fits (one-small f.recordable) (omega arith) (omega arith)
    (unanswered kind source address message) f.contents 0 (omega arith)
    ∙ by f.recordable
  where
    by : (t : Bool)
        → with (unanswered kind source address message) 2 f.reason (min 255 (one-if t + 2 * 0)) 0 0 0 0
        ≡ plain kind source address message 2 f.reason (one-if t) 0
    by true = refl
    by false = refl
fault-packed kind source address message f (entry_at at) h =
    packed 1 f.reason (one-if f.recordable) 1 0 (omega arith) h.number_fits (one-small f.recordable) (omega arith) (omega arith)
    (unanswered kind source address message) f.contents at h.value-fits
    ∙ by f.recordable
  where
    by : (t : Bool)
        → with (unanswered kind source address message) 2 f.reason (min 255 (one-if t + 2 * 1)) 0 0 0 at
        ≡ plain kind source address message 2 f.reason (one-if t + 2) at
    by true = refl
    by false = refl

refused-packed : (e : Traced) (n : ℕ) → n < 256 → packed_in e (laid 2 n 0 0 0 0 0) ≡ with e 1 n 0 0 0 0 0
refused-packed e n h = packed 2 n 0 0 0 (omega arith) h (omega arith) (omega arith) (omega arith) e 0 0 (omega arith)

memory-packed : (q : MemoryRequest) (o : dma.MemoryOutcome) (p : Place) → Fits (memory_traced q o p)
    → packed_in (unanswered (kind_of q.write) q.source.id q.address 0) (memory_bytes o p) ≡ memory_traced q o p
unfolding memory_traced
memory-packed q (dma.granted host) p h =
    packed 6 0 0 0 0 (omega arith) (omega arith) (omega arith) (omega arith) (omega arith)
    (unanswered (kind_of q.write) q.source.id q.address 0) host 0 (omega arith)
    ∙ rw (mod-eq_of_lt h.value-fits)
memory-packed q (dma.blocked f) p h = fault-packed (kind_of q.write) q.source.id q.address 0 f p h
memory-packed q (dma.refused n) p h = refused-packed (unanswered (kind_of q.write) q.source.id q.address 0) n h.number_fits

modes-small : (r : Remapped) → modes r < 8
modes-small r = by r.destination_mode r.redirection_hint r.trigger
  where
    bit : (t : Bool) → one-if t < 2
    bit true = omega arith
    bit false = omega arith

    by : (a b c : Bool) → one-if a + 2 * one-if b + 4 * one-if c < 8
    by a b c = omega (arith, bit a, bit b, bit c)

-- a remapped answer's delivery mode has three bits, as its entry tells
Small : interrupts.InterruptOutcome → Type 0
Small (interrupts.remapped r) = r.delivery < 8
Small interrupts.passed = Unit {0}
Small (interrupts.posted descriptor vector n) = Unit {0}
Small (interrupts.blocked f) = Unit {0}
Small (interrupts.refused n) = Unit {0}

interrupt-packed : (q : InterruptRequest) (o : interrupts.InterruptOutcome) (p : Place) → Small o → Fits (interrupt_traced q o p)
    → packed_in (unanswered 3 q.source.id q.address q.«data») (interrupt_bytes o p) ≡ interrupt_traced q o p
unfolding interrupt_traced Small
interrupt-packed q interrupts.passed p s h =
    packed 3 0 0 0 0 (omega arith) (omega arith) (omega arith) (omega arith) (omega arith)
    (unanswered 3 q.source.id q.address q.«data») 0 0 (omega arith)
interrupt-packed q (interrupts.remapped r) p s h =
    let few = modes-small r in
    let flags : min 255 (modes r + 8 * r.delivery) ≡ modes r + 8 * (r.delivery % 8) = omega arith in
    packed 4 r.vector r.delivery (modes r) r.destination (omega arith) h.vector-fits (omega arith) (omega arith) h.destination-fits
    (unanswered 3 q.source.id q.address q.«data») 0 0 (omega arith)
    ∙ rw flags
interrupt-packed q (interrupts.posted descriptor vector silent) p s h =
    packed 5 0 0 vector 0 (omega arith) (omega arith) (omega arith) h.posted-fits (omega arith)
    (unanswered 3 q.source.id q.address q.«data») descriptor 0 (omega arith)
    ∙ rw (mod-eq_of_lt h.value-fits)
interrupt-packed q (interrupts.posted descriptor vector (notification v d)) p s h =
    packed 5 1 v vector d (omega arith) (omega arith) h.vector-fits h.posted-fits h.destination-fits
    (unanswered 3 q.source.id q.address q.«data») descriptor 0 (omega arith)
    ∙ rw (mod-eq_of_lt h.value-fits)
interrupt-packed q (interrupts.blocked f) p s h = fault-packed 3 q.source.id q.address q.«data» f p h
interrupt-packed q (interrupts.refused n) p s h = refused-packed (unanswered 3 q.source.id q.address q.«data») n h.number_fits

told-small : (q : InterruptRequest) (o : interrupts.InterruptOutcome) (p : Place) → interrupt_outcome_in (interrupt_traced q o p) ≡ o → Small o
unfolding interrupt_traced Small
told-small q (interrupts.remapped r) p h =
    let same : bits (modes_of r) 5 3 ≡ r.delivery = cc in
    rw (← same) (fits (modes_of r) 5 3)
told-small q interrupts.passed p h = tt
told-small q (interrupts.posted descriptor vector n) p h = tt
told-small q (interrupts.blocked f) p h = tt
told-small q (interrupts.refused n) p h = tt

-- a page's frame and size are two words
module _ (head frame size : ℕ) (f : frame < 2 ^ 64) (z : size < 2 ^ 64) where
  beside : spell (frame ∷ size ∷ []) ≡ frame + 256 ^ 8 * size
  unfolding spell
  beside = simp (mul-zero, add-zero)

  frame-word : spell (frame ∷ size ∷ []) % 2 ^ 64 ≡ frame
  frame-word = ap (λ (n : ℕ). n % 2 ^ 64) beside ∙ add-mul-mod_self_left frame (2 ^ 64) size ∙ mod-eq_of_lt f

  size_word : word_at (words head (spell (frame ∷ size ∷ [])) 0) 16 ≡ size
  unfolding word_at bytes_of
  size_word =
      ap (λ (l : List ℕ). word_at (bytes_of 8 head ++ l ++ bytes_of 8 0) 16) (ap (bytes_of 16) beside ∙ sym (bytes-beside 8 8 frame size f))
      ∙ number-back 8 size
      ∙ mod-eq_of_lt z

page-flags : (r w : Bool) → min 255 (one-if r + 2 * one-if w) ≡ one-if r + 2 * one-if w
page-flags true true = refl
page-flags true false = refl
page-flags false true = refl
page-flags false false = refl

-- a page's size is one of three, or 0 in the empty answer, whose frame and rights are 0 too
pub record Paged (q : TranslationRequest) (frame size : ℕ) (rights : Rights) : Type 0 where
  pub sized : size < 2 ^ 64
  pub empty : size ≡ 0 → (one-if rights.read + 2 * one-if rights.write ≡ 0) × (frame ≡ 0)

abbrev Pages : TranslationRequest → translation.TranslationOutcome → Type 0
Pages q (translation.translated frame size rights) = Paged q frame size rights
Pages q (translation.passed address) = Unit {0}
Pages q (translation.blocked f) = Unit {0}
Pages q (translation.refused n) = Unit {0}

translation-packed : (q : TranslationRequest) (o : translation.TranslationOutcome) (p : Place) → Pages q o → Fits (translation_traced q o p)
    → packed_in (unanswered 4 q.source.id q.address 0) (translation_bytes o p) ≡ translation_traced q o p
unfolding translation_traced
translation-packed q (translation.passed address) p s h =
    packed 3 0 0 0 0 (omega arith) (omega arith) (omega arith) (omega arith) (omega arith)
    (unanswered 4 q.source.id q.address 0) address 0 (omega arith)
    ∙ rw (mod-eq_of_lt h.value-fits)
translation-packed q (translation.translated frame size rights) p s h = by (eqb size 0) refl
  where
    e : Traced
    e = unanswered 4 q.source.id q.address 0

    r : Bool
    r = rights.read

    w : Bool
    w = rights.write

    by : (t : Bool) → eqb size 0 ≡ t
        → packed_in e (if t then laid 8 0 0 0 0 0 0 else laid 7 (one-if r) (one-if w) 0 0 (spell (frame ∷ size ∷ [])) 0)
        ≡ plain 4 q.source.id q.address 0 8 (width_of size) (one-if r + 2 * one-if w) frame
    by true none =
        let is = eqb-true size 0 none in
        let bare = s.empty is in
        packed 8 0 0 0 0 (omega arith) (omega arith) (omega arith) (omega arith) (omega arith) e 0 0 (omega arith)
        ∙ rw (is, bare.0, bare.1)
    by false some =
        packed 7 (one-if r) (one-if w) 0 0 (omega arith) (one-small r) (one-small w) (omega arith) (omega arith) e (spell (frame ∷ size ∷ [])) 0 (omega arith)
        ∙ rw (
          frame-word (head 7 (one-if r) (one-if w) 0 0 (omega arith) (one-small r) (one-small w) (omega arith) (omega arith)) frame size h.value-fits s.sized,
          size_word (head 7 (one-if r) (one-if w) 0 0 (omega arith) (one-small r) (one-small w) (omega arith) (omega arith)) frame size h.value-fits s.sized,
          page-flags r w,
        )
translation-packed q (translation.blocked f) p s h = fault-packed 4 q.source.id q.address 0 f p h
translation-packed q (translation.refused n) p s h = refused-packed (unanswered 4 q.source.id q.address 0) n h.number_fits

size-bound : (e : Traced) → size_in e < 2 ^ 64
size-bound e =
    either (λ n. n < 2 ^ 64) (eqb e.number 12) (omega arith)
    (either (λ n. n < 2 ^ 64) (eqb e.number 21) (omega arith) (either (λ n. n < 2 ^ 64) (eqb e.number 30) (omega arith) (omega arith)))

told-paged : (q : TranslationRequest) (o : translation.TranslationOutcome) (p : Place)
    → translation_outcome_in (translation_traced q o p) ≡ o → well_traced (translation_traced q o p) ≡ true → Pages q o
unfolding translation_traced well_traced
told-paged q (translation.passed address) p told well = tt
told-paged q (translation.blocked f) p told well = tt
told-paged q (translation.refused n) p told well = tt
told-paged q (translation.translated frame size rights) p told well =
    record {
      sized =
          let same : size_in (plain 4 q.source.id q.address 0 8 (width_of size) flags frame) ≡ size = cc in
          rw (← same) (size-bound (plain 4 q.source.id q.address 0 8 (width_of size) flags frame));
      empty = λ none.
          let laid-well : well_traced (plain 4 q.source.id q.address 0 8 (width_of 0) flags frame) ≡ true =
          ap (λ (n : ℕ). well_traced (plain 4 q.source.id q.address 0 8 (width_of n) flags frame)) (sym none) ∙ well in
          let both = and_left (eqb flags 0 && eqb frame 0) (leb flags 3) (and_left ((eqb flags 0 && eqb frame 0) && leb flags 3) true laid-well) in
          (eqb-true flags 0 (and_left (eqb flags 0) (eqb frame 0) both), eqb-true frame 0 (and_right (eqb flags 0) (eqb frame 0) both));
    }
  where
    flags : ℕ
    flags = one-if rights.read + 2 * one-if rights.write

pub answers-traced : AnswersTraced
unfolding memory_entry translation_entry interrupt_entry
answers-traced =
    record {
      memory = λ registers windows bytes q h. memory-packed q (memory_answer registers q windows bytes) (memory_answer_place registers q windows bytes) h;
      translations = λ registers windows bytes q h.
          let o = translation_answer registers q windows bytes in
          let p = translation_answer_place registers q windows bytes in
          translation-packed q o p
          (told-paged q o p (entries-tell.translations registers windows bytes q).1 (entries-well.translations registers windows bytes q)) h;
      interrupts = λ registers windows bytes q h.
          let o = interrupt_answer registers q windows bytes in
          let p = interrupt_answer_place registers q windows bytes in
          interrupt-packed q o p (told-small q o p (entries-tell.interrupts registers windows bytes q).1) h;
    }
