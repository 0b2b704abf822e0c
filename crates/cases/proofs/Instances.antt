-- Demand 3 at the bench image and at memories with a hole: its premises can be met.
use Prim.Native.Nat.{ℕ, zero, suc, ◌+◌, ◌-◌, ◌^◌, ◌≤◌, ◌<◌}
use mathlib.Core.Bool.{Bool, true, false}
use mathlib.Core.Path.{◌≡◌, refl, ap, sym, ◌∙◌, fun_ext, subst}
use mathlib.Core.List.Memᴰ
use mathlib.Core.List.{List, [], ◌∷◌, Memᴰ}
use mathlib.Core.Logic.{inr, ⊎_elim}
use native.Mathlib.Omega.{arith}
use native.Mathlib.Decide.{dec_le}
use borrow.Author.Tests.{leb-true}
use lib.Dec.{leb, lit≤}
use lib.ListN.{length, get_or, set, take, drop, take-append-drop, length-set, length-take, length-drop, get_or-append}
use lib.Seq.{get_or-set_same, get_or-set_other, take-append-le, drop-append-le}
use Rattle.image.specs.Bits.{bits}
use Rattle.image.specs.Bytes.{little_endian, bytes_of}
use Rattle.std.specs.Prelude.{if◌then◌else◌}
use Rattle.image.specs.Memory.{Fetched, missing, found, word_at, of_image, entry}
use Rattle.image.specs.Rules.{run, map_rules, named, entries_of, words_from}
use Rattle.image.specs.Windows.{Window, windows_of, Spot, nowhere, here, on_spot, spot_in, entry_in, of_windows, bad_with_any, bad_list, bad_windows, flat}
use Rattle.image.proofs.FlatWindow.{flat-is, flat-fine}
use Rattle.image.proofs.GoodWindows.{holding, past-it}
use Rattle.image.proofs.Longer.{SameWord, SameWords, longer}
use Rattle.registers.specs.Admission.{admission}
use Rattle.registers.specs.Registers.{registers_bad}
use Rattle.registers.specs.declared.Registers.{Registers}
use Rattle.faults.specs.Record.{memory_fault}
use Rattle.dma.specs.Context.{context_reserved, context_invalid, context_check}
use Rattle.dma.specs.Isolation.{answer_over, access_fault, walked_by_any, Disjoint, SwitchedEntry, BothFetched}
use Rattle.dma.specs.Lookup.{context_rules, root_rules}
use Rattle.dma.specs.Page.{page_reserved, page_check}
use Rattle.dma.specs.Requests.{granted, memory_rules, memory_answer, table_entries}
use Rattle.dma.specs.Root.{root_reserved, root_check}
use Rattle.dma.specs.Translation.{width_rules}
use Rattle.dma.specs.Walk.{walk_rules}
use Rattle.dma.specs.declared.MemoryRequest.{MemoryRequest}
use Rattle.translation.specs.Claims as translation
use Rattle.translation.specs.Completion.{type_rules}
use Rattle.translation.specs.Requests as translations
use Rattle.translation.specs.declared.TranslationRequest.{TranslationRequest}
use Rattle.interrupts.specs.Claims.{answer_over as interrupt_answer_over, named_words, AccessFault}
use Rattle.interrupts.specs.Descriptor.{notification, descriptor_check}
use Rattle.interrupts.specs.Interrupts.{posted, interrupt_answer, descriptor_rules, index_rules, request_rules, interrupt_rules}
use Rattle.interrupts.specs.Request.{request_check}
use Rattle.interrupts.specs.declared.InterruptRequest.{InterruptRequest}
use Rattle.irte.specs.Irte.{reserved_irte, irte_check}
use Rattle.irte.specs.Source.{source_allowed}
use Rattle.unit.specs.Isolation.{memory_over, translation_over, interrupt_over}
use Rattle.unit.specs.Lent.{Lent, spot_of, SameWordAt, SameWordsAt, SwitchedAt}
use Rattle.unit.proofs.Demand3.{isolation, flat-images}
use Rattle.cases.specs.Bench.{layout, onward, in_words, bench, bench_registers}
use Rattle.cases.specs.Instances.{
  Related,
  FlatRelated,
  MemoryPremises,
  TranslationPremises,
  InterruptPremises,
  OnPremises,
  OffPremises,
  MorePremises,
  reads,
  writes,
  reads_beyond,
  bench_read_only,
  bench_type1,
  translates,
  remapped_request,
  posted_request,
  holed,
  holed_windows,
  cut_bytes,
  cut_windows,
  reordered,
  reordered_windows,
  PremisesMet,
}
use Rattle.cases.specs.PostsThroughWindows as small
use Rattle.cases.specs.Takes.{posts31}
use Rattle.cases.proofs.Cases.{bench-length}

-- These are the premises of `Isolation`: each part of it, given them, says the same answer.
memory-fits : (registers : Registers) (request : MemoryRequest) (l l' : Lent) → MemoryPremises registers request l l'
    → memory_over registers request l' ≡ memory_over registers request l
memory-fits registers request l l' p = (isolation.memory registers request l l' p.no-access-fault p.alike).0

translation-fits : (registers : Registers) (request : TranslationRequest) (l l' : Lent) → TranslationPremises registers request l l'
    → translation_over registers request l' ≡ translation_over registers request l
translation-fits registers request l l' p = (isolation.translations registers request l l' p.no-access-fault p.alike).0

interrupt-fits : (registers : Registers) (request : InterruptRequest) (l l' : Lent) → InterruptPremises registers request l l'
    → interrupt_over registers request l' ≡ interrupt_over registers request l
interrupt-fits registers request l l' p = (isolation.interrupts registers request l l' p.no-access-fault p.alike).0

on_fits : (registers : Registers) (walkers : List MemoryRequest) (request : MemoryRequest) (address : ℕ) (l l' : Lent)
    → OnPremises registers walkers request address l l' → memory_over registers request l' ≡ granted address
on_fits registers walkers request address l l' p =
    isolation.rights-on registers walkers request l l' p.apart p.switched address p.was_granted

off-fits : (registers : Registers) (walkers : List MemoryRequest) (request : MemoryRequest) (address : ℕ) (l l' : Lent)
    → OffPremises registers walkers request l l' → memory_over registers request l' ≡ granted address → ⊥
off-fits registers walkers request address l l' p =
    isolation.rights-off registers walkers request l l' p.apart p.switched p.not-granted address

more-fits : (registers : Registers) (request : MemoryRequest) (address : ℕ) (l l' : Lent)
    → MorePremises registers request address l l' → memory_over registers request l' ≡ granted address
more-fits registers request address l l' p = isolation.more-memory registers request l l' address p.shows p.was_granted

-- Images lent as one window from 0: what is said of the images is said of the lent memories.
abbrev lent : (image : List ℕ) → bad_windows (flat (length image)) (length image) ≡ false → Lent
lent image good = record { windows = flat (length image); bytes = image; good = good }

abbrev all : ℕ → Window
all n = record { start = 0; place = 0; size = n }

spot : (n size at : ℕ) → 0 < size → at + size ≤ n → spot_in (windows_of (flat n)) size at ≡ here at (n - at)
unfolding windows_of flat spot_in
spot zero size at some h = absurd (omega arith)
spot (suc n) size at some h =
    let there : 0 + (at - 0) ≡ at = omega arith in
    let left : 0 + suc n - at ≡ suc n - at = omega arith in
    rw (holding (all (suc n)) size at (omega arith) (omega arith), there, left)

no-spot : (n size at : ℕ) → n < at + size → spot_in (windows_of (flat n)) size at ≡ nowhere
unfolding windows_of flat spot_in
no-spot zero size at h = refl
no-spot (suc n) size at h = rw (past-it (all (suc n)) size at (omega arith))

-- no such window is refused
flat-related : (image image' : List ℕ) (R : Lent → Lent → Type 0) → length image ≤ 2 ^ 64 → length image' ≤ 2 ^ 64
    → ((good : bad_windows (flat (length image)) (length image) ≡ false) (good' : bad_windows (flat (length image')) (length image') ≡ false)
    → R (lent image good) (lent image' good')) → FlatRelated image image' R
flat-related image image' R h h' is =
    let good = flat-fine (length image) h in
    let good' = flat-fine (length image') h' in
    record { good = good; good' = good'; is = is good good' }

module _ (image image' : List ℕ) (good : bad_windows (flat (length image)) (length image) ≡ false)
    (good' : bad_windows (flat (length image')) (length image') ≡ false) where
  same-words : (words : List ℕ) → SameWords image image' words → SameWordsAt (lent image good) (lent image' good') words
  unfolding SameWords SameWordsAt
  same-words [] h = tt
  same-words (at ∷ rest) h = (
    record {
      place = at;
      left = length image - at;
      whole = spot (length image) 8 at (omega arith) h.0.whole;
      place' = at;
      left' = length image' - at;
      whole' = spot (length image') 8 at (omega arith) h.0.whole';
      same = h.0.bytes;
    },
    same-words rest h.1,
  )

abbrev flat-byte : (image : List ℕ) → ℕ → Fetched
flat-byte image at = on_spot (spot_in (windows_of (flat (length image))) 1 at) missing (λ place left. found (get_or image place 0))

byte-in : (image : List ℕ) (at : ℕ) → at < length image → flat-byte image at ≡ found (get_or image at 0)
byte-in image at h = rw (spot (length image) 1 at (omega arith) (omega arith))

byte-out : (image : List ℕ) (at : ℕ) → length image ≤ at → flat-byte image at ≡ missing
byte-out image at h = rw (no-spot (length image) 1 at (omega arith))

-- a byte that isn't the one that is set
byte-kept : (image : List ℕ) (place b at : ℕ) → (at ≡ place → ⊥) → flat-byte (set image place b) at ≡ flat-byte image at
byte-kept image place b at other = by (dec_le (suc at) (length image))
  where
    by : Dec (suc at ≤ length image) → flat-byte (set image place b) at ≡ flat-byte image at
    by (yes h) =
        byte-in (set image place b) at (rw (length-set image place b) (omega arith))
        ∙ ap found (get_or-set_other image place at b 0 other)
        ∙ sym (byte-in image at (omega arith))
    by (no h) = byte-out (set image place b) at (rw (length-set image place b) (omega arith)) ∙ sym (byte-out image at (omega arith))

-- a longer image shows what a shorter one shows
more-shown : (image : List ℕ) (n at b : ℕ) → flat-byte (take n image) at ≡ found b → flat-byte image at ≡ found b
more-shown image n at b h = by (dec_le (suc at) (length (take n image)))
  where
    by : Dec (suc at ≤ length (take n image)) → flat-byte image at ≡ found b
    by (yes inside) =
        let short : length (take n image) ≤ length image = rw (length-take n image) (omega arith) in
        let same : get_or (take n image) at 0 ≡ get_or image at 0 =
        sym (get_or-append (take n image) (drop n image) 0 at (omega arith)) ∙ ap (λ (l : List ℕ). get_or l at 0) (take-append-drop n image) in
        byte-in image at (omega arith) ∙ ap found (sym same) ∙ sym (byte-in (take n image) at (omega arith)) ∙ h
    by (no outside) = let z : ◌≡◌ {A = Fetched} missing (found b) = sym (byte-out (take n image) at (omega arith)) ∙ h in
        let y : ◌≡◌ {A = ℕ} 0 1 = cc in absurd (omega arith)

-- the page entries that two walkers walk, and the root and context entry of a request
abbrev pages : List ℕ
pages = 0x3008 ∷ 0x4008 ∷ 0x5008 ∷ 0x3008 ∷ 0x4018 ∷ []

abbrev tables : List ℕ
tables = 0x1030 ∷ 0x2100 ∷ []

leaf-in : Memᴰ 0x5008 pages
leaf-in = Memᴰ.tail (Memᴰ.tail (Memᴰ.head refl))

beyond-in : Memᴰ 0x4018 pages
beyond-in = Memᴰ.tail (Memᴰ.tail (Memᴰ.tail (Memᴰ.tail (Memᴰ.head refl))))

-- what holds of each of them
each : (P : ℕ → Type 0) → P 0x3008 → P 0x4008 → P 0x5008 → P 0x4018 → (page : ℕ) → Memᴰ page pages → P page
each P a b c d page = next a (next b (next c (next a (next d (λ r. absurd (Memᴰ.not-nil r))))))
  where
    next : {x : ℕ} {xs : List ℕ} → P x → (Memᴰ page xs → P page) → Memᴰ page (x ∷ xs) → P page
    next h rest is = ⊎_elim (λ e. rw e h) rest (Memᴰ.cases_cons is)

high : (page : ℕ) → Memᴰ page pages → 0x3008 ≤ page
high = each (λ page. 0x3008 ≤ page) (lit≤ tt) (lit≤ tt) (lit≤ tt) (lit≤ tt)

low : (table : ℕ) → Memᴰ table tables → table ≤ 0x2100
low table is =
    ⊎_elim (λ e. omega arith)
    (λ r. ⊎_elim (λ e. omega arith) (λ r. absurd (Memᴰ.not-nil r)) (Memᴰ.cases_cons r))
    (Memᴰ.cases_cons is)

after : (page table : ℕ) → Memᴰ page pages → Memᴰ table tables → Disjoint page table
after page table p t = inr (omega (arith, low table t, high page p))

elsewhere : (image : List ℕ) (b at : ℕ) → (Memᴰ at pages → ⊥) → flat-byte (set (set image 0x5008 b) 0x4018 b) at ≡ flat-byte image at
elsewhere image b at out =
    byte-kept (set image 0x5008 b) 0x4018 b at (λ e. out (rw e beyond-in)) ∙ byte-kept image 0x5008 b at (λ e. out (rw e leaf-in))

seen : (image : List ℕ) → of_windows (flat (length image)) image ≡ of_image image
seen image = fun_ext (flat-is image)

-- a part of an image isn't longer
part-fits : (n : ℕ) (image : List ℕ) → length image ≤ 2 ^ 64 → length (take n image) ≤ 2 ^ 64
part-fits n image h = rw (length-take n image) (omega arith)

-- a word of an image's part is the image's
part-word : (image : List ℕ) (n at : ℕ) → n ≤ length image → at + 8 ≤ n → SameWord image (take n image) at
part-word image n at h inside =
    let some : at + 8 ≤ length (take n image) = rw (length-take n image) (omega arith) in
    record {
      whole = omega arith;
      whole' = some;
      bytes =
          ap (λ (l : List ℕ). take 8 (drop at l)) (sym (take-append-drop n image))
          ∙ rw (drop-append-le at (take n image) (drop n image) (omega arith))
          (take-append-le 8 (drop at (take n image)) (drop n image) (rw (length-drop at (take n image)) (omega arith)));
    }

-- words that end within so many bytes, each of them the image's own in its part of that length
unfoldable end_within : ℕ → List ℕ → Bool
end_within n [] = true
end_within n (at ∷ rest) = if leb (at + 8) n then end_within n rest else false

module _ (image : List ℕ) (n : ℕ) (h : n ≤ length image) where
  part-words : (words : List ℕ) → end_within n words ≡ true → SameWords image (take n image) words
  unfolding end_within SameWords
  part-words [] inside = tt
  part-words (at ∷ rest) inside = by (leb (at + 8) n) refl inside (part-words rest)
    where
      by : (b : Bool) → leb (at + 8) n ≡ b → (if b then end_within n rest else false) ≡ true
          → (end_within n rest ≡ true → SameWords image (take n image) rest)
          → SameWord image (take n image) at × SameWords image (take n image) rest
      by true e inside ih = (part-word image n at h (leb-true (at + 8) n e), ih inside)
      by false e inside ih = let z : ◌≡◌ {A = ℕ} 0 1 = cc in absurd (omega arith)

bench-fits : length bench ≤ 2 ^ 64
bench-fits = rw bench-length (lit≤ tt)

-- memory requests: the words of the read, of its root and context entry and of its page entries
abbrev entry_words : List ℕ
entry_words = 0x1030 ∷ 0x1038 ∷ 0x2100 ∷ 0x2108 ∷ 0x3008 ∷ 0x4008 ∷ 0x5008 ∷ []

read-words : named (memory_rules bench_registers reads) (of_image bench) ≡ entry_words
unfolding bench layout onward in_words bytes_of little_endian bits word_at of_image named words_from entry map_rules admission registers_bad context_reserved context_invalid context_check page_reserved page_check memory_rules root_reserved root_check width_rules context_rules root_rules walk_rules
read-words = refl

read-answered : answer_over bench_registers reads (of_image bench) ≡ granted 0x12345ABC
unfolding bench layout onward in_words bytes_of little_endian bits word_at of_image run entry map_rules admission registers_bad context_reserved context_invalid context_check page_reserved page_check memory_rules root_reserved root_check width_rules context_rules root_rules walk_rules
read-answered = refl

read_alike : SameWords bench (take 0x5010 bench) entry_words
unfolding end_within
read_alike = part-words bench 0x5010 (rw bench-length (lit≤ tt)) entry_words refl

memory : FlatRelated bench (take 0x5010 bench) (MemoryPremises bench_registers reads)
memory =
    flat-related bench (take 0x5010 bench) (MemoryPremises bench_registers reads) bench-fits (part-fits 0x5010 bench bench-fits)
    (λ good good'.
    record {
      no-access-fault = ap access_fault ((flat-images bench bench-fits).memory bench_registers reads ∙ read-answered);
      alike = rw (seen bench, read-words) (same-words bench (take 0x5010 bench) good good' _ read_alike);
    })

-- over two windows each: the words' places are computed, and their bytes
abbrev AlikeAt : (run run' : List ℕ) → Spot → Spot → Type 0
AlikeAt run run' nowhere s = ⊥
AlikeAt run run' (here place left) nowhere = ⊥
AlikeAt run run' (here place left) (here place' left') = take 8 (drop place run) ≡ take 8 (drop place' run')

module _ (l l' : Lent) where
  word-at : (at : ℕ) (s s' : Spot) → spot_of l 8 at ≡ s → spot_of l' 8 at ≡ s' → AlikeAt l.bytes l'.bytes s s' → SameWordAt l l' at
  word-at at nowhere s' e e' h = absurd h
  word-at at (here place left) nowhere e e' h = absurd h
  word-at at (here place left) (here place' left') e e' h =
      record { place = place; left = left; whole = e; place' = place'; left' = left'; whole' = e'; same = h }

  unfoldable AllAlike : List ℕ → Type 0
  AllAlike [] = Unit {0}
  AllAlike (at ∷ rest) = AlikeAt l.bytes l'.bytes (spot_of l 8 at) (spot_of l' 8 at) × AllAlike rest

  words-at : (words : List ℕ) → AllAlike words → SameWordsAt l l' words
  unfolding AllAlike SameWordsAt
  words-at [] h = tt
  words-at (at ∷ rest) h = (word-at at (spot_of l 8 at) (spot_of l' 8 at) refl refl h.0, words-at rest h.1)

holed-words : named (memory_rules bench_registers reads) (of_windows holed_windows holed) ≡ entry_words
unfolding holed bench layout onward in_words bytes_of little_endian bits windows_of spot_in entry_in of_windows named words_from entry map_rules admission registers_bad context_reserved context_invalid context_check page_reserved page_check memory_rules root_reserved root_check width_rules context_rules root_rules walk_rules
holed-words = refl

holed-answered : memory_answer bench_registers reads holed_windows holed ≡ granted 0x12345ABC
unfolding holed bench layout onward in_words bytes_of little_endian bits bad_with_any bad_list bad_windows windows_of spot_in entry_in of_windows run entry map_rules admission registers_bad context_reserved context_invalid context_check page_reserved page_check memory_rules root_reserved root_check width_rules context_rules root_rules walk_rules
holed-answered = refl

holed-good : bad_windows holed_windows (length holed) ≡ false
unfolding holed bench layout onward in_words bytes_of windows_of bad_with_any bad_list bad_windows
holed-good = refl

cut-good : bad_windows cut_windows (length cut_bytes) ≡ false
unfolding cut_bytes bench layout onward in_words bytes_of windows_of bad_with_any bad_list bad_windows
cut-good = refl

abbrev holed-lent : Lent
holed-lent = record { windows = holed_windows; bytes = holed; good = holed-good }

abbrev cut-lent : Lent
cut-lent = record { windows = cut_windows; bytes = cut_bytes; good = cut-good }

holed-alike : AllAlike holed-lent cut-lent entry_words
unfolding AllAlike holed cut_bytes bench layout onward in_words bytes_of windows_of spot_in
holed-alike = (refl, (refl, (refl, (refl, (refl, (refl, (refl, tt)))))))

memory-windows : Related holed_windows holed cut_windows cut_bytes (MemoryPremises bench_registers reads)
memory-windows =
    record {
      good = holed-good;
      good' = cut-good;
      is = record { no-access-fault = ap access_fault holed-answered; alike = rw holed-words (words-at holed-lent cut-lent entry_words holed-alike) };
    }

-- translation requests
translation-words : named (translations.request_rules bench_registers translates) (of_image bench_type1) ≡ entry_words
unfolding bench_type1 bench layout onward in_words bytes_of little_endian bits word_at of_image named words_from entry map_rules admission registers_bad context_reserved context_invalid context_check page_reserved root_reserved root_check context_rules root_rules walk_rules type_rules translations.request_rules
translation-words = refl

translation-answered : translations.answer_over bench_registers translates (of_image bench_type1)
    ≡ translations.translated 0x12345000 0x1000 (record { read = true; write = false })
unfolding bench_type1 bench layout onward in_words bytes_of little_endian bits word_at of_image run entry map_rules admission registers_bad context_reserved context_invalid context_check page_reserved root_reserved root_check context_rules root_rules walk_rules type_rules translations.request_rules
translation-answered = refl

type1-length : length bench_type1 ≡ 32768
unfolding bench_type1
type1-length = length-set bench 0x2100 5 ∙ bench-length

translation-alike : SameWords bench_type1 (take 0x5010 bench_type1) entry_words
unfolding end_within
translation-alike = part-words bench_type1 0x5010 (rw type1-length (lit≤ tt)) entry_words refl

type1-fits : length bench_type1 ≤ 2 ^ 64
type1-fits = rw type1-length (lit≤ tt)

translation-requests : FlatRelated bench_type1 (take 0x5010 bench_type1) (TranslationPremises bench_registers translates)
translation-requests =
    flat-related bench_type1 (take 0x5010 bench_type1) (TranslationPremises bench_registers translates) type1-fits (part-fits 0x5010 bench_type1 type1-fits)
    (λ good good'.
    record {
      no-access-fault = ap translation.access_fault ((flat-images bench_type1 type1-fits).translations bench_registers translates ∙ translation-answered);
      alike = rw (seen bench_type1, translation-words) (same-words bench_type1 (take 0x5010 bench_type1) good good' _ translation-alike);
    })

-- interrupts
interrupt-words : named_words bench_registers remapped_request (of_image bench) ≡ 0x6020 ∷ 0x6028 ∷ []
unfolding bench layout onward in_words bytes_of little_endian bits word_at of_image entry named words_from map_rules admission registers_bad index_rules request_rules interrupt_rules reserved_irte irte_check request_check source_allowed
interrupt-words = refl

interrupt-alike : SameWords bench (take 0x6030 bench) (0x6020 ∷ 0x6028 ∷ [])
unfolding end_within
interrupt-alike = part-words bench 0x6030 (rw bench-length (lit≤ tt)) (0x6020 ∷ 0x6028 ∷ []) refl

interrupt-answered : AccessFault (interrupt_answer_over bench_registers remapped_request (of_image bench)) → ⊥
unfolding bench layout onward in_words bytes_of little_endian bits word_at of_image entry run map_rules admission registers_bad index_rules request_rules interrupt_rules reserved_irte irte_check request_check source_allowed
interrupt-answered fault = fault

post-answered : interrupt_answer_over bench_registers posted_request (of_image (take 0x6440 bench)) ≡ posted 0x6400 0x31 (notification 0xF2 7)
unfolding bench layout onward in_words bytes_of little_endian bits word_at of_image entry run map_rules admission registers_bad descriptor_rules index_rules request_rules interrupt_rules reserved_irte irte_check request_check source_allowed descriptor_check
post-answered = refl

post-alike : SameWords (take 0x6440 bench) bench (named_words bench_registers posted_request (of_image (take 0x6440 bench)))
post-alike = rw (take-append-drop 0x6440 bench) at (longer (take 0x6440 bench) (drop 0x6440 bench) (interrupt_rules bench_registers posted_request))

interrupts : FlatRelated bench (take 0x6030 bench) (InterruptPremises bench_registers remapped_request)
interrupts =
    flat-related bench (take 0x6030 bench) (InterruptPremises bench_registers remapped_request) bench-fits (part-fits 0x6030 bench bench-fits)
    (λ good good'.
    record {
      no-access-fault = λ fault. interrupt-answered (subst AccessFault ((flat-images bench bench-fits).interrupts bench_registers remapped_request) fault);
      alike = rw (seen bench, interrupt-words) (same-words bench (take 0x6030 bench) good good' _ interrupt-alike);
    })

post-told : interrupt_answer bench_registers posted_request (flat (length (take 0x6440 bench))) (take 0x6440 bench) ≡ posted 0x6400 0x31 (notification 0xF2 7)
post-told = (flat-images (take 0x6440 bench) (part-fits 0x6440 bench bench-fits)).interrupts bench_registers posted_request ∙ post-answered

post : FlatRelated (take 0x6440 bench) bench (InterruptPremises bench_registers posted_request)
post =
    flat-related (take 0x6440 bench) bench (InterruptPremises bench_registers posted_request) (part-fits 0x6440 bench bench-fits) bench-fits
    (λ good good'.
    record {
      no-access-fault = λ fault. subst AccessFault post-told fault;
      alike = rw (seen (take 0x6440 bench)) (same-words (take 0x6440 bench) bench good good' _ post-alike);
    })

-- over two windows each
abbrev post-words : List ℕ
post-words = 0x2000 ∷ 0x2008 ∷ 0x5000 ∷ 0x5008 ∷ 0x5010 ∷ 0x5018 ∷ 0x5020 ∷ 0x5028 ∷ 0x5030 ∷ 0x5038 ∷ []

small-words : named_words small.registers posts31 (of_windows small.two small.post_run) ≡ post-words
unfolding small.post_run bytes_of little_endian bits windows_of spot_in entry_in of_windows named words_from entry map_rules admission registers_bad descriptor_rules index_rules request_rules interrupt_rules reserved_irte irte_check request_check source_allowed descriptor_check
small-words = refl

small-answered : interrupt_answer small.registers posts31 small.two small.post_run ≡ posted 0x5000 0x31 (notification 0 0)
unfolding small.post_run bytes_of little_endian bits bad_with_any bad_list bad_windows windows_of spot_in entry_in of_windows run entry map_rules admission registers_bad descriptor_rules index_rules request_rules interrupt_rules reserved_irte irte_check request_check source_allowed descriptor_check
small-answered = refl

small-good : bad_windows small.two (length small.post_run) ≡ false
unfolding small.post_run bytes_of windows_of bad_with_any bad_list bad_windows
small-good = refl

reordered-good : bad_windows reordered_windows (length reordered) ≡ false
unfolding reordered bytes_of windows_of bad_with_any bad_list bad_windows
reordered-good = refl

abbrev small-lent : Lent
small-lent = record { windows = small.two; bytes = small.post_run; good = small-good }

abbrev reordered-lent : Lent
reordered-lent = record { windows = reordered_windows; bytes = reordered; good = reordered-good }

small-alike : AllAlike small-lent reordered-lent post-words
unfolding AllAlike small.post_run reordered bytes_of windows_of spot_in
small-alike = (refl, (refl, (refl, (refl, (refl, (refl, (refl, (refl, (refl, (refl, tt))))))))))

post-windows : Related small.two small.post_run reordered_windows reordered (InterruptPremises small.registers posts31)
post-windows =
    record {
      good = small-good;
      good' = reordered-good;
      is = record { no-access-fault = λ fault. subst AccessFault small-answered fault; alike = rw small-words (words-at small-lent reordered-lent post-words small-alike) };
    }

-- The low bytes of the four page entries, and an image of the bench's length in which those of 5008 and 4018 are set to one number.
lows : (get_or bench 0x3008 0 ≡ 3) × (get_or bench 0x4008 0 ≡ 3) × (get_or bench 0x5008 0 ≡ 1) × (get_or bench 0x4018 0 ≡ 3)
unfolding bench layout onward in_words bytes_of
lows = (refl, refl, refl, refl)

both-switched : (turned : ℕ → ℕ → Type 0) (image : List ℕ) (b e : ℕ) → length image ≡ 32768
    → get_or image 0x3008 0 ≡ 3 → get_or image 0x4008 0 ≡ 3 → get_or image 0x5008 0 ≡ 1 → get_or image 0x4018 0 ≡ e
    → SwitchedEntry turned 3 3 → SwitchedEntry turned 1 b → SwitchedEntry turned e b
    → (page : ℕ) → Memᴰ page pages
    → BothFetched (SwitchedEntry turned) (flat-byte image page) (flat-byte (set (set image 0x5008 b) 0x4018 b) page)
both-switched turned image b e l b3008 b4008 b5008 b4018 kept leaf reads_beyond =
    each (λ n. BothFetched (SwitchedEntry turned) (flat-byte image n) (flat-byte image' n))
    (at 0x3008 3 3 (lit≤ tt) b3008 (other 0x3008 (λ e. omega arith) (λ e. omega arith) ∙ b3008) kept)
    (at 0x4008 3 3 (lit≤ tt) b4008 (other 0x4008 (λ e. omega arith) (λ e. omega arith) ∙ b4008) kept)
    (at 0x5008 1 b (lit≤ tt) b5008
    (get_or-set_other (set image 0x5008 b) 0x4018 0x5008 b 0 (λ e. omega arith) ∙ get_or-set_same image 0x5008 b 0 (rw l (lit≤ tt))) leaf)
    (at 0x4018 e b (lit≤ tt) b4018 (get_or-set_same (set image 0x5008 b) 0x4018 b 0 (rw (length-set image 0x5008 b, l) (lit≤ tt))) reads_beyond)
  where
    image' : List ℕ
    image' = set (set image 0x5008 b) 0x4018 b

    other : (n : ℕ) → (n ≡ 0x4018 → ⊥) → (n ≡ 0x5008 → ⊥) → get_or image' n 0 ≡ get_or image n 0
    other n a c = get_or-set_other (set image 0x5008 b) 0x4018 n b 0 a ∙ get_or-set_other image 0x5008 n b 0 c

    at : (n x y : ℕ) → n < 32768 → get_or image n 0 ≡ x → get_or image' n 0 ≡ y → SwitchedEntry turned x y
        → BothFetched (SwitchedEntry turned) (flat-byte image n) (flat-byte image' n)
    at n x y h is is' s =
        rw (byte-in image n (rw l h), byte-in image' n (rw (length-set (set image 0x5008 b) 0x4018 b, length-set image 0x5008 b, l) h), is, is') s

-- rights switched on, over the image in which 4018 is only readable
on-walked : walked_by_any bench_registers (reads ∷ reads_beyond ∷ []) (of_image bench_read_only) ≡ pages
unfolding walked_by_any bench_read_only bench layout onward in_words bytes_of little_endian bits word_at of_image entry entries_of map_rules admission registers_bad context_reserved context_invalid context_check page_reserved page_check memory_rules root_reserved root_check width_rules context_rules root_rules walk_rules
on-walked = refl

on-tables : table_entries bench_registers reads (of_image bench_read_only) ≡ tables
unfolding bench_read_only bench layout onward in_words bytes_of little_endian bits word_at of_image entry entries_of map_rules admission registers_bad context_reserved context_invalid context_check page_reserved page_check memory_rules root_reserved root_check width_rules context_rules root_rules walk_rules
on-tables = refl

on-granted : answer_over bench_registers reads (of_image bench_read_only) ≡ granted 0x12345ABC
unfolding bench_read_only bench layout onward in_words bytes_of little_endian bits word_at of_image entry run map_rules admission registers_bad context_reserved context_invalid context_check page_reserved page_check memory_rules root_reserved root_check width_rules context_rules root_rules walk_rules
on-granted = refl

walker-faulted : access_fault (answer_over bench_registers reads_beyond (of_image bench_read_only)) ≡ true
unfolding bench_read_only memory_fault bench layout onward in_words bytes_of little_endian bits word_at of_image entry run map_rules admission registers_bad context_reserved context_invalid context_check page_reserved page_check memory_rules root_reserved root_check width_rules context_rules root_rules walk_rules
walker-faulted = refl

readable-fits : length bench_read_only ≤ 2 ^ 64
unfolding bench_read_only
readable-fits = rw (length-set bench 0x4018 1) bench-fits

twice-fits : (image : List ℕ) (b : ℕ) → length image ≤ 2 ^ 64 → length (set (set image 0x5008 b) 0x4018 b) ≤ 2 ^ 64
twice-fits image b h = rw (length-set (set image 0x5008 b) 0x4018 b, length-set image 0x5008 b) h

on-switched : (good : bad_windows (flat (length bench_read_only)) (length bench_read_only) ≡ false)
    (good' : bad_windows (flat (length (set (set bench_read_only 0x5008 3) 0x4018 3))) (length (set (set bench_read_only 0x5008 3) 0x4018 3)) ≡ false)
    → SwitchedAt (λ before after. before ≤ after) pages (lent bench_read_only good) (lent (set (set bench_read_only 0x5008 3) 0x4018 3) good')
unfolding bits bench_read_only
on-switched good good' =
    record {
      elsewhere = elsewhere bench_read_only 3;
      switched = both-switched (λ before after. before ≤ after) bench_read_only 3 1 (length-set bench 0x4018 1 ∙ bench-length)
          (get_or-set_other bench 0x4018 0x3008 1 0 (λ e. omega arith) ∙ lows.0)
          (get_or-set_other bench 0x4018 0x4008 1 0 (λ e. omega arith) ∙ lows.1)
          (get_or-set_other bench 0x4018 0x5008 1 0 (λ e. omega arith) ∙ lows.2)
          (get_or-set_same bench 0x4018 1 0 (rw bench-length (lit≤ tt)))
          (record { other-bits = refl; read = lit≤ tt; write = lit≤ tt })
          (record { other-bits = refl; read = lit≤ tt; write = lit≤ tt })
          (record { other-bits = refl; read = lit≤ tt; write = lit≤ tt });
    }

rights-on : FlatRelated bench_read_only (set (set bench_read_only 0x5008 3) 0x4018 3) (OnPremises bench_registers (reads ∷ reads_beyond ∷ []) reads 0x12345ABC)
rights-on =
    flat-related bench_read_only (set (set bench_read_only 0x5008 3) 0x4018 3) (OnPremises bench_registers (reads ∷ reads_beyond ∷ []) reads 0x12345ABC) readable-fits (twice-fits bench_read_only 3 readable-fits)
    (λ good good'.
    record {
      apart = rw (seen bench_read_only, on-walked, on-tables) after;
      switched = rw (seen bench_read_only, on-walked) (on-switched good good');
      was_granted = (flat-images bench_read_only readable-fits).memory bench_registers reads ∙ on-granted;
    })

-- rights switched off, over the bench image
off-walked : walked_by_any bench_registers (writes ∷ reads_beyond ∷ []) (of_image bench) ≡ pages
unfolding walked_by_any bench layout onward in_words bytes_of little_endian bits word_at of_image entry entries_of map_rules admission registers_bad context_reserved context_invalid context_check page_reserved page_check memory_rules root_reserved root_check width_rules context_rules root_rules walk_rules
off-walked = refl

off-tables : table_entries bench_registers writes (of_image bench) ≡ tables
unfolding bench layout onward in_words bytes_of little_endian bits word_at of_image entry entries_of map_rules admission registers_bad context_reserved context_invalid context_check page_reserved page_check memory_rules root_reserved root_check width_rules context_rules root_rules walk_rules
off-tables = refl

off-blocked : (host : ℕ) → answer_over bench_registers writes (of_image bench) ≡ granted host → ⊥
unfolding bench layout onward in_words bytes_of little_endian bits word_at of_image entry run map_rules admission registers_bad context_reserved context_invalid context_check page_reserved page_check memory_rules root_reserved root_check width_rules context_rules root_rules walk_rules
off-blocked host h = let z : ◌≡◌ {A = ℕ} 0 1 = cc in omega arith

off-switched : (good : bad_windows (flat (length bench)) (length bench) ≡ false)
    (good' : bad_windows (flat (length (set (set bench 0x5008 0) 0x4018 0))) (length (set (set bench 0x5008 0) 0x4018 0)) ≡ false)
    → SwitchedAt (λ before after. after ≤ before) pages (lent bench good) (lent (set (set bench 0x5008 0) 0x4018 0) good')
unfolding bits
off-switched good good' =
    record {
      elsewhere = elsewhere bench 0;
      switched = both-switched (λ before after. after ≤ before) bench 0 3 bench-length lows.0 lows.1 lows.2 lows.3
          (record { other-bits = refl; read = lit≤ tt; write = lit≤ tt })
          (record { other-bits = refl; read = lit≤ tt; write = lit≤ tt })
          (record { other-bits = refl; read = lit≤ tt; write = lit≤ tt });
    }

rights-off : FlatRelated bench (set (set bench 0x5008 0) 0x4018 0) (OffPremises bench_registers (writes ∷ reads_beyond ∷ []) writes)
rights-off =
    flat-related bench (set (set bench 0x5008 0) 0x4018 0) (OffPremises bench_registers (writes ∷ reads_beyond ∷ []) writes) bench-fits (twice-fits bench 0 bench-fits)
    (λ good good'.
    record {
      apart = rw (seen bench, off-walked, off-tables) after;
      switched = rw (seen bench, off-walked) (off-switched good good');
      not-granted = λ host h. off-blocked host (sym ((flat-images bench bench-fits).memory bench_registers writes) ∙ h);
    })

-- a longer image
short-granted : answer_over bench_registers reads (of_image (take 0x5010 bench)) ≡ granted 0x12345ABC
unfolding bench layout onward in_words bytes_of little_endian bits word_at of_image run entry map_rules admission registers_bad context_reserved context_invalid context_check page_reserved page_check memory_rules root_reserved root_check width_rules context_rules root_rules walk_rules
short-granted = refl

more-memory : FlatRelated (take 0x5010 bench) bench (MorePremises bench_registers reads 0x12345ABC)
more-memory =
    flat-related (take 0x5010 bench) bench (MorePremises bench_registers reads 0x12345ABC) (part-fits 0x5010 bench bench-fits) bench-fits
    (λ good good'.
    record {
      shows = more-shown bench 0x5010;
      was_granted = (flat-images (take 0x5010 bench) (part-fits 0x5010 bench bench-fits)).memory bench_registers reads ∙ short-granted;
    })

pub premises-met : PremisesMet
premises-met =
    record {
      memory = memory;
      memory-windows = memory-windows;
      memory-windows-answer = holed-answered;
      translations = translation-requests;
      translations-answer = (flat-images bench_type1 type1-fits).translations bench_registers translates ∙ translation-answered;
      interrupts = interrupts;
      post = post;
      post-answer = post-told;
      post-windows = post-windows;
      post-windows-answer = small-answered;
      rights-on = rights-on;
      walker-faulted = ap access_fault ((flat-images bench_read_only readable-fits).memory bench_registers reads_beyond) ∙ walker-faulted;
      rights-off = rights-off;
      more-memory = more-memory;
    }
