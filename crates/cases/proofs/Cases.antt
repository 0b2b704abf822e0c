-- The twelve cases of document 01 hold: each row is computed over the words of its image that it tries, and each word of the image once.
use Prim.Native.Nat.{ℕ}
use mathlib.Core.Bool.{true}
use mathlib.Core.List.{List, [], ◌∷◌, ◌++◌}
use mathlib.Core.Path.{◌≡◌, refl, ◌∙◌}
use lib.Dec.{eqb, lit≤}
use lib.ListN.{length, take, set, replicate, length-set}
use Rattle.image.specs.Bits.{bits}
use Rattle.image.specs.Bytes.{little_endian, bytes_of, spell}
use Rattle.std.specs.Prelude.{if◌then◌else◌}
use Rattle.image.specs.Memory.{Memory, missing, word_at, entry}
use Rattle.image.specs.Place.{last_tried}
use Rattle.image.specs.Rules.{run, map_rules, words_from}
use Rattle.image.specs.Windows.{windows_of, spot_in, flat}
use Rattle.registers.specs.Admission.{admission}
use Rattle.registers.specs.Registers.{registers_bad}
use Rattle.faults.specs.Record.{silenced, memory_record, from_bit64, memory_fault, index_field, interrupt_record, interrupt_fault}
use Rattle.dma.specs.Context.{context_reserved, context_invalid, context_check}
use Rattle.dma.specs.Page.{page_reserved, page_check}
use Rattle.dma.specs.Requests.{memory_rules}
use Rattle.dma.specs.Root.{root_reserved, root_check}
use Rattle.dma.specs.Lookup.{context_rules, root_rules}
use Rattle.dma.specs.Translation.{width_rules}
use Rattle.dma.specs.Walk.{walk_rules}
use Rattle.interrupts.specs.Descriptor.{descriptor_check}
use Rattle.interrupts.specs.Interrupts.{descriptor_rules, index_rules, request_rules, interrupt_rules}
use Rattle.irte.specs.Irte.{reserved_irte, irte_check}
use Rattle.interrupts.specs.Post.{set_bit}
use Rattle.interrupts.specs.Request.{request_check}
use Rattle.irte.specs.Source.{source_allowed}
use Rattle.cases.specs.Bench.{layout, onward, in_words, bench_words, bench, with_bytes, rows, answers, said, numbers, TwelveCases}
use Rattle.cases.specs.Translations.{by_words}
use Rattle.cases.proofs.Known.{tried, shown, sized, is_among, among}
use Rattle.cases.proofs.Seen.{Seen, seen_as, over, enough, Fit, all_over, all_enough, all-over}

pub bench-length : length bench ≡ 32768
unfolding bench layout onward in_words bytes_of
bench-length = refl

-- the words that the rows try, first those of the posts
abbrev post_words : List ℕ
post_words = 0x6040 ∷ 0x6048 ∷ 0x6400 ∷ 0x6408 ∷ 0x6410 ∷ 0x6418 ∷ 0x6420 ∷ 0x6428 ∷ 0x6430 ∷ 0x6438 ∷ []

abbrev words : List ℕ
words =
    0x1030
    ∷ 0x1038
    ∷ 0x1040
    ∷ 0x1048
    ∷ 0x2100
    ∷ 0x2108
    ∷ 0x2110
    ∷ 0x2118
    ∷ 0x3008
    ∷ 0x3FF8
    ∷ 0x4008
    ∷ 0x4010
    ∷ 0x4018
    ∷ 0x4020
    ∷ 0x4028
    ∷ 0x5008
    ∷ 0x5010
    ∷ 0x6020
    ∷ 0x6028
    ∷ 0x7FF8
    ∷ 0x9000
    ∷ post_words

-- the bench image; one byte shorter; with some of its bytes changed
plain-shown : shown (by_words bench_words) words ≡ shown (sized 32768 bench) words
unfolding shown by_words sized word_at little_endian bench layout onward in_words bytes_of
plain-shown = refl

abbrev plain : Seen
plain = seen_as bench 32768 bench-length (lit≤ tt) words (by_words bench_words) plain-shown

abbrev short_words : List ℕ
short_words = 0x1030 ∷ 0x1038 ∷ 0x2100 ∷ 0x2108 ∷ 0x3008 ∷ 0x4028 ∷ 0x7FF8 ∷ []

unfoldable short_memory : Memory
short_memory at = if eqb at 0x7FF8 then missing else by_words bench_words at

short-length : length (take 32767 bench) ≡ 32767
unfolding bench layout onward in_words bytes_of
short-length = refl

short-shown : shown short_memory short_words ≡ shown (sized 32767 (take 32767 bench)) short_words
unfolding shown short_memory by_words sized word_at little_endian bench layout onward in_words bytes_of
short-shown = refl

abbrev short : Seen
short = seen_as (take 32767 bench) 32767 short-length (lit≤ tt) short_words short_memory short-shown

changed-length : (bytes : List (ℕ × ℕ)) (image : List ℕ) → length (with_bytes bytes image) ≡ length image
unfolding with_bytes
changed-length [] image = refl
changed-length (b ∷ bytes) image = changed-length bytes (set image b.0 b.1) ∙ length-set image b.0 b.1

abbrev PostShown : (bytes ws : List (ℕ × ℕ)) → Type 0
PostShown bytes ws = shown (by_words (ws ++ bench_words)) post_words ≡ shown (sized 32768 (with_bytes bytes bench)) post_words

abbrev edited : (bytes ws : List (ℕ × ℕ)) → PostShown bytes ws → Seen
edited bytes ws e =
    seen_as (with_bytes bytes bench) 32768 (changed-length bytes bench ∙ bench-length) (lit≤ tt) post_words (by_words (ws ++ bench_words)) e

-- as the first post left it; with the entry's URG, and SN or ON set; with SN alone
again-shown : PostShown ((0x6406, 2) ∷ (0x6420, 1) ∷ []) ((0x6400, 0x0002000000000000) ∷ (0x6420, 0x0000070000F20001) ∷ [])
unfolding with_bytes shown by_words sized word_at little_endian bench layout onward in_words bytes_of
again-shown = refl

abbrev again : Seen
again = edited ((0x6406, 2) ∷ (0x6420, 1) ∷ []) ((0x6400, 0x0002000000000000) ∷ (0x6420, 0x0000070000F20001) ∷ []) again-shown

urgent-shown : PostShown ((0x6041, 0xC0) ∷ (0x6420, 2) ∷ []) ((0x6040, 0x000064000031C001) ∷ (0x6420, 0x0000070000F20002) ∷ [])
unfolding with_bytes shown by_words sized word_at little_endian bench layout onward in_words bytes_of
urgent-shown = refl

abbrev urgent : Seen
urgent = edited ((0x6041, 0xC0) ∷ (0x6420, 2) ∷ []) ((0x6040, 0x000064000031C001) ∷ (0x6420, 0x0000070000F20002) ∷ []) urgent-shown

outstanding-shown : PostShown ((0x6041, 0xC0) ∷ (0x6420, 1) ∷ []) ((0x6040, 0x000064000031C001) ∷ (0x6420, 0x0000070000F20001) ∷ [])
unfolding with_bytes shown by_words sized word_at little_endian bench layout onward in_words bytes_of
outstanding-shown = refl

abbrev outstanding : Seen
outstanding = edited ((0x6041, 0xC0) ∷ (0x6420, 1) ∷ []) ((0x6040, 0x000064000031C001) ∷ (0x6420, 0x0000070000F20001) ∷ []) outstanding-shown

suppressed-shown : PostShown ((0x6420, 2) ∷ []) ((0x6420, 0x0000070000F20002) ∷ [])
unfolding with_bytes shown by_words sized word_at little_endian bench layout onward in_words bytes_of
suppressed-shown = refl

abbrev suppressed : Seen
suppressed = edited ((0x6420, 2) ∷ []) ((0x6420, 0x0000070000F20002) ∷ []) suppressed-shown

abbrev seens : List Seen
seens =
    replicate 7 plain ++ (short ∷ (replicate 8 plain ++ (again ∷ urgent ∷ outstanding ∷ suppressed ∷ [])))

fit : Fit seens (rows bench)
unfolding Fit
fit = (
  refl,
  (refl, (refl, (refl, (refl, (refl, (refl, (refl, (refl, (refl, (refl, (refl, (refl, (refl, (refl, (refl, (refl, (refl, (refl, (refl, tt))))))))))))))))))),
)

tried-known : all_enough seens (rows bench) ≡ true
unfolding all_enough enough among is_among tried short_memory onward in_words by_words words_from bits entry map_rules admission registers_bad context_reserved context_invalid context_check page_reserved page_check memory_rules root_reserved root_check width_rules context_rules root_rules walk_rules descriptor_check descriptor_rules index_rules request_rules interrupt_rules reserved_irte irte_check request_check source_allowed
tried-known = refl

told : all_over seens (rows bench) ≡ said (rows bench)
unfolding all_over said over short_memory by_words with_bytes bench layout onward in_words bytes_of bits spell windows_of spot_in flat entry run last_tried map_rules admission registers_bad silenced memory_record from_bit64 memory_fault index_field interrupt_record interrupt_fault context_reserved context_invalid context_check page_reserved page_check memory_rules root_reserved root_check width_rules context_rules root_rules walk_rules descriptor_check descriptor_rules index_rules request_rules interrupt_rules reserved_irte irte_check set_bit request_check source_allowed
told = refl

answered : answers (rows bench) ≡ said (rows bench)
answered = all-over seens (rows bench) fit tried-known ∙ told

pub twelve-cases : TwelveCases
unfolding numbers
twelve-cases = record { whole = bench-length; numbered = refl; answered = answered }
