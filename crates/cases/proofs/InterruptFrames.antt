-- The rows of Ask 10 hold, each computed over the words that it tries.
use Prim.Native.Nat.{ℕ}
use mathlib.Core.Bool.{true}
use mathlib.Core.List.{List, [], ◌∷◌}
use mathlib.Core.Path.{◌≡◌, refl, ◌∙◌}
use lib.Dec.{lit≤}
use lib.ListN.{length, replicate}
use Rattle.image.specs.Bits.{bits}
use Rattle.image.specs.Bytes.{little_endian, bytes_of, spell}
use Rattle.image.specs.Memory.{word_at, entry}
use Rattle.image.specs.Place.{last_tried}
use Rattle.image.specs.Rules.{run, map_rules, words_from}
use Rattle.registers.specs.Admission.{admission}
use Rattle.registers.specs.Registers.{registers_bad}
use Rattle.faults.specs.Record.{silenced, memory_record, from_bit64, memory_fault}
use Rattle.dma.specs.Context.{context_reserved, context_invalid, context_check}
use Rattle.dma.specs.Page.{page_reserved, page_check}
use Rattle.dma.specs.Requests.{memory_rules}
use Rattle.dma.specs.Root.{root_reserved, root_check}
use Rattle.dma.specs.Lookup.{context_rules, root_rules}
use Rattle.dma.specs.Translation.{width_rules}
use Rattle.dma.specs.Walk.{walk_rules}
use Rattle.cases.specs.Bench.{layout, onward, in_words, said}
use Rattle.cases.specs.InterruptFrames.{frame_words, frames, frame_rows, InterruptFrames}
use Rattle.cases.specs.Translations.{by_words}
use Rattle.cases.proofs.Known.{tried, shown, sized, is_among, among}
use Rattle.cases.proofs.Seen.{Seen, seen_as, over, enough, Fit, all_over, all_enough, all-over}

-- all words of the image that aren't 0, and none else is tried
unfoldable addresses : List (ℕ × ℕ) → List ℕ
addresses [] = []
addresses (w ∷ ws) = w.0 ∷ addresses ws

abbrev known : List ℕ
known = 0x1038 ∷ addresses frame_words

whole : length frames ≡ 0x5020
unfolding frames layout onward in_words bytes_of
whole = refl

frames-shown : shown (by_words frame_words) known ≡ shown (sized 0x5020 frames) known
unfolding addresses shown by_words sized word_at little_endian frames layout onward in_words bytes_of
frames-shown = refl

abbrev here : Seen
here = seen_as frames 0x5020 whole (lit≤ tt) known (by_words frame_words) frames-shown

abbrev seens : List Seen
seens = replicate 16 here

fit : Fit seens (frame_rows frames)
unfolding Fit
fit = (refl, (refl, (refl, (refl, (refl, (refl, (refl, (refl, (refl, (refl, (refl, (refl, (refl, (refl, (refl, (refl, tt))))))))))))))))

tried-known : all_enough seens (frame_rows frames) ≡ true
unfolding addresses onward in_words all_enough enough among is_among tried by_words words_from bits entry map_rules admission registers_bad context_reserved context_invalid context_check page_reserved page_check memory_rules root_reserved root_check width_rules context_rules root_rules walk_rules
tried-known = refl

told : all_over seens (frame_rows frames) ≡ said (frame_rows frames)
unfolding all_over said over onward in_words by_words bits spell entry run last_tried map_rules admission registers_bad silenced memory_record from_bit64 memory_fault context_reserved context_invalid context_check page_reserved page_check memory_rules root_reserved root_check width_rules context_rules root_rules walk_rules
told = refl

pub interrupt-frames : InterruptFrames
interrupt-frames = all-over seens (frame_rows frames) fit tried-known ∙ told
