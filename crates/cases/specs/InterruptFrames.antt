-- Document 02, Ask 10: pages of each size at the interrupt range and beside it, as rows over an image of their own.
use Rattle.std.specs.Prelude.{ℕ, List, [], ◌∷◌, ◌≡◌}
use Rattle.cases.specs.Bench.{Row, read, write, host, fault, refusal, row, layout, in_words, answers, said}

-- source 0310h walks three levels, source 0311h passes through
abbrev pub frame_words : List (ℕ × ℕ)
frame_words =
    in_words
    ((0x1030, 0x2001 ∷ [])
    ∷ (0x2100, 0x3001 ∷ 0x501 ∷ 0x9 ∷ 0x501 ∷ [])
    -- behind a table: pages of 1 GiB
    ∷ (0x3000, 0x4003 ∷ 0xC0000083 ∷ 0x80000083 ∷ 0x100000083 ∷ [])
    -- of 2 MiB
    ∷ (0x4000, 0x5003 ∷ 0xFEE00083 ∷ 0xFEC00083 ∷ 0xFF000083 ∷ [])
    -- of 4 KiB, the first without the right to write
    ∷ (0x5000, 0xFEE00001 ∷ 0xFEEFF003 ∷ 0xFEDFF003 ∷ 0xFEF00003 ∷ [])
    ∷ [])

unfoldable pub frames : List ℕ
frames = layout 0 frame_words 0x5020

abbrev pub frame_rows : List ℕ → List Row
frame_rows image =
    -- 4 KiB: the range's first page, its right to write lacking; its last; the pages beside it
    row 1 image 0x0310 (read 0xABC) (refusal 4)
    ∷ row 2 image 0x0310 (write 0xABC) (fault 0x05 0 0x8000000500000310 0x5000)
    ∷ row 3 image 0x0310 (write 0x1FFF) (refusal 4)
    ∷ row 4 image 0x0310 (read 0x2FFF) (host 0xFEDFFFFF)
    ∷ row 5 image 0x0310 (read 0x3000) (host 0xFEF00000)
    -- 2 MiB: an offset in the range, one past it; the pages beside it
    ∷ row 6 image 0x0310 (read 0x200000) (refusal 4)
    ∷ row 7 image 0x0310 (read 0x3FFFFF) (refusal 4)
    ∷ row 8 image 0x0310 (read 0x5FFFFF) (host 0xFEDFFFFF)
    ∷ row 9 image 0x0310 (read 0x600000) (host 0xFF000000)
    -- 1 GiB: offsets before, in and past the range; the pages beside it
    ∷ row 10 image 0x0310 (read 0x40000000) (refusal 4)
    ∷ row 11 image 0x0310 (write 0x7EE00000) (refusal 4)
    ∷ row 12 image 0x0310 (read 0x7FFFFFFF) (refusal 4)
    ∷ row 13 image 0x0310 (read 0xBFFFFFFF) (host 0xBFFFFFFF)
    ∷ row 14 image 0x0310 (read 0xC0000000) (host 0x100000000)
    -- pass-through has no page: refusal 2 alone
    ∷ row 15 image 0x0311 (read 0xFEDFFFFF) (host 0xFEDFFFFF)
    ∷ row 16 image 0x0311 (write 0xFEE00000) (refusal 2)
    ∷ []

-- the rules answer what the rows say. Proved in proofs/InterruptFrames.antt.
abbrev pub InterruptFrames : Type 0
InterruptFrames = answers (frame_rows frames) ≡ said (frame_rows frames)
