-- The part of the image that a table's page is.
use Rattle.std.proofs.Common.{◌≡◌, ℕ, zero, suc, ◌+◌, ◌-◌, ◌*◌, ◌%◌, ◌≤◌, min, leb, List, [], ◌∷◌, length, take, drop, sym, refl, ap, ◌∙◌, add_assoc, suc-add, zero-add, arith, length-drop, drop_of_length-le, length-take, take_all, take-take, drop-drop, le-leb}
use borrow.Author.Tests.{lt-leb}
use Rattle.image.specs.Bytes.{little_endian}
use Rattle.std.specs.Prelude.{if◌then◌else◌}
use Rattle.image.specs.Memory.{Fetched, missing, found, word_at, of_image, entry}
use native.Mathlib.Decide.{dec_le}
use lib.Seq.{take-nil}

take_min : (n : ℕ) (l : List ℕ) → take (min n (length l)) l ≡ take n l
take_min n l = go (dec_le n (length l))
  where
    go : Dec (n ≤ length l) → take (min n (length l)) l ≡ take n l
    go (yes h) = let all : min n (length l) ≡ n = omega arith in rw all
    go (no h) =
        take_all (min n (length l)) l (omega arith) ∙ sym (take_all n l (omega arith))

-- a page that begins so far before the end of the image lies whole in it
pub room : (size table length : ℕ) → size ≤ length → leb table (length - size) ≡ leb (table + size) length
room size table length h = go (dec_le (table + size) length)
  where
    go : Dec (table + size ≤ length) → leb table (length - size) ≡ leb (table + size) length
    go (yes i) = rw (le-leb table (length - size) (omega arith), le-leb (table + size) length i)
    go (no o) = rw (lt-leb table (length - size) (omega arith), lt-leb (table + size) length (omega arith))

-- as much of a page of any size as the image holds
pub page : (size : ℕ) (image : List ℕ) (table : ℕ) {from held : ℕ}
    → from ≡ min table (length image) → held ≡ min size (length image - from)
    → take ((from + held) - from) (drop from image) ≡ take size (drop table image)
page size image table {from} {held} starts holds = go (dec_le table (length image))
  where
    go : Dec (table ≤ length image) → take ((from + held) - from) (drop from image) ≡ take size (drop table image)
    go (yes h) =
        let here : from ≡ table = omega arith in
        let part : (from + held) - from ≡ min size (length (drop table image)) = rw (length-drop table image) (omega arith) in
        rw (part, here) (take_min size (drop table image))
    go (no h) =
        rw (drop_of_length-le image {i = from} (omega arith), drop_of_length-le image {i = table} (omega arith), take-nil ((from + held) - from), take-nil size)

pub drop-take : (k n : ℕ) (l : List ℕ) → drop k (take (k + n) l) ≡ take n (drop k l)
drop-take zero n l = rw (zero-add n)
drop-take (suc k) n [] = rw (take-nil (suc k + n), take-nil n)
drop-take (suc k) n (a ∷ l) = rw (suc-add k n) (drop-take k n l)

within-page : (size : ℕ) (image : List ℕ) (table offset : ℕ) → offset + 8 ≤ size
    → of_image (take size (drop table image)) offset ≡ of_image image (table + offset)
unfolding of_image word_at
within-page size image table offset h =
    let rest = drop table image in
    let left : size ≡ offset + (size - offset) = omega arith in
    let part : take 8 (drop offset (take size rest)) ≡ take 8 (drop (table + offset) image) =
    ap (λ (n : ℕ). take 8 (drop offset (take n rest))) left
    ∙ ap (take 8) (drop-take offset (size - offset) rest)
    ∙ take-take 8 (size - offset) (drop offset rest) (omega arith)
    ∙ ap (take 8) (drop-drop offset table image) in
    rw (part, length-take size rest, length-drop table image) (go (dec_le (table + offset + 8) (length image)))
  where
    go : Dec (table + offset + 8 ≤ length image)
        → (if leb (offset + 8) (min size (length image - table)) then found (little_endian (take 8 (drop (table + offset) image))) else missing)
        ≡ (if leb (table + offset + 8) (length image) then found (little_endian (take 8 (drop (table + offset) image))) else missing)
    go (yes i) = rw (le-leb (offset + 8) (min size (length image - table)) (omega arith), le-leb (table + offset + 8) (length image) i)
    go (no o) = rw (lt-leb (offset + 8) (min size (length image - table)) (omega arith), lt-leb (table + offset + 8) (length image) (omega arith))

-- an entry within a table's page is the image's entry
pub in-page : (size : ℕ) (image : List ℕ) (table n offset : ℕ) → offset + 8 * n ≤ size
    → entry n (of_image (take size (drop table image))) offset ≡ entry n (of_image image) (table + offset)
unfolding entry
in-page size image table zero offset h = refl
in-page size image table (suc n) offset h =
    rw (within-page size image table offset (omega arith), add_assoc table offset 8, in-page size image table n (offset + 8) (omega arith))

-- what a fetch says of a page that was handed on, it says of the page's promise
pub handed : (n offset : ℕ) {f : Fetched} {page part : List ℕ} → f ≡ entry n (of_image page) offset → page ≡ part → f ≡ entry n (of_image part) offset
handed n offset {f} {page} {part} said same = said ∙ ap (λ (l : List ℕ). entry n (of_image l) offset) same

-- an entry that doesn't leave the page it begins in, taken from that page
pub of-page : (image : List ℕ) (n at : ℕ) → at % 4096 + 8 * n ≤ 4096
    → entry n (of_image (take 4096 (drop (at - at % 4096) image))) (at % 4096) ≡ entry n (of_image image) at
of-page image n at h =
    let back : at - at % 4096 + at % 4096 ≡ at = omega arith in
    in-page 4096 image (at - at % 4096) n (at % 4096) h ∙ ap (entry n (of_image image)) back
