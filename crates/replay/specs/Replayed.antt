-- Document 02, Ask 12: a trace replayed. The entries of undamaged blocks are run in order over one image, each post made before the next
-- request, whether or not its answer differs; those whose answer differs are named by block and place, damaged blocks by their place.
use Rattle.std.specs.Prelude.{ℕ, zero, suc, ◌*◌, ◌<◌, List, [], ◌∷◌, ◌++◌, ◌≡◌, get_or}
use Rattle.std.specs.Prelude.{if◌then◌else◌}
use Rattle.registers.specs.declared.Registers.{Registers}
use Rattle.traced.specs.Entry.{traced_in}
use Rattle.traced.specs.declared.Traced.{Traced}
use Rattle.trace.specs.Told as trace
use Rattle.trace.specs.Told.{Told, told, blocks_in}
use Rattle.trace.specs.Reader as reader
use Rattle.trace.specs.Reader.{ReaderStep, step_at}
use Rattle.trace.specs.declared.Cursor.{Cursor}
use Rattle.replay.specs.Again.{again, left_by, same}

pub data Named : Type 0 where
  differs_at : (block index : ℕ) → Named
  damaged_at : (block : ℕ) → Named

module _ (registers : Registers) (windows : List ℕ) where
  -- an entry is named where its answer differs
  abbrev pub named_at : (image : List ℕ) (block index : ℕ) → Traced → List Named
  named_at image block index e = if same e (again registers windows image e) then [] else differs_at block index ∷ []

  -- what is named of what a reader tells, over an image
  unfoldable pub replayed : (image : List ℕ) → List Told → List Named
  replayed image [] = []
  replayed image (trace.traced_at block index bytes ∷ rest) =
      named_at image block index (traced_in bytes) ++ replayed (left_by registers windows image (traced_in bytes)) rest
  replayed image (trace.damaged_at block ∷ rest) = damaged_at block ∷ replayed image rest

  -- the image that is left
  unfoldable pub left_after : (image : List ℕ) → List Told → List ℕ
  left_after image [] = image
  left_after image (trace.traced_at block index bytes ∷ rest) = left_after (left_by registers windows image (traced_in bytes)) rest
  left_after image (trace.damaged_at block ∷ rest) = left_after image rest

-- One call, at a reader's place: the answer is the same, or differs, with the entry of the answer now; or the block is damaged; each with
-- the next place. Or the end.
pub data Replayed : Type 0 where
  alike : Cursor → Replayed
  differs : Traced → Cursor → Replayed
  damaged : Cursor → Replayed
  end : Replayed

module _ (registers : Registers) (windows : List ℕ) where
  -- with the image that it leaves
  unfoldable pub compared : (image : List ℕ) → Traced → Cursor → Replayed × List ℕ
  compared image e next = (
    if same e (again registers windows image e) then alike next else differs (again registers windows image e) next,
    left_by registers windows image e,
  )

  abbrev pub replay_step : (image : List ℕ) → ReaderStep → Replayed × List ℕ
  replay_step image (reader.entry e next) = compared image e next
  replay_step image (reader.damaged next) = (damaged next, image)
  replay_step image reader.end = (end, image)

  unfoldable pub replay_at : (image bytes : List ℕ) (place index : ℕ) → Replayed × List ℕ
  replay_at image bytes place index = replay_step image (step_at bytes place index)

-- what a call names, and what the calls from its next place do
abbrev pub on_replayed : (place index : ℕ) → Replayed × List ℕ → (Cursor → List ℕ → List Named) → List Named
on_replayed place index (alike next, image) after = after next image
on_replayed place index (differs e next, image) after = differs_at place index ∷ after next image
on_replayed place index (damaged next, image) after = damaged_at place ∷ after next image
on_replayed place index (end, image) after = []

-- at most n calls, from a place on
unfoldable pub names : Registers → (windows : List ℕ) (n : ℕ) (image bytes : List ℕ) (place index : ℕ) → List Named
names registers windows zero image bytes place index = []
names registers windows (suc n) image bytes place index =
    on_replayed place index (replay_at registers windows image bytes place index)
    (λ next left. names registers windows n left bytes next.place next.index)

-- the calls from the first block on name what there is to name, each once and in order
abbrev pub ReplayedInSteps : Type 0
ReplayedInSteps = (registers : Registers) (windows image bytes : List ℕ) → ((i : ℕ) → get_or bytes i 0 < 256)
    → (n : ℕ) → 16 * blocks_in bytes < n → names registers windows n image bytes 0 0 ≡ replayed registers windows image (told bytes)
