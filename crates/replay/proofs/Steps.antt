-- The calls of a replay name what there is to name.
use Prim.Native.Nat.{ℕ, zero, suc, ◌+◌, ◌*◌}
use mathlib.Core.Bool.{Bool, true, false}
use mathlib.Core.List.{List, [], ◌∷◌, ◌++◌}
use mathlib.Core.Path.{◌≡◌, refl, ap, ◌∙◌}
use borrow.Author.Tests.{eqb-true}
use lib.Dec.{eqb, leb}
use lib.ListN.{length, take, drop}
use lib.Seq.{get_or-drop}
use Rattle.std.specs.Prelude.{if◌then◌else◌}
use Rattle.image.proofs.Bytes.{AreBytes, bytes-taken}
use Rattle.image.proofs.Choices.{either, chosen}
use Rattle.registers.specs.declared.Registers.{Registers}
use Rattle.blocks.specs.Block.{count}
use Rattle.blocks.proofs.Frames.{and_left}
use Rattle.traced.specs.Decoded as of
use Rattle.traced.specs.Decoded.{Decoded, entry_well, decoded}
use Rattle.traced.specs.Entry.{entry_bytes, traced_in}
use Rattle.traced.specs.Well.{well_traced}
use Rattle.traced.proofs.Back.{bytes-again}
use Rattle.trace.specs.Reader as reader
use Rattle.trace.specs.Reader.{ReaderStep, block_at, behind, shut, on_decoded, step_at, steps}
use Rattle.trace.specs.declared.Cursor.{Cursor}
use Rattle.trace.proofs.Reading.{told-in-steps}
use Rattle.replay.specs.Again.{again, left_by, same}
use Rattle.replay.specs.Replayed.{
  Named,
  differs_at,
  damaged_at,
  replayed,
  alike,
  differs,
  compared,
  replay_step,
  replay_at,
  on_replayed,
  names,
  ReplayedInSteps,
}

-- an entry that a reader hands out comes back from its bytes
abbrev Back : ReaderStep → Type 0
Back (reader.entry e next) = traced_in (entry_bytes e) ≡ e
Back (reader.damaged next) = Unit {0}
Back reader.end = Unit {0}

abbrev BackIn : Decoded → Type 0
BackIn (of.entry e) = traced_in (entry_bytes e) ≡ e
BackIn of.malformed = Unit {0}

decoded-back : (bs : List ℕ) → AreBytes bs → BackIn (decoded bs)
unfolding decoded entry_well
decoded-back bs are =
    chosen BackIn (entry_well bs)
    (λ h. ap traced_in (bytes-again bs (eqb-true (length bs) 32 (and_left (eqb (length bs) 32) (well_traced (traced_in bs)) h)) are)) (λ h. tt)

on-decoded : (d : Decoded) (next none : Cursor) → BackIn d → Back (on_decoded d (reader.damaged none) (λ e. reader.entry e next))
on-decoded (of.entry e) next none h = h
on-decoded of.malformed next none h = tt

step_back : (bytes : List ℕ) → AreBytes bytes → (place index : ℕ) → Back (step_at bytes place index)
unfolding step_at
step_back bytes are place index =
    either Back (leb (length bytes) (512 * place)) tt
    (either Back (shut bytes place index) tt
    (on-decoded (decoded (take 32 (drop at bytes))) (behind (count (block_at bytes place)) place index) (record { place = place + 1; index = 0 })
    (decoded-back (take 32 (drop at bytes)) (bytes-taken 32 (drop at bytes) (λ i. rw get_or-drop (are (at + i)))))))
  where
    at : ℕ
    at = 512 * place + 8 + 32 * index

module _ (registers : Registers) (windows bytes : List ℕ) (are : AreBytes bytes) where
  -- one call, then the others
  one : (n : ℕ) (image : List ℕ) (place index : ℕ) (s : ReaderStep) → Back s
      → ((image : List ℕ) (place index : ℕ) → names registers windows n image bytes place index ≡ replayed registers windows image (steps n bytes place index))
      → on_replayed place index (replay_step registers windows image s) (λ next left. names registers windows n left bytes next.place next.index)
      ≡ replayed registers windows image (reader.on_reader_step place index s (λ next. steps n bytes next.place next.index))
  unfolding replayed compared
  one n image place index (reader.entry e next) back rest = rw back (by (same e (again registers windows image e)))
    where
      by : (t : Bool)
          → on_replayed place index (if t then alike next else differs (again registers windows image e) next, left_by registers windows image e)
          (λ next left. names registers windows n left bytes next.place next.index)
          ≡ (if t then [] else differs_at place index ∷ []) ++ replayed registers windows (left_by registers windows image e) (steps n bytes next.place next.index)
      by true = rest (left_by registers windows image e) next.place next.index
      by false = ap (λ (l : List Named). differs_at place index ∷ l) (rest (left_by registers windows image e) next.place next.index)
  one n image place index (reader.damaged next) back rest =
      ap (λ (l : List Named). damaged_at place ∷ l) (rest image next.place next.index)
  one n image place index reader.end back rest = refl

  names-steps : (n : ℕ) (image : List ℕ) (place index : ℕ)
      → names registers windows n image bytes place index ≡ replayed registers windows image (steps n bytes place index)
  unfolding names steps replayed replay_at
  names-steps zero image place index = refl
  names-steps (suc n) image place index =
      one n image place index (step_at bytes place index) (step_back bytes are place index) (λ image place index. names-steps n image place index)

pub replayed-in-steps : ReplayedInSteps
replayed-in-steps registers windows image bytes are n enough =
    names-steps registers windows bytes are n image 0 0 ∙ ap (replayed registers windows image) (told-in-steps bytes are n enough)
