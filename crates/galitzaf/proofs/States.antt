-- The answer that is handed to the recorder.
use Prim.Native.Nat.{ℕ, ◌+◌, ◌≤◌}
use mathlib.Core.Bool.{Bool, false, not, ◌||◌}
use mathlib.Core.List.{List}
use mathlib.Core.Path.{◌≡◌}
use native.Mathlib.Omega.{arith}
use borrow.Author.Tests.{eqb-true, not-false}
use lib.Dec.{eqb, ltb}
use lib.ListN.{length}
use Rattle.image.specs.Memory.{word_at, of_image, entry, on_fetch}
use Rattle.image.proofs.Words.{word-inside}
use Rattle.faults.proofs.Recording.{neither}
use Rattle.packing.specs.Buffer.{byte}
use Rattle.packing.specs.Answer.{last_kind}
use Rattle.galitzaf.specs.Recording.{malformed_answer}

sized : (n m : ℕ) (test : Bool) → not (eqb n m) || test ≡ false → n ≡ m
sized n m test h = eqb-true n m (not-false (eqb n m) (neither (not (eqb n m)) test h).0)

module _ (answer : List ℕ) where
  answer-length : malformed_answer answer ≡ false → length answer ≡ 32
  unfolding malformed_answer
  answer-length = sized (length answer) 32 (eqb (byte answer 0) 0 || ltb last_kind (byte answer 0))

  -- a word of an answer
  pub word_of : malformed_answer answer ≡ false → (at : ℕ) → at + 8 ≤ 32
      → on_fetch (entry 1 (of_image answer) at) 0 (λ w. w) ≡ word_at answer at
  word_of fine at h = rw (word-inside answer at (omega (arith, answer-length fine)))
