-- The registers' fields in the first word of their 24 bytes.
use Prim.Native.Nat.{ℕ, ◌+◌, ◌*◌, ◌<◌}
use mathlib.Core.Path.{◌≡◌, ◌∙◌}
use mathlib.Core.Bool.{true, false, not, ◌||◌}
use mathlib.Core.List.{List}
use native.Mathlib.Omega.{arith}
use borrow.Author.Tests.{eq-eqb, ne_eqb, eqb-true, not-false}
use lib.Dec.{eqb, lit<}
use lib.ListN.{length, take, drop}
use lib.Seq.{get_or-take, get_or-drop}
use Rattle.image.specs.Bits.{bits, bit}
use Rattle.image.specs.Memory.{word_at}
use Rattle.image.proofs.Bytes.{AreBytes, bytes-taken, bytes_below, from_byte, in-byte}
use Rattle.image.proofs.Fields.{whole}
use Rattle.image.proofs.Pages.{drop-take}
use Rattle.image.proofs.Words.{word_or0, whole_word}
use Rattle.faults.proofs.Recording.{neither}
use Rattle.registers.specs.declared.Registers.{Registers}
use Rattle.packing.specs.Buffer.{byte, bytes}
use Rattle.packing.specs.Registers.{malformed_registers, unpacked}

module _ (b : List ℕ) (are : AreBytes b) (sized : length b ≡ 24) where
  -- a field within one of the first word's bytes
  in_head : (n high low : ℕ) → n < 8 → high < 8 → bits (word_or0 b 0) (8 * n + high) (8 * n + low) ≡ bits (byte b n) high low
  unfolding word_at
  in_head n high low inner h =
      rw (whole_word b 0 (omega arith), in-byte n (take 8 b) (bytes-taken 8 b are) high low h, get_or-take 8 b n 0 inner)

  byte-of-head : (n : ℕ) → n < 8 → bits (word_or0 b 0) (8 * n + 7) (8 * n + 0) ≡ byte b n
  byte-of-head n inner = in_head n 7 0 inner (lit< tt) ∙ whole (byte b n) 7 (are n)

  zero-bytes : bits (word_or0 b 0) 63 40 ≡ bytes b 7 5
  unfolding word_at
  zero-bytes =
      rw (whole_word b 0 (omega arith), from_byte 5 (take 8 b) (bytes-taken 8 b are) 23 0, drop-take 5 3 b)
      (whole (bytes b 7 5) 23 (bytes_below 3 (drop 5 b) (λ i. rw get_or-drop (are (5 + i)))))

  pub told-malformed :
      (not (eqb (bits (word_or0 b 0) 23 22) 0) || not (eqb (bits (word_or0 b 0) 31 28) 0)) || not (eqb (bits (word_or0 b 0) 63 40) 0)
      ≡ malformed_registers b
  unfolding malformed_registers
  told-malformed =
      rw (eq-eqb (length b) 24 sized, in_head 2 7 6 (lit< tt) (lit< tt), in_head 3 7 4 (lit< tt) (lit< tt), zero-bytes)

  -- field by field
  pub first-set : (bits (word_or0 b 0) 23 22 ≡ 0 → ⊥) → true ≡ malformed_registers b
  first-set h = rw (ne_eqb (bits (word_or0 b 0) 23 22) 0 h) at told-malformed

  pub second-set : bits (word_or0 b 0) 23 22 ≡ 0 → (bits (word_or0 b 0) 31 28 ≡ 0 → ⊥) → true ≡ malformed_registers b
  second-set e h = rw (eq-eqb (bits (word_or0 b 0) 23 22) 0 e, ne_eqb (bits (word_or0 b 0) 31 28) 0 h) at told-malformed

  pub third-tells : bits (word_or0 b 0) 23 22 ≡ 0 → bits (word_or0 b 0) 31 28 ≡ 0 → not (eqb (bits (word_or0 b 0) 63 40) 0) ≡ malformed_registers b
  third-tells e f = rw (eq-eqb (bits (word_or0 b 0) 23 22) 0 e, eq-eqb (bits (word_or0 b 0) 31 28) 0 f) at told-malformed

  pub told-unpacked :
      ◌≡◌ {A = Registers}
      (record {
        haw = bits (word_or0 b 0) 7 0;
        mgaw = bits (word_or0 b 0) 15 8;
        levels3 = bit (word_or0 b 0) 16;
        levels4 = bit (word_or0 b 0) 17;
        levels5 = bit (word_or0 b 0) 18;
        pages_2m = bit (word_or0 b 0) 19;
        pages_1g = bit (word_or0 b 0) 20;
        posting = bit (word_or0 b 0) 21;
        root_table = word_or0 b 8;
        interrupt_table = word_or0 b 16;
        s = bits (word_or0 b 0) 39 32;
        te = bit (word_or0 b 0) 24;
        ire = bit (word_or0 b 0) 25;
        eime = bit (word_or0 b 0) 26;
        cfis = bit (word_or0 b 0) 27;
      })
      (unpacked b)
  unfolding unpacked word_at
  told-unpacked =
      rw (byte-of-head 0 (lit< tt), byte-of-head 1 (lit< tt), byte-of-head 4 (lit< tt), whole_word b 8 (omega arith), whole_word b 16 (omega arith), in_head 2 0 0 (lit< tt) (lit< tt), in_head 2 1 1 (lit< tt) (lit< tt), in_head 2 2 2 (lit< tt) (lit< tt), in_head 2 3 3 (lit< tt) (lit< tt), in_head 2 4 4 (lit< tt) (lit< tt), in_head 2 5 5 (lit< tt) (lit< tt), in_head 3 0 0 (lit< tt) (lit< tt), in_head 3 1 1 (lit< tt) (lit< tt), in_head 3 2 2 (lit< tt) (lit< tt), in_head 3 3 3 (lit< tt) (lit< tt))

pub registers-length : (b : List ℕ) → malformed_registers b ≡ false → length b ≡ 24
unfolding malformed_registers
registers-length b h =
    let sized = (neither _ _ (neither _ _ (neither _ _ h).0).0).0 in
    eqb-true (length b) 24 (not-false _ sized)
