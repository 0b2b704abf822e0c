-- A build writes in the region alone.
use Prim.Native.Nat.{ℕ, ◌+◌, ◌*◌, ◌/◌, ◌≤◌, ◌<◌}
use mathlib.Core.Path.{◌≡◌, refl, ap, ◌∙◌}
use mathlib.Core.List.{List}
use mathlib.Core.Logic.{◌⊎◌, inl, inr}
use native.Mathlib.Decide.{dec_le}
use native.Mathlib.Omega.{arith}
use lib.ListN.{length, get_or}
use Rattle.image.specs.Windows.{byte_at, of_windows}
use Rattle.registers.specs.declared.Registers.{Registers}
use Rattle.interrupts.specs.Claims.{Shows}
use Rattle.tables.specs.Tables.{tables}
use Rattle.tables.specs.declared.Tree.{Tree}
use Rattle.builder.specs.Build.{Built, all_taken, LentBuffers}
use Rattle.leaves.proofs.Entries.{length-stored}
use Rattle.built.specs.Inside.{InRegion, BuildsInside, RefusalLeaves}
use Rattle.built.proofs.Builds.{Completed, copy_of, marked_of, end_of, after_of, build-cases}
use Rattle.built.proofs.Copies.{length-in, length-out, run_out, host-out}
use Rattle.built.proofs.Items.{items_keep}

module _ (registers : Registers) (source start size : ℕ) (windows items : List ℕ) (l : LentBuffers) (tree : Tree)
    (c : Completed registers source start size windows items l tree) where
  -- the copy has the region's length, before and after
  pub copy-length : length (copy_of registers source start size windows items l tree) ≡ size
  copy-length = length-in (of_windows windows l.memory) tree.start (length l.copy / 8) 0 l.copy ∙ c.ready.copy-size

  pub end-length : length (end_of registers source start size windows items l tree).1.bytes ≡ size
  end-length =
      items_keep (λ bytes. length bytes ≡ size) (λ bytes at word is. length-stored bytes at word ∙ is) registers tree items (length items / 4) 0
      (tables (copy_of registers source start size windows items l tree) (marked_of registers source start size windows items l tree).1) copy-length

  pub starts : tree.start ≡ start
  starts = ap (λ (t : Tree). t.start) c.ready.is

  after-host : (at : ℕ) → (InRegion start size at → ⊥)
      → byte_at windows (after_of registers source start size windows items l tree) at ≡ byte_at windows l.memory at
  after-host at out =
      host-out windows (end_of registers source start size windows items l tree).1.bytes tree.start
      (length (end_of registers source start size windows items l tree).1.bytes / 8) 0 l.memory c.ready.good at (side (dec_le start at))
    where
      side : Dec (start ≤ at) → (at < tree.start + 0) ⊎ (tree.start + 0 + 8 * (length (end_of registers source start size windows items l tree).1.bytes / 8) ≤ at)
      side (no low) = inl (omega (arith, starts))
      side (yes low) = inr (past (dec_le (start + size) at))
        where
          past : Dec (start + size ≤ at) → tree.start + 0 + 8 * (length (end_of registers source start size windows items l tree).1.bytes / 8) ≤ at
          past (yes high) = omega (arith, starts, end-length)
          past (no high) = absurd (out (low, omega arith))

  after_run : (place : ℕ) → ((at : ℕ) → Shows windows at place → ⊥)
      → get_or (after_of registers source start size windows items l tree) place 0 ≡ get_or l.memory place 0
  after_run place never =
      run_out windows (end_of registers source start size windows items l tree).1.bytes tree.start
      (length (end_of registers source start size windows items l tree).1.bytes / 8) 0 l.memory c.ready.good place (λ a low high. never a)

  pub after-length : length (after_of registers source start size windows items l tree) ≡ length l.memory
  after-length =
      length-out windows (end_of registers source start size windows items l tree).1.bytes tree.start
      (length (end_of registers source start size windows items l tree).1.bytes / 8) 0 l.memory

pub builds-inside : BuildsInside
builds-inside registers source start size windows items l =
    build-cases registers source start size windows items l
    (λ (end : Built × LentBuffers).
    (length end.1.memory ≡ length l.memory)
    × ((at : ℕ) → (InRegion start size at → ⊥) → byte_at windows end.1.memory at ≡ byte_at windows l.memory at)
    × ((place : ℕ) → ((at : ℕ) → Shows windows at place → ⊥) → get_or end.1.memory place 0 ≡ get_or l.memory place 0))
    (λ x copy marks other. (refl, (λ at out. refl), λ place never. refl))
    (λ tree copy marks c.
    (after-length registers source start size windows items l tree c, after-host registers source start size windows items l tree c, after_run registers source start size windows items l tree c))

pub refusal-leaves : RefusalLeaves
refusal-leaves registers source start size windows items l =
    build-cases registers source start size windows items l (λ (end : Built × LentBuffers). (end.0 ≡ all_taken → ⊥) → end.1.memory ≡ l.memory)
    (λ x copy marks other never. refl) (λ tree copy marks c never. absurd (never refl))
