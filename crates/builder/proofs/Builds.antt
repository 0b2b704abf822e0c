-- The builder's answers, one law for each return of its code.
use Rattle.std.proofs.Common.{◌≡◌, ◌≢◌, ℕ, ◌/◌, Bool, true, false, List, length, Err, refl, ap, sym, ◌∙◌}
use borrow.Author.Tests.{eq-eqb, ne_eqb}
use Rattle.image.specs.Windows.{of_windows}
use Rattle.registers.specs.declared.Registers.{Registers}
use Rattle.marking.specs.Marking.{mark_all}
use Rattle.region.specs.Copy.{copied_in, copied_out}
use Rattle.tables.specs.Tables.{tables}
use Rattle.tables.specs.declared.Tree.{Tree}
use Rattle.builder.specs.Answers.{readiness_of, unready}
use Rattle.builder.specs.Build.{all_taken, not_ready, at_item, lent, after_items, from_copy, when_ready, built}
use Rattle.builder.specs.Items.{Taken, take_items}
use Rattle.builder.specs.Ready.{ready, readiness}
use Rattle.builder.specs.declared.ready.Unready.{Unready}
use Rattle.builder.specs.declared.ready.Unready.TheVariants.{Refused, NotYet}

module _ (registers : Registers) (windows items memory copy marks : List ℕ) where
  -- tables that aren't ready
  unready_when : (why : Unready) → (unready why, lent memory copy marks) ≡ when_ready registers windows items memory copy marks (readiness_of (Err why))
  unready_when (Refused r) = refl
  unready_when (NotYet r) = refl

  module _ (source start size : ℕ) where
    pub unready_built : (why : Unready)
        → readiness_of (Err why) ≡ readiness registers windows memory start size (length copy) (length marks) source
        → (unready why, lent memory copy marks) ≡ built registers source start size windows items (lent memory copy marks)
    unfolding built
    unready_built why p = unready_when why ∙ ap (when_ready registers windows items memory copy marks) p

    pub ready_built : {tree : Tree} {copied : List ℕ} → readiness registers windows memory start size (length copy) (length marks) source ≡ ready tree
        → copied ≡ copied_in (of_windows windows memory) tree.start (length copy / 8) 0 copy
        → from_copy registers windows items memory tree copied marks ≡ built registers source start size windows items (lent memory copy marks)
    unfolding built
    ready_built {tree} p e =
        ap (λ (c : List ℕ). from_copy registers windows items memory tree c marks) e
        ∙ sym (ap (when_ready registers windows items memory copy marks) p)

module _ (registers : Registers) (windows items memory copy marks : List ℕ) (tree : Tree) {b : Bool} {marked : List ℕ}
    (told : (b, marked) ≡ mark_all copy tree (length marks)) where
  pub not_marked : b ≡ false
      → (not_ready 4, lent memory copy marked) ≡ from_copy registers windows items memory tree copy marks
  not_marked h = rw (← told, h)

  module _ (good : b ≡ true) (end : Taken) {changed remarked : List ℕ}
      (took : (end, tables changed remarked) ≡ take_items registers tree items (length items / 4) 0 (tables copy marked)) where
    taken_in : after_items registers windows items memory tree (end, tables changed remarked)
        ≡ from_copy registers windows items memory tree copy marks
    taken_in = rw (← told, good, ← took)

    pub stopped_at : end.reason ≢ 0
        → (at_item end.index end.reason, lent memory changed remarked) ≡ from_copy registers windows items memory tree copy marks
    stopped_at h = sym (rw (ne_eqb end.reason 0 h) refl) ∙ taken_in

    pub finished : end.reason ≡ 0 → {after : List ℕ} → after ≡ copied_out windows changed tree.start (length changed / 8) 0 memory
        → (all_taken, lent after changed remarked) ≡ from_copy registers windows items memory tree copy marks
    finished h e =
        ap (λ (m : List ℕ). (all_taken, lent m changed remarked)) e
        ∙ sym (when h)
        ∙ taken_in
      where
        when : end.reason ≡ 0 → after_items registers windows items memory tree (end, tables changed remarked)
            ≡ (all_taken, lent (copied_out windows changed tree.start (length changed / 8) 0 memory) changed remarked)
        when z = rw (eq-eqb end.reason 0 z)
