-- Exactly the entries whose answer differs are named.
use mathlib.Core.Bool.{true}
use mathlib.Core.List.{List, [], ◌∷◌, ◌++◌, append_assoc}
use mathlib.Core.Path.{◌≡◌, refl, ap, sym, ◌∙◌}
use Rattle.image.specs.Place.{Place}
use Rattle.traced.specs.Entry.{traced_in}
use Rattle.traced.specs.declared.Traced.{Traced}
use Rattle.trace.specs.Told as trace
use Rattle.answered.specs.Claims.{memory_entry, translation_entry, interrupt_entry}
use Rattle.answered.specs.Told.{memory_outcome_in, translation_outcome_in, interrupt_outcome_in, concerned_in}
use Rattle.answered.proofs.Entries.{entries-tell}
use Rattle.replay.specs.Again.{left_by, same}
use Rattle.replay.specs.Replayed.{Named, damaged_at, named_at, replayed, left_after}
use Rattle.replay.specs.Claims.{ReplayedInOrder, NamedExactly}
use Rattle.replay.proofs.Asked.{memory-again, translation-again, interrupt-again}
use Rattle.replay.proofs.Sames.{same_self, same-one}

-- an entry that tells an outcome and a place, beside the one of the answer now, which tells another
module _ {A : Type 0} (e e' : Traced) (outcome_in : Traced → A) {o o' : A} {p p' : Place} (told : outcome_in e ≡ o) (told' : outcome_in e' ≡ o')
    (placed : concerned_in e ≡ p) (placed' : concerned_in e' ≡ p') {a : Traced} (asked : a ≡ e') where
  alike : same e a ≡ true → (o' ≡ o) × (p' ≡ p)
  alike h =
      let one : e ≡ e' = same-one e a h ∙ asked in
      (sym told' ∙ ap outcome_in (sym one) ∙ told, sym placed' ∙ ap concerned_in (sym one) ∙ placed)

  unnamed : e' ≡ e → same e a ≡ true
  unnamed one = rw (asked, one) (same_self e)

pub named-exactly : NamedExactly
unfolding memory_entry translation_entry interrupt_entry
named-exactly =
    record {
      memory = λ then now windows bytes windows' bytes' q.
          let t = entries-tell.memory then windows bytes q in
          let t' = entries-tell.memory now windows' bytes' q in
          let e = memory_entry then windows bytes q in
          let e' = memory_entry now windows' bytes' q in (
            alike e e' memory_outcome_in t.1 t'.1 t.2 t'.2 (memory-again then windows bytes now windows' bytes' q),
            λ h. unnamed e e' memory_outcome_in t.1 t'.1 t.2 t'.2 (memory-again then windows bytes now windows' bytes' q) (rw (h.0, h.1)),
          );
      translations = λ then now windows bytes windows' bytes' q.
          let t = entries-tell.translations then windows bytes q in
          let t' = entries-tell.translations now windows' bytes' q in
          let e = translation_entry then windows bytes q in
          let e' = translation_entry now windows' bytes' q in (
            alike e e' translation_outcome_in t.1 t'.1 t.2 t'.2 (translation-again then windows bytes now windows' bytes' q),
            λ h. unnamed e e' translation_outcome_in t.1 t'.1 t.2 t'.2 (translation-again then windows bytes now windows' bytes' q) (rw (h.0, h.1)),
          );
      interrupts = λ then now windows bytes windows' bytes' q.
          let t = entries-tell.interrupts then windows bytes q in
          let t' = entries-tell.interrupts now windows' bytes' q in
          let e = interrupt_entry then windows bytes q in
          let e' = interrupt_entry now windows' bytes' q in (
            alike e e' interrupt_outcome_in t.1 t'.1 t.2 t'.2 (interrupt-again then windows bytes now windows' bytes' q),
            λ h. unnamed e e' interrupt_outcome_in t.1 t'.1 t.2 t'.2 (interrupt-again then windows bytes now windows' bytes' q) (rw (h.0, h.1)),
          );
    }

pub replayed-in-order : ReplayedInOrder
unfolding replayed left_after
replayed-in-order registers windows image [] rest = refl
replayed-in-order registers windows image (trace.traced_at block index bytes ∷ front) rest =
    ap (λ (l : List Named). named_at registers windows image block index (traced_in bytes) ++ l)
    (replayed-in-order registers windows (left_by registers windows image (traced_in bytes)) front rest)
    ∙ sym (append_assoc (named_at registers windows image block index (traced_in bytes)) (replayed registers windows (left_by registers windows image (traced_in bytes)) front) _)
replayed-in-order registers windows image (trace.damaged_at block ∷ front) rest =
    ap (λ (l : List Named). damaged_at block ∷ l) (replayed-in-order registers windows image front rest)
