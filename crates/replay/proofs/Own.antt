-- Nothing is named of the unit's own answers.
use Prim.Native.Nat.{ℕ, suc, ◌*◌, ◌^◌, ◌≤◌}
use mathlib.Core.Bool.{true}
use mathlib.Core.List.{List, [], ◌∷◌}
use mathlib.Core.Path.{◌≡◌, refl, ap, sym, ◌∙◌, subst}
use lib.ListN.{length}
use Rattle.registers.specs.declared.Registers.{Registers}
use Rattle.traced.specs.Well.{well_traced}
use Rattle.traced.proofs.Back.{entry-back}
use Rattle.trace.specs.Written.{Entries, placed}
use Rattle.trace.proofs.RoundTrip.{read_back}
use Rattle.answered.proofs.Entries.{entries-well}
use Rattle.replay.specs.Again.{again, left_by}
use Rattle.replay.specs.Replayed.{replayed}
use Rattle.replay.specs.Claims.{Request, memory, translation, interrupt, traced_of, image_after, recorded, AllFit, NoneOfItsOwn}
use Rattle.replay.proofs.Asked.{memory-again, memory-left, translation-again, translation-left, interrupt-again, interrupt-left}
use Rattle.replay.proofs.Sames.{same_self}

module _ (registers : Registers) (windows : List ℕ) where
  own-again : (image : List ℕ) (q : Request) → again registers windows image (traced_of registers windows image q) ≡ traced_of registers windows image q
  own-again image (memory q) = memory-again registers windows image registers windows image q
  own-again image (translation q) = translation-again registers windows image registers windows image q
  own-again image (interrupt q) = interrupt-again registers windows image registers windows image q

  own-left : (image : List ℕ) (q : Request) → left_by registers windows image (traced_of registers windows image q) ≡ image_after registers windows image q
  own-left image (memory q) = memory-left registers windows image registers windows image q
  own-left image (translation q) = translation-left registers windows image registers windows image q
  own-left image (interrupt q) = interrupt-left registers windows image registers windows image q

  own-well : (image : List ℕ) (q : Request) → well_traced (traced_of registers windows image q) ≡ true
  own-well image (memory q) = entries-well.memory registers windows image q
  own-well image (translation q) = entries-well.translations registers windows image q
  own-well image (interrupt q) = entries-well.interrupts registers windows image q

  own-entries : (image : List ℕ) (qs : List Request) → AllFit (recorded registers windows image qs) → Entries (recorded registers windows image qs)
  unfolding recorded AllFit Entries
  own-entries image [] fit = tt
  own-entries image (q ∷ qs) fit = ((own-well image q, fit.0), own-entries (image_after registers windows image q) qs fit.1)

  own-length : (image : List ℕ) (qs : List Request) → length (recorded registers windows image qs) ≡ length qs
  unfolding recorded
  own-length image [] = refl
  own-length image (q ∷ qs) = ap suc (own-length (image_after registers windows image q) qs)

  own-unnamed : (n : ℕ) (image : List ℕ) (qs : List Request) → AllFit (recorded registers windows image qs)
      → replayed registers windows image (placed n (recorded registers windows image qs)) ≡ []
  unfolding recorded AllFit placed replayed
  own-unnamed n image [] fit = refl
  own-unnamed n image (q ∷ qs) fit =
      let e = traced_of registers windows image q in
      rw (entry-back e fit.0, own-again image q, same_self e, own-left image q) (own-unnamed (suc n) (image_after registers windows image q) qs fit.1)

pub none-of-its-own : NoneOfItsOwn
none-of-its-own registers windows image qs fit few =
    ap (replayed registers windows image)
    (read_back (recorded registers windows image qs) (own-entries registers windows image qs fit)
    (subst (λ (n : ℕ). n ≤ 15 * 2 ^ 48) (sym (own-length registers windows image qs)) few))
    ∙ own-unnamed registers windows 0 image qs fit
