-- A translation is settled by the words that it named: a leaf stays while they do.
use Prim.Native.Nat.{ℕ, ◌≤◌}
use mathlib.Core.Bool.{Bool}
use mathlib.Core.Path.{◌≡◌, refl, ap, sym, ◌∙◌}
use mathlib.Core.List.{List, [], ◌∷◌}
use native.Mathlib.Omega.{arith}
use native.Mathlib.Decide.{ℕ_discrete}
use Rattle.image.specs.EntryKind.{EntryKind}
use Rattle.image.specs.Memory.{Memory, Fetched, missing, found}
use Rattle.image.specs.Rules.{run, named, SameIn}
use Rattle.image.proofs.Forks.{Every, every-answer, every_more, every-outside}
use Rattle.image.proofs.Local.{local}
use Rattle.image.proofs.Trees.{Outside, met}
use Rattle.registers.specs.Admission.{taken_up, admission}
use Rattle.registers.specs.declared.Registers.{Registers}
use Rattle.registers.proofs.Good.{taken-good}
use Rattle.dma.specs.Translation.{Translation, through, leaf, fault, page_step, width_rules, translation_rules}
use Rattle.dma.proofs.Cases.{width-cases}
use Rattle.dma.proofs.Lookups.{every-lookup}
use Rattle.dma.proofs.Walks.{every-walk}

abbrev NoLeaf : Translation → Type 0
NoLeaf through = Unit {0}
NoLeaf (leaf frame level) = ⊥
NoLeaf (fault reason fpd) = Unit {0}

-- an entry that can't be fetched is no page; of other answers nothing is asked
abbrev Fork : EntryKind → ℕ → Translation → Type 0
Fork kind at t = NoLeaf t

abbrev Ends : Translation → Type 0
Ends t = Unit {0}

module _ (registers : Registers) (address : ℕ) (write : Bool) (source : ℕ) where
  outside-leaf : Outside NoLeaf (translation_rules registers address write source)
  outside-leaf =
      every-outside Fork Ends NoLeaf (λ kind at t fork. fork) 9 (translation_rules registers address write source)
      (every-lookup Fork Ends 5 registers fault (width_rules registers address write) source tt (λ e table led. tt) (λ e reason told. tt)
      (λ e reason told. tt)
      (λ c good.
      width-cases (Every Fork Ends 5) registers address write c (every-answer Fork Ends 5 (fault 0x04 c.fpd) tt)
      (every-answer Fork Ends 5 through tt)
      (every_more Fork Ends c.levels 5 _ good.1
      (every-walk address (λ s. fault 0x07 c.fpd) (page_step registers address write c.fpd) Fork Ends (λ level table. Unit {0}) 5
      (λ table s here. tt) (λ n table s here. tt) (λ n place s e t few told. tt) (λ n place s e next t told. tt) c.levels c.top tt good.1
      tt))))

  pub leaf-kept : (m m' : Memory) (frame level : ℕ) → run (translation_rules registers address write source) m ≡ leaf frame level
      → SameIn (named (translation_rules registers address write source) m) m m'
      → run (translation_rules registers address write source) m' ≡ leaf frame level
  leaf-kept m m' frame level was same =
      sym (local (translation_rules registers address write source) m m'
      (met NoLeaf (translation_rules registers address write source) m outside-leaf (λ none. rw was at none)) same) ∙ was

-- registers of a request that is taken up are good
pub taken-wide : (registers : Registers) (wrong on : Bool) → admission registers wrong on ≡ taken_up → 39 ≤ registers.mgaw
taken-wide registers wrong on h = (taken-good registers wrong on (sym h)).mgaw.least

-- words that stay the same
pub same_refl : (words : List ℕ) (m : Memory) → SameIn words m m
unfolding SameIn
same_refl [] m = tt
same_refl (a ∷ words) m = (refl, same_refl words m)

pub same-trans : (words : List ℕ) (m m' m'' : Memory) → SameIn words m m' → SameIn words m' m'' → SameIn words m m''
unfolding SameIn
same-trans [] m m' m'' h h' = tt
same-trans (a ∷ words) m m' m'' h h' = (h.0 ∙ h'.0, same-trans words m m' m'' h.1 h'.1)

same-fetched : (f f' : Fetched) → Dec (f ≡ f')
same-fetched missing missing = yes refl
same-fetched missing (found e) = no (λ h. let z : ◌≡◌ {A = ℕ} 0 1 = cc in omega arith)
same-fetched (found e) missing = no (λ h. let z : ◌≡◌ {A = ℕ} 0 1 = cc in omega arith)
same-fetched (found e) (found e') = on (ℕ_discrete e e')
  where
    on : Dec (e ≡ e') → Dec (found e ≡ found e')
    on (yes h) = yes (ap found h)
    on (no h) = no (λ same. h (cc))

-- whether an edit changed one of these words
pub same-words : (words : List ℕ) (m m' : Memory) → Dec (SameIn words m m')
unfolding SameIn
same-words [] m m' = yes tt
same-words (a ∷ words) m m' = on (same-fetched (m a) (m' a)) (same-words words m m')
  where
    on : Dec (m a ≡ m' a) → Dec (SameIn words m m') → Dec ((m a ≡ m' a) × SameIn words m m')
    on (yes h) (yes r) = yes (h, r)
    on (yes h) (no r) = no (λ both. r both.1)
    on (no h) r = no (λ both. h both.0)
