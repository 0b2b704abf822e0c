-- The walk by levels with a way to its entries: an entry's address may be one that has to be translated itself before the entry is fetched.
-- Where it stands is found by rules of their own, which are a parameter, as is the format of the entries.
use Rattle.std.specs.Prelude.{ℕ, zero, suc}
use Rattle.image.specs.EntryKind.{EntryKind}
use Rattle.image.specs.Rules.{Rules, answer, fetch}
use Rattle.dma.specs.Walk.{Step, on_step, place_in}
use Rattle.nested.specs.Then.{then_rules}

-- an entry's host address, and what is handed on to it; or the walk ends on the way
pub data Located (S A : Type 0) : Type 0 where
  located : (place : ℕ) → S → Located S A
  lost : A → Located S A

abbrev pub on_located {ℓ} : {S A : Type 0} {B : Type ℓ} → Located S A → (A → B) → (ℕ → S → B) → B
on_located (located place s) ended there = there place s
on_located (lost a) ended there = ended a

module _ {S A : Type 0} (kind : EntryKind) (address : ℕ) (locate : S → (place : ℕ) → Rules (Located S A)) (missing : S → A)
    (step : (level place : ℕ) → S → (e : ℕ) → Step S A) where
  -- the entry at a host address, then the levels below it
  abbrev pub entry_rules : (level : ℕ) → ((table : ℕ) → S → Rules A) → (place : ℕ) → S → Rules A
  entry_rules level below place s = fetch kind place (missing s) (λ e. on_step (step level place s e) answer below)

  -- an entry on the way that can't be fetched ends the walk
  abbrev pub ended : Located S A → A
  ended l = on_located l (λ a. a) (λ place s. missing s)

  -- a step at level 1 ends the walk: below it there is no table
  unfoldable pub way_rules : (level table : ℕ) → S → Rules A
  way_rules zero table s = answer (missing s)
  way_rules (suc n) table s =
      then_rules ended (λ l. on_located l answer (entry_rules (suc n) (way_rules n))) (locate s (place_in address table n))
