-- A page entry with rights switched on goes on where it went on before, to the same frame; so does a whole walk.
use Prim.Native.Nat.{ℕ, ◌+◌, ◌-◌, ◌*◌, ◌/◌, ◌%◌, ◌^◌, ◌≤◌}
use mathlib.Core.Bool.{Bool, true, false, not}
use mathlib.Core.Path.{◌≡◌, refl, ap, sym, ◌∙◌}
use native.Mathlib.Omega.{arith}
use borrow.Author.Tests.{eq-eqb, ne_eqb, eqb-true, not-false}
use lib.Pow.{shr-shr}
use Rattle.image.specs.Bits.{bits, any_set}
use Rattle.image.specs.Check.{Check, stop, go, on_check}
use Rattle.std.specs.Prelude.{if◌then◌else◌}
use Rattle.image.specs.Memory.{Memory, Fetched}
use Rattle.image.specs.Rules.{run}
use Rattle.image.proofs.Choices.{past}
use Rattle.registers.specs.declared.Registers.{Registers}
use Rattle.dma.specs.Isolation.{SwitchedEntry, BothFetched}
use Rattle.dma.specs.Page.{denied, own_right, leaf_at, page_reserved, page_check}
use Rattle.dma.specs.Translation.{Translation, through, leaf, fault, page_step, page_rules}
use Rattle.dma.specs.Walk.{done, down}
use Rattle.dma.proofs.Steps.{page-frame}
use Rattle.dma.proofs.Stepped.{leads-aligned}
use Rattle.dma.proofs.Walks.{KeptStep, kept-walk}

-- the same entry with rights switched on
abbrev pub Raised : ℕ → ℕ → Type 0
Raised = SwitchedEntry (λ before after. before ≤ after)

-- what is fetched with rights switched on: nothing where there was nothing
abbrev pub RaisedFetch : Fetched → Fetched → Type 0
RaisedFetch = BothFetched Raised

-- every bit from 2 up stays
pub same-field : (e e' : ℕ) → e' / 4 ≡ e / 4 → (high low : ℕ) → 2 ≤ low → bits e' high low ≡ bits e high low
unfolding bits
same-field e e' h high low two =
    let split : low ≡ 2 + (low - 2) = omega arith in
    let down : (x : ℕ) → x / 2 ^ low ≡ x / 4 / 2 ^ (low - 2) =
    λ x. ap (λ (k : ℕ). x / 2 ^ k) split ∙ sym (shr-shr x 2 (low - 2)) in
    rw (down e', down e, h)

pub same-leaf : {e e' : ℕ} → Raised e e' → (level : ℕ) → leaf_at level e' ≡ leaf_at level e
same-leaf {e} {e'} raised level = rw (same-field e e' raised.other-bits 7 7 (omega arith))

module _ (registers : Registers) (haw : 2 ≤ registers.haw) {e e' : ℕ} (raised : Raised e e') where
  same-reserved : (level : ℕ) → page_reserved registers level e' ≡ page_reserved registers level e
  unfolding page_reserved
  same-reserved level =
      let same = same-field e e' raised.other-bits in
      rw (same 51 registers.haw haw, same 7 7 (omega arith), same 29 12 (omega arith), same 20 12 (omega arith))

  kept-right : (write : Bool) → own_right write e ≡ true → (own_right write e' ≡ true) × (any_set e' 1 0 ≡ true)
  unfolding bits
  kept-right true h =
      let set : bits e 1 1 ≡ 1 = eqb-true _ _ h in
      let more = raised.write in
      (eq-eqb (bits e' 1 1) 1 (omega arith), ap not (ne_eqb (bits e' 1 0) 0 (λ z. omega arith)))
  kept-right false h =
      let set : bits e 0 0 ≡ 1 = eqb-true _ _ h in
      let more = raised.read in
      (eq-eqb (bits e' 0 0) 1 (omega arith), ap not (ne_eqb (bits e' 1 0) 0 (λ z. omega arith)))

  -- the check of the raised entry
  pub raised-check : (write : Bool) (level frame : ℕ) → page_check registers write level e ≡ go frame → page_check registers write level e' ≡ go frame
  unfolding page_check
  raised-check write level frame h =
      let h1 = past (not (any_set e 1 0)) (denied write) _ frame h in
      let h2 = past (page_reserved registers level e) 0x0C _ frame h1.1 in
      let h3 = past (not (own_right write e)) (denied write) _ frame h2.1 in
      let kept = kept-right write (not-false (own_right write e) h3.0) in
      rw (kept.1, same-reserved level, h2.0, kept.0)
      (ap go (ap (λ (n : ℕ). n * 4096) (same-field e e' raised.other-bits 51 12 (omega arith)) ∙ sym (page-frame registers write level e frame h)))

-- the page is reached, or the address passes through
abbrev pub Reaches : Translation → Type 0
Reaches through = Unit {0}
Reaches (leaf frame level) = Unit {0}
Reaches (fault reason fpd) = ⊥

module _ (registers : Registers) (haw : 2 ≤ registers.haw) (address : ℕ) (write fpd : Bool) where
  raised-step : (level place : ℕ) (s : Unit {0}) (e e' : ℕ) → Raised e e'
      → KeptStep Reaches (page_step registers address write fpd level place s e) (page_step registers address write fpd level place s e')
  raised-step level place s e e' up = on (page_check registers write level e) refl
    where
      by-leaf : (page : Bool) (frame : ℕ)
          → KeptStep Reaches (if page then done (leaf frame level) else down frame s) (if page then done (leaf frame level) else down frame tt)
      by-leaf true frame = λ _. refl
      by-leaf false frame = refl

      on : (k : Check ℕ) → page_check registers write level e ≡ k
          → KeptStep Reaches (on_check k (λ r. done (fault r fpd)) (λ frame. if leaf_at level e then done (leaf frame level) else down frame tt))
          (page_step registers address write fpd level place s e')
      on (stop reason) told = λ none. absurd none
      on (go frame) told =
          rw (raised-check registers haw up write level frame told, same-leaf up level) (by-leaf (leaf_at level e) frame)

  pub raised_walk : (m m' : Memory) → ((a : ℕ) → a % 8 ≡ 0 → RaisedFetch (m a) (m' a))
      → (level table : ℕ) (t : Translation) → Reaches t → table % 8 ≡ 0
      → run (page_rules registers address write fpd level table) m ≡ t
      → run (page_rules registers address write fpd level table) m' ≡ t
  raised_walk m m' raised level table =
      kept-walk address (λ s. fault 0x07 fpd) (page_step registers address write fpd) (leads-aligned registers address write fpd) Reaches Raised
      raised-step m m' raised level table tt
