-- Demand 3's claims on rights (crate rights) at the rows' memory: their premises can be met. Proved in proofs/Instances.antt.
use Rattle.std.specs.Prelude.{ℕ, List, [], ◌∷◌, ◌≡◌}
use Rattle.image.specs.Memory.{Memory}
use Rattle.dma.specs.Isolation.{SwitchedOn, SwitchedOff}
use Rattle.dma.specs.Requests.{granted}
use Rattle.scalable.specs.declared.ScalableRequest.{ScalableRequest}
use Rattle.rights.specs.Rights.{decided, walked_by_any, Apart}
use Rattle.scalable_cases.specs.Rows.{row_registers, row_words, by_words, read, write}

-- a nested read, which is granted, and a write that an entry without W blocks; both are walkers
abbrev pub reading : ScalableRequest
reading = read 0x12342 0x1ABC

abbrev pub writing : ScalableRequest
writing = write 0x12340 0x200000

abbrev pub walked_by_both : Memory → List ℕ
walked_by_both = walked_by_any row_registers (writing ∷ reading ∷ [])

pub record ScalablePremisesMet : Type 0 where
  -- W switched on in the entry that blocked the write
  pub on-apart : Apart row_registers (writing ∷ reading ∷ []) reading (by_words row_words)
  pub switched-on : SwitchedOn (walked_by_both (by_words row_words)) (by_words row_words) (by_words ((0x11008, 0x200083) ∷ row_words))
  pub was_granted : (decided row_registers reading (by_words row_words)).outcome ≡ granted 0x123ABC
  -- R and W switched off in the entry that maps the read's first-level tables
  pub off-apart : Apart row_registers (writing ∷ reading ∷ []) writing (by_words row_words)
  pub switched-off : SwitchedOff (walked_by_both (by_words row_words)) (by_words row_words) (by_words ((0x11000, 0x80) ∷ row_words))
  pub not-granted : (address : ℕ) → (decided row_registers writing (by_words row_words)).outcome ≡ granted address → ⊥
