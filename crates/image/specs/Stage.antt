-- One stage of a request: an entry is fetched and checked, and the rules go on with what it carries. The first of the two that
-- fails ends the request.
use Rattle.std.specs.Prelude.{ℕ}
use Rattle.image.specs.Check.{Check, on_check}
use Rattle.image.specs.EntryKind.{EntryKind}
use Rattle.image.specs.Rules.{Rules, answer, fetch}

-- an entry of a kind at an address; what an entry that can't be fetched is answered, its check, and what one that the check stops is
-- answered, which may depend on the entry (FPD is read from it)
abbrev pub stage : {A B : Type 0} → (kind : EntryKind) (at : ℕ) → A → ((e : ℕ) → Check B) → ((e reason : ℕ) → A) → (B → Rules A) → Rules A
stage kind at absent check stopped next =
    fetch kind at absent (λ e. on_check (check e) (λ reason. answer (stopped e reason)) next)
