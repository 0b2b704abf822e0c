-- What an entry's check says: stop with a fault reason, or go on with what the entry carries.
use Rattle.std.specs.Prelude.{ℕ}

pub data Check (A : Type 0) : Type 0 where
  stop : (reason : ℕ) → Check A
  go : A → Check A

abbrev pub on_check {ℓ} : {A : Type 0} {B : Type ℓ} → Check A → (ℕ → B) → (A → B) → B
on_check (stop reason) stopped gone = stopped reason
on_check (go a) stopped gone = gone a
