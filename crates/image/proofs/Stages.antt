-- Laws of a stage: what it answers once its entry is known, and what holds of it whatever the entry is.
use Rattle.std.proofs.Common.{◌≡◌, ℕ, refl, ap}
use Rattle.image.specs.Check.{Check, stop, go, on_check}
use Rattle.image.specs.EntryKind.{EntryKind, words_of}
use Rattle.image.specs.Memory.{Memory, Fetched, missing, found, entry, on_fetch}
use Rattle.image.specs.Rules.{Rules, answer, run}
use Rattle.image.specs.Stage.{stage}

-- rules that only answer
pub only : {A B : Type 0} (m : Memory) (k : Check B) (stopped : ℕ → A) (gone : B → A)
    → on_check k stopped gone ≡ run (on_check k (λ reason. answer (stopped reason)) (λ b. answer (gone b))) m
unfolding run
only m (stop reason) stopped gone = refl
only m (go b) stopped gone = refl

-- a check stops with an answer, or goes on
pub check-cases : {A B : Type 0} (P : Rules A → Type 0) (k : Check B) (stopped : ℕ → A) (next : B → Rules A)
    → ((reason : ℕ) → k ≡ stop reason → P (answer (stopped reason))) → ((b : B) → k ≡ go b → P (next b))
    → P (on_check k (λ reason. answer (stopped reason)) next)
check-cases P (stop reason) stopped next ended gone = ended reason refl
check-cases P (go b) stopped next ended gone = gone b refl

module _ {A B : Type 0} (kind : EntryKind) (at : ℕ) (absent : A) (check : ℕ → Check B) (stopped : ℕ → ℕ → A) (next : B → Rules A) where
  abbrev this : Rules A
  this = stage kind at absent check stopped next

  -- what follows an entry's fetch
  abbrev pub after : ℕ → Rules A
  after e = on_check (check e) (λ reason. answer (stopped e reason)) next

  -- over a memory, by what the code's fetch and check said
  module _ (m : Memory) where
    pub unfetched : missing ≡ entry (words_of kind) m at → absent ≡ run this m
    unfolding run
    unfetched h = rw (← h)

    pub checked : {e : ℕ} → found e ≡ entry (words_of kind) m at → {q : Rules A} → q ≡ after e → run q m ≡ run this m
    unfolding run
    checked {e} h told = rw (← h) (ap (λ (q : Rules A). run q m) told)

  -- what holds of each answer over a memory holds of the answer
  pub run-cases : (m : Memory) (P : A → Type 0) → P absent
      → ((e reason : ℕ) → entry (words_of kind) m at ≡ found e → check e ≡ stop reason → P (stopped e reason))
      → ((e : ℕ) (b : B) → entry (words_of kind) m at ≡ found e → check e ≡ go b → P (run (next b) m)) → P (run this m)
  unfolding run
  run-cases m P none ended gone = by (entry (words_of kind) m at) refl
    where
      by : (f : Fetched) → entry (words_of kind) m at ≡ f → P (on_fetch f absent (λ e. run (after e) m))
      by missing h = none
      by (found e) h = check-cases (λ q. P (run q m)) (check e) (stopped e) next (λ reason. ended e reason h) (λ b. gone e b h)
