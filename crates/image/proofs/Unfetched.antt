-- Rules whose answers to fetched entries are of no such kind answer so where an entry couldn't be fetched.
use Rattle.std.proofs.Common.{◌≡◌, ℕ, ◌-◌, refl}
use Rattle.image.specs.EntryKind.{EntryKind, words_of}
use Rattle.image.specs.Memory.{Memory, Fetched, missing, found, on_fetch, entry}
use Rattle.image.specs.Rules.{Rules, answer, fetch, run}
use Rattle.image.specs.Unfetched.{EndsUnfetched, unfetched}
use Rattle.image.proofs.Forks.{Every}

-- no answer is of this kind, but those to an entry that couldn't be fetched
unfoldable pub Inside : {A : Type 0} → (A → Type 0) → Rules A → Type 0
Inside Kind (answer a) = Kind a → ⊥
Inside Kind (fetch kind at outside next) = (e : ℕ) → Inside Kind (next e)

-- what follows from the law of every fork
pub every-inside : {A : Type 0} (Fork : EntryKind → ℕ → A → Type 0) (Ends Kind : A → Type 0) → ((a : A) → Ends a → Kind a → ⊥)
    → (most : ℕ) (q : Rules A) → Every Fork Ends most q → Inside Kind q
unfolding Every Inside
every-inside Fork Ends Kind so most (answer a) is = so a is
every-inside Fork Ends Kind so most (fetch kind at outside next) is = λ e. every-inside Fork Ends Kind so (most - words_of kind) (next e) (is.2 e)

pub ends-unfetched : {A : Type 0} (Kind : A → Type 0) (m : Memory) (q : Rules A) → Inside Kind q → Kind (run q m) → EndsUnfetched q m
unfolding Inside run unfetched
ends-unfetched Kind m (answer a) h is = absurd (h is)
ends-unfetched {A} Kind m (fetch kind at outside next) h is =
    go (entry (words_of kind) m at) refl is (λ e. ends-unfetched Kind m (next e) (h e))
  where
    go : (f : Fetched) → entry (words_of kind) m at ≡ f → Kind (on_fetch f outside (λ e. run (next e) m))
        → ((e : ℕ) → Kind (run (next e) m) → EndsUnfetched (next e) m) → EndsUnfetched (fetch kind at outside next) m
    go missing told is ih = record { words = words_of kind; at = at; read = rw told; absent = told }
    go (found e) told is ih =
        let u = ih e is in
        record { words = u.words; at = u.at; read = rw told u.read; absent = u.absent }
