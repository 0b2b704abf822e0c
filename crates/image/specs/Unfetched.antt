-- An entry that the rules read and couldn't fetch.
use Rattle.std.specs.Prelude.{◌≡◌, ℕ, List, [], ◌∷◌}
use Rattle.image.specs.EntryKind.{words_of}
use Rattle.image.specs.Memory.{Memory, missing, entry, on_fetch}
use Rattle.image.specs.Rules.{Rules, answer, fetch}

-- the entries, each by its number of words and its address, that the rules read over a memory and couldn't fetch: none, or the one
-- that ended the request
unfoldable pub unfetched : {A : Type 0} → Rules A → Memory → List (ℕ × ℕ)
unfetched (answer a) m = []
unfetched (fetch kind at outside next) m =
    on_fetch (entry (words_of kind) m at) ((words_of kind, at) ∷ []) (λ e. unfetched (next e) m)

-- the rules ended with an entry that isn't whole in the memory
pub record EndsUnfetched {A : Type 0} (q : Rules A) (m : Memory) : Type 0 where
  pub words : ℕ
  pub at : ℕ
  pub read : unfetched q m ≡ (words, at) ∷ []
  pub absent : entry words m at ≡ missing
