-- Two rules trees, the second of which goes on wherever the first does, as long as the entries of a walk that it is given are so related to
-- the first one's: their answers over two memories so related are too. Laws of rules that are made of others.
use Prim.Native.Nat.{ℕ, zero, suc, ◌+◌, ◌%◌}
use mathlib.Core.Bool.{Bool, true, false}
use mathlib.Core.List.Memᴰ
use mathlib.Core.List.{List, [], Memᴰ}
use mathlib.Core.Path.{◌≡◌, refl, sym, ◌∙◌}
use native.Mathlib.Omega.{arith}
use Rattle.std.specs.Prelude.{if◌then◌else◌}
use Rattle.image.specs.EntryKind.{EntryKind, root_entry, context_entry, page_entry, remapping_entry, posted_descriptor, scalable_context_entry, pasid_directory_entry, pasid_table_entry, first_level_entry, words_of}
use Rattle.image.specs.Memory.{Memory, Fetched, missing, found, join, entry, on_fetch}
use Rattle.image.specs.Rules.{Rules, answer, fetch, run, map_rules, words_from}
use Rattle.image.proofs.Same.{one_word}
use Rattle.dma.specs.Isolation.{BothFetched}
use Rattle.nested.specs.Then.{then_rules}
use Rattle.rights.specs.Tables.{is_walked, table_words}

-- entries of a walk are related, all others the same
abbrev pub Entries : (ℕ → ℕ → Type 0) → (walked : Bool) → ℕ → ℕ → Type 0
Entries Up true e e' = Up e e'
Entries Up false e e' = e ≡ e'

module _ (Up : ℕ → ℕ → Type 0) where
  -- the answers are kept, and where the first tree ends and the second goes on, the first one's answer is one that keeps all
  unfoldable pub Keeps : {A : Type 0} → (Kept : A → A → Type 0) → (Dead : A → Type 0) → Rules A → Rules A → Type 0
  Keeps Kept Dead (answer a) (answer b) = Kept a b
  Keeps Kept Dead (answer a) (fetch kind at outside next) = Dead a
  Keeps Kept Dead (fetch kind at outside next) (answer b) = ⊥
  Keeps Kept Dead (fetch kind at outside next) (fetch kind' at' outside' next') =
      (kind ≡ kind') × (at ≡ at') × (at % 8 ≡ 0) × Kept outside outside'
      × ((e e' : ℕ) → Entries Up (is_walked kind) e e' → Keeps Kept Dead (next e) (next' e'))

  module _ {A : Type 0} (Kept : A → A → Type 0) (Dead : A → Type 0) where
    pub keeps-answer : (a b : A) → Kept a b → Keeps Kept Dead (answer a) (answer b)
    unfolding Keeps
    keeps-answer a b h = h

    pub keeps-fetch : (kind : EntryKind) (at : ℕ) (a b : A) (next next' : ℕ → Rules A) → at % 8 ≡ 0 → Kept a b
        → ((e e' : ℕ) → Entries Up (is_walked kind) e e' → Keeps Kept Dead (next e) (next' e'))
        → Keeps Kept Dead (fetch kind at a next) (fetch kind at b next')
    unfolding Keeps
    keeps-fetch kind at a b next next' aligned out after = (refl, refl, aligned, out, after)

    -- an answer that keeps all is related to any rules
    pub keeps-dead : ((a b : A) → Dead a → Kept a b) → (a : A) → Dead a → (q : Rules A) → Keeps Kept Dead (answer a) q
    unfolding Keeps
    keeps-dead all a dead (answer b) = all a b dead
    keeps-dead all a dead (fetch kind at outside next) = dead

  -- answers told otherwise
  module _ {A B : Type 0} (Kept : A → A → Type 0) (Dead : A → Type 0) (Kept' : B → B → Type 0) (Dead' : B → Type 0) where
    pub keeps-map : (f g : A → B) → ((a b : A) → Kept a b → Kept' (f a) (g b)) → ((a : A) → Dead a → Dead' (f a))
        → (q q' : Rules A) → Keeps Kept Dead q q' → Keeps Kept' Dead' (map_rules f q) (map_rules g q')
    unfolding Keeps map_rules
    keeps-map f g told dead (answer a) (answer b) h = told a b h
    keeps-map f g told dead (answer a) (fetch kind at outside next) h = dead a h
    keeps-map f g told dead (fetch kind at outside next) (answer b) h = absurd h
    keeps-map f g told dead (fetch kind at outside next) (fetch kind' at' outside' next') h =
        (h.0, h.1, h.2, told outside outside' h.3, λ e e' up. keeps-map f g told dead (next e) (next' e') (h.4 e e' up))

    -- rules that go on with others
    pub keeps_then : (ends ends' : A → B) (after after' : A → Rules B) → ((a b : A) → Kept a b → Kept' (ends a) (ends' b))
        → ((a b : A) → Kept a b → Keeps Kept' Dead' (after a) (after' b))
        → ((a : A) → Dead a → (q : Rules B) → Keeps Kept' Dead' (after a) q)
        → (q q' : Rules A) → Keeps Kept Dead q q' → Keeps Kept' Dead' (then_rules ends after q) (then_rules ends' after' q')
    unfolding Keeps then_rules
    keeps_then ends ends' after after' told on dead (answer a) (answer b) h = on a b h
    keeps_then ends ends' after after' told on dead (answer a) (fetch kind at outside next) h = dead a h _
    keeps_then ends ends' after after' told on dead (fetch kind at outside next) (answer b) h = absurd h
    keeps_then ends ends' after after' told on dead (fetch kind at outside next) (fetch kind' at' outside' next') h =
        (h.0, h.1, h.2, told outside outside' h.3, λ e e' up. keeps_then ends ends' after after' told on dead (next e) (next' e') (h.4 e e' up))

-- an entry of a walk is one word
one : (kind : EntryKind) → is_walked kind ≡ true → words_of kind ≡ 1
one page_entry h = refl
one first_level_entry h = refl
one root_entry h = let z : ◌≡◌ {A = ℕ} 0 1 = cc in absurd (omega arith)
one context_entry h = let z : ◌≡◌ {A = ℕ} 0 1 = cc in absurd (omega arith)
one remapping_entry h = let z : ◌≡◌ {A = ℕ} 0 1 = cc in absurd (omega arith)
one posted_descriptor h = let z : ◌≡◌ {A = ℕ} 0 1 = cc in absurd (omega arith)
one scalable_context_entry h = let z : ◌≡◌ {A = ℕ} 0 1 = cc in absurd (omega arith)
one pasid_directory_entry h = let z : ◌≡◌ {A = ℕ} 0 1 = cc in absurd (omega arith)
one pasid_table_entry h = let z : ◌≡◌ {A = ℕ} 0 1 = cc in absurd (omega arith)

module _ (Up : ℕ → ℕ → Type 0) (m m' : Memory) (words : (n : ℕ) → n % 8 ≡ 0 → BothFetched Up (m n) (m' n)) where
  -- an entry is there in both or in neither
  entries : (n at : ℕ) → at % 8 ≡ 0 → BothFetched (λ e e'. Unit {0}) (entry n m at) (entry n m' at)
  unfolding entry
  entries zero at aligned = tt
  entries (suc n) at aligned = by (m at) (m' at) (entry n m (at + 8)) (entry n m' (at + 8)) (words at aligned) (entries n (at + 8) (omega arith))
    where
      by : (f f' g g' : Fetched) → BothFetched Up f f' → BothFetched (λ e e'. Unit {0}) g g' → BothFetched (λ e e'. Unit {0}) (join f g) (join f' g')
      by missing missing g g' first rest = tt
      by missing (found w') g g' first rest = absurd first
      by (found w) missing g g' first rest = absurd first
      by (found w) (found w') missing missing first rest = tt
      by (found w) (found w') missing (found x') first rest = absurd rest
      by (found w) (found w') (found x) missing first rest = absurd rest
      by (found w) (found w') (found x) (found x') first rest = tt

  -- and the same in both where all of its words are
  same-entry : (n at : ℕ) → at % 8 ≡ 0 → ((w : ℕ) → w % 8 ≡ 0 → Memᴰ w (words_from n at) → m w ≡ m' w) → entry n m at ≡ entry n m' at
  unfolding entry words_from
  same-entry zero at aligned same = refl
  same-entry (suc n) at aligned same =
      rw (same at aligned (Memᴰ.head refl), same-entry n (at + 8) (omega arith) (λ w ok is. same w ok (Memᴰ.tail is)))

  module _ {A : Type 0} (Kept : A → A → Type 0) (Dead : A → Type 0) (all : (a b : A) → Dead a → Kept a b) where
    -- the words of the tables that the first tree reads over the first memory, or the second over the second
    abbrev tables_of : (first : Bool) → Rules A → Rules A → List ℕ
    tables_of true q q' = table_words q m
    tables_of false q q' = table_words q' m'

    module _ (kind : EntryKind) (at : ℕ) (a b : A) (next next' : ℕ → Rules A) {e e' : ℕ}
        (here : entry (words_of kind) m at ≡ found e) (here' : entry (words_of kind) m' at ≡ found e') where
      own : (first : Bool) → is_walked kind ≡ false → (w : ℕ) → Memᴰ w (words_from (words_of kind) at)
          → Memᴰ w (tables_of first (fetch kind at a next) (fetch kind at b next'))
      unfolding table_words
      own true table w is = rw (here, table) (Memᴰ.append_left (table_words (next e) m) is)
      own false table w is = rw (here', table) (Memᴰ.append_left (table_words (next' e') m') is)

      rest : (first : Bool) (w : ℕ) → Memᴰ w (tables_of first (next e) (next' e'))
          → Memᴰ w (tables_of first (fetch kind at a next) (fetch kind at b next'))
      unfolding table_words
      rest true w is = rw here (Memᴰ.append_right (if is_walked kind then [] else words_from (words_of kind) at) is)
      rest false w is = rw here' (Memᴰ.append_right (if is_walked kind then [] else words_from (words_of kind) at) is)

    -- the answers are kept, where the tables of one of the two are the same
    pub kept_run : (first : Bool) (q q' : Rules A) → Keeps Up Kept Dead q q' → ((w : ℕ) → w % 8 ≡ 0 → Memᴰ w (tables_of first q q') → m w ≡ m' w)
        → Kept (run q m) (run q' m')
    unfolding Keeps run
    kept_run first (answer a) (answer b) h same = h
    kept_run first (answer a) (fetch kind at outside next) h same = all a _ h
    kept_run first (fetch kind at outside next) (answer b) h same = absurd h
    kept_run first (fetch kind at outside next) (fetch kind' at' outside' next') h same =
        let same' : Same (fetch kind at outside next) (fetch kind at outside' next') = rw (← h.0, ← h.1) at same in
        rw (← h.0, ← h.1)
        (by (is_walked kind) refl (entry (words_of kind) m at) (entry (words_of kind) m' at) refl refl same'
        (λ e e'. kept_run first (next e) (next' e')))
      where
        Same : Rules A → Rules A → Type 0
        Same q q' = (w : ℕ) → w % 8 ≡ 0 → Memᴰ w (tables_of first q q') → m w ≡ m' w

        by : (walked : Bool) → is_walked kind ≡ walked → (f f' : Fetched) → entry (words_of kind) m at ≡ f → entry (words_of kind) m' at ≡ f'
            → Same (fetch kind at outside next) (fetch kind at outside' next')
            → ((e e' : ℕ) → Keeps Up Kept Dead (next e) (next' e') → Same (next e) (next' e') → Kept (run (next e) m) (run (next' e') m'))
            → Kept (on_fetch f outside (λ e. run (next e) m)) (on_fetch f' outside' (λ e. run (next' e) m'))
        by walked is missing missing here here' same ih = h.3
        by walked is missing (found e') here here' same ih = absurd (rw (here, here') at (entries (words_of kind) at h.2))
        by walked is (found e) missing here here' same ih = absurd (rw (here, here') at (entries (words_of kind) at h.2))
        by true is (found e) (found e') here here' same ih =
            let first_word : m at ≡ found e = sym (one_word m at) ∙ (rw (one kind is) at here) in
            let second_word : m' at ≡ found e' = sym (one_word m' at) ∙ (rw (one kind is) at here') in
            let up : Up e e' = rw (first_word, second_word) at (words at h.2) in
            ih e e' (h.4 e e' (rw is up)) (λ w ok is. same w ok (rest kind at outside outside' next next' here here' first w is))
        by false is (found e) (found e') here here' same ih =
            let both : found e ≡ found e' =
            sym here
            ∙ same-entry (words_of kind) at h.2 (λ w ok of. same w ok (own kind at outside outside' next next' here here' first is w of))
            ∙ here'
            in
            let equal : e ≡ e' = cc in
            ih e e' (h.4 e e' (rw is equal)) (λ w ok is. same w ok (rest kind at outside outside' next next' here here' first w is))
