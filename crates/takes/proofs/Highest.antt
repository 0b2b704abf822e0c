-- The highest place that a test holds of.
use Prim.Native.Nat.{ℕ, zero, suc, ◌+◌, ◌-◌, ◌*◌, ◌^◌, ◌≤◌, ◌<◌}
use mathlib.Core.Bool.{Bool, true, false}
use mathlib.Core.List.{List, [], ◌∷◌}
use lib.ListN.{get_or}
use mathlib.Core.Path.{◌≡◌, refl, ap, sym, ◌∙◌}
use native.Mathlib.Decide.{dec_le}
use native.Mathlib.Nat.{zero-add, add-zero, add-suc, zero-div, zero-mod}
use native.Mathlib.Omega.{arith}
use Rattle.std.specs.Prelude.{if◌then◌else◌}
use Rattle.image.specs.Bits.{bits, bit}
use Rattle.image.specs.Bytes.{spell}
use Rattle.image.specs.declared.Entry64.{Entry64}
use Rattle.image.specs.Entry.{Words}
use Rattle.takes.specs.Take.{TakeOutcome, handed, none, refused, highest}
use Rattle.takes.proofs.Bitwise.{in-word, top_set, above-clear}

module _ (test : ℕ → Bool) where
  pub highest-is : (n h : ℕ) → h < n → test h ≡ true → ((k : ℕ) → h < k → k < n → test k ≡ false) → highest n test ≡ handed h
  unfolding highest
  highest-is zero h below here above = absurd (omega arith)
  highest-is (suc n) h below here above = go (dec_le n h) (λ b. highest-is n h b here (λ k from to. above k from (omega arith)))
    where
      go : Dec (n ≤ h) → (h < n → highest n test ≡ handed h) → (if test n then handed n else highest n test) ≡ handed h
      go (yes top) rest = let same : n ≡ h = omega arith in rw (same, here)
      go (no under) rest = rw (above n (omega arith) (omega arith)) (rest (omega arith))

  pub highest-none : (n : ℕ) → ((k : ℕ) → k < n → test k ≡ false) → highest n test ≡ none
  unfolding highest
  highest-none zero clear = refl
  highest-none (suc n) clear = rw (clear n (omega arith)) (highest-none n (λ k h. clear k (omega arith)))

  -- places at the top of which the test holds nowhere
  pub highest-drop : (n m : ℕ) → ((k : ℕ) → n ≤ k → k < n + m → test k ≡ false) → highest (n + m) test ≡ highest n test
  unfolding highest
  highest-drop n zero clear = rw (add-zero n)
  highest-drop n (suc m) clear =
      rw (add-suc n m, clear (n + m) (omega arith) (omega arith)) (highest-drop n m (λ k from to. clear k from (omega arith)))

  -- what is found
  abbrev pub Finds : ℕ → TakeOutcome → Type 0
  Finds n (handed h) = (h < n) × (test h ≡ true) × ((k : ℕ) → h < k → k < n → test k ≡ false)
  Finds n none = (k : ℕ) → k < n → test k ≡ false
  Finds n (refused number) = ⊥

  pub finds : (n : ℕ) → Finds n (highest n test)
  unfolding highest
  finds zero = λ k h. absurd (omega arith)
  finds (suc n) = go (test n) refl (highest n test) (finds n)
    where
      top : {h k : ℕ} → h < k → k < suc n → Dec (n ≤ k) → test n ≡ false → ((k : ℕ) → h < k → k < n → test k ≡ false) → test k ≡ false
      top {h} {k} from to (yes last) clear above = let same : k ≡ n = omega arith in rw same clear
      top {h} {k} from to (no under) clear above = above k from (omega arith)

      all : {k : ℕ} → k < suc n → Dec (n ≤ k) → test n ≡ false → ((k : ℕ) → k < n → test k ≡ false) → test k ≡ false
      all {k} to (yes last) clear below = let same : k ≡ n = omega arith in rw same clear
      all {k} to (no under) clear below = below k (omega arith)

      go : (t : Bool) → test n ≡ t → (o : TakeOutcome) → Finds n o → Finds (suc n) (if t then handed n else o)
      go true e o f = (omega arith, e, λ k from to. absurd (omega arith))
      go false e (handed h) f = (omega (arith, f.0), f.1, λ k from to. top from to (dec_le n k) e f.2)
      go false e none f = λ k to. all to (dec_le n k) e f
      go false e (refused number) f = f

pub highest-same : (f g : ℕ → Bool) (n : ℕ) → ((k : ℕ) → k < n → f k ≡ g k) → highest n f ≡ highest n g
unfolding highest
highest-same f g zero same = refl
highest-same f g (suc n) same = rw (same n (omega arith), highest-same f g n (λ k h. same k (omega arith)))

pub top-highest : (w j : ℕ) → j < 64 → 2 ^ j ≤ w → w < 2 ^ suc j → highest 64 (bit w) ≡ handed j
top-highest w j below low high = highest-is (bit w) 64 j below (top_set w j low high) (λ k from to. above-clear w j k high from)

-- the highest bit of a number that words spell: past a word that is 0, and in a word that is not
module _ (ws : List ℕ) (words : Words ws) (i : ℕ) where
  none-set : get_or ws i 0 ≡ 0 → (k : ℕ) → k < 64 → bit (get_or ws i 0) k ≡ false
  unfolding bits
  none-set empty k h = rw (empty, zero-div (2 ^ k), zero-mod (2 ^ (suc k - k)))

  pub past_word : get_or ws i 0 ≡ 0 → highest (64 * i + 64) (bit (spell ws)) ≡ highest (64 * i) (bit (spell ws))
  past_word empty =
      highest-drop (bit (spell ws)) (64 * i) 64
      (λ k from to.
      let place : 64 * i + (k - 64 * i) ≡ k = omega arith in
      ap (bit (spell ws)) (sym place) ∙ in-word ws words i (k - 64 * i) (omega arith) ∙ none-set empty (k - 64 * i) (omega arith))

  pub in-top-word : (h : ℕ) → highest 64 (bit (get_or ws i 0)) ≡ handed h → highest (64 * i + 64) (bit (spell ws)) ≡ handed (64 * i + h)
  in-top-word h top =
      let f : Finds (bit (get_or ws i 0)) 64 (handed h) = rw top at (finds (bit (get_or ws i 0)) 64) in
      highest-is (bit (spell ws)) (64 * i + 64) (64 * i + h) (omega (arith, f.0))
      (in-word ws words i h f.0 ∙ f.1)
      (λ k from to.
      let place : 64 * i + (k - 64 * i) ≡ k = omega arith in
      ap (bit (spell ws)) (sym place) ∙ in-word ws words i (k - 64 * i) (omega arith) ∙ f.2 (k - 64 * i) (omega arith) (omega arith))

-- the highest of bits 255:0 of an entry of eight words
module _ (d : Entry64) where
  abbrev pub words_of : List ℕ
  words_of = d.w0 ∷ d.w1 ∷ d.w2 ∷ d.w3 ∷ d.w4 ∷ d.w5 ∷ d.w6 ∷ d.w7 ∷ []

module _ (d : Entry64) (words : Words (words_of d)) where
  abbrev ws : List ℕ
  ws = words_of d

  pub top-of-fourth : (h : ℕ) → highest 64 (bit d.w3) ≡ handed h → highest 256 (bit (spell ws)) ≡ handed (192 + h)
  top-of-fourth h top = in-top-word ws words 3 h top

  module _ (z3 : d.w3 ≡ 0) where
    pub top-of-third : (h : ℕ) → highest 64 (bit d.w2) ≡ handed h → highest 256 (bit (spell ws)) ≡ handed (128 + h)
    top-of-third h top = past_word ws words 3 z3 ∙ in-top-word ws words 2 h top

    module _ (z2 : d.w2 ≡ 0) where
      pub top-of-second : (h : ℕ) → highest 64 (bit d.w1) ≡ handed h → highest 256 (bit (spell ws)) ≡ handed (64 + h)
      top-of-second h top =
          past_word ws words 3 z3 ∙ past_word ws words 2 z2 ∙ in-top-word ws words 1 h top

      module _ (z1 : d.w1 ≡ 0) where
        pub top-of-first : (h : ℕ) → highest 64 (bit d.w0) ≡ handed h → highest 256 (bit (spell ws)) ≡ handed h
        top-of-first h top =
            past_word ws words 3 z3 ∙ past_word ws words 2 z2 ∙ past_word ws words 1 z1
            ∙ in-top-word ws words 0 h top ∙ ap handed (zero-add h)

        pub top-of-none : d.w0 ≡ 0 → highest 256 (bit (spell ws)) ≡ none
        unfolding highest
        top-of-none z0 =
            past_word ws words 3 z3 ∙ past_word ws words 2 z2 ∙ past_word ws words 1 z1
            ∙ past_word ws words 0 z0
