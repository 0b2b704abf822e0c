-- An entry of 32 bytes, by its two halves.
use Rattle.std.proofs.Common.{◌≡◌, ℕ, ◌+◌, ◌*◌, ◌^◌, [], ◌∷◌, sym, refl, ap, ◌∙◌, add-zero, add_assoc, mul-zero, mul-add}
use Rattle.image.specs.Bytes.{spell}
use Rattle.image.specs.Memory.{Memory, Fetched, missing, found, join, entry}

-- two words, then the rest
abbrev pub pair_then : Fetched → Fetched → Fetched
pair_then missing rest = missing
pair_then (found x) missing = missing
pair_then (found x) (found rest) = found (x + 2 ^ 64 * (2 ^ 64 * rest))

sum : (p a b rest : ℕ) → a + p * (b + p * rest) ≡ a + p * (b + p * 0) + p * (p * rest)
sum p a b rest = simp (mul-add, mul-zero, add-zero, add_assoc)

joined : (f g rest : Fetched) → join f (join g rest) ≡ pair_then (join f (join g (found 0))) rest
joined missing g rest = refl
joined (found a) missing rest = refl
joined (found a) (found b) missing = refl
joined (found a) (found b) (found rest) = ap found (sum (2 ^ 64) a b rest)

-- 32 bytes
pub halves : (m : Memory) (at : ℕ) → entry 4 m at ≡ pair_then (entry 2 m at) (entry 2 m (at + 16))
unfolding entry
halves m at = rw (← add_assoc at 8 8) (joined (m at) (m (at + 8)) (join (m (at + 8 + 8)) (join (m (at + 8 + 8 + 8)) (found 0))))

pub none-low : (m : Memory) (at : ℕ) → missing ≡ entry 2 m at → missing ≡ entry 4 m at
none-low m at h = ap (λ f. pair_then f (entry 2 m (at + 16))) h ∙ sym (halves m at)

pub none-high : (m : Memory) (at : ℕ) {x : ℕ} → found x ≡ entry 2 m at → missing ≡ entry 2 m (at + 16) → missing ≡ entry 4 m at
none-high m at {x} low h = ap (pair_then (found x)) h ∙ ap (λ f. pair_then f (entry 2 m (at + 16))) low ∙ sym (halves m at)

pub both : (m : Memory) (at w0 w1 w2 w3 : ℕ) → found (spell (w0 ∷ w1 ∷ [])) ≡ entry 2 m at
    → found (spell (w2 ∷ w3 ∷ [])) ≡ entry 2 m (at + 16)
    → found (spell (w0 ∷ w1 ∷ w2 ∷ w3 ∷ 0 ∷ 0 ∷ 0 ∷ 0 ∷ [])) ≡ entry 4 m at
unfolding spell
both m at w0 w1 w2 w3 low high =
    ap found (sum (2 ^ 64) w0 w1 (w2 + 2 ^ 64 * (w3 + 2 ^ 64 * 0)))
    ∙ ap (pair_then (found (w0 + 2 ^ 64 * (w1 + 2 ^ 64 * 0)))) high
    ∙ ap (λ f. pair_then f (entry 2 m (at + 16))) low
    ∙ sym (halves m at)
