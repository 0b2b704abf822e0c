-- What an entry of the code keeps: its words, lowest first, and the number that they spell.
use Rattle.std.specs.Prelude.{◌≡◌, ℕ, ◌+◌, ◌*◌, ◌%◌, ◌^◌, ◌<◌, ◌≤◌, List, [], ◌∷◌, refl}
use Rattle.std.proofs.Common.{arith}
use Rattle.image.specs.Bytes.{spell}
use Rattle.image.specs.Answers.{words16, number16, words64, number64}

abbrev pub alone : ℕ → List ℕ
alone e = e ∷ []

-- each is one of 64 bits
unfoldable pub Words : List ℕ → Type 0
Words [] = Unit {0}
Words (w ∷ ws) = (w < 2 ^ 64) × Words ws

-- an entry of so many words at a multiple of its size leaves no page, and doesn't wrap
pub record EntryLaws {A : Type 0} (size : ℕ) (words : A → List ℕ) (number : A → ℕ) : Type 0 where
  pub some : 0 < size
  pub in_page : (at : ℕ) → at % (8 * size) ≡ 0 → at % 4096 + 8 * size ≤ 4096
  pub in_space : (at : ℕ) → at < 2 ^ 64 → at % (8 * size) ≡ 0 → at + 8 * size ≤ 2 ^ 64
  pub spelled : (e : A) → spell (words e) ≡ number e

pub laws8 : EntryLaws 1 alone (λ e. e)
unfolding spell
laws8 = record {
  some = omega arith;
  in_page = λ at h. omega (arith, h);
  in_space = λ at below h. omega (arith, below, h);
  spelled = λ e. omega arith;
}

pub laws16 : EntryLaws 2 words16 number16
laws16 = record {
  some = omega arith;
  in_page = λ at h. omega (arith, h);
  in_space = λ at below h. omega (arith, below, h);
  spelled = λ e. refl;
}

pub laws64 : EntryLaws 8 words64 number64
laws64 = record {
  some = omega arith;
  in_page = λ at h. omega (arith, h);
  in_space = λ at below h. omega (arith, below, h);
  spelled = λ e. refl;
}
