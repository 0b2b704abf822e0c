-- Nothing is lost and nothing invented: each operation keeps the sum of what stands and what was handed out, but for a post that
-- finds its bit clear, which adds one.
use Prim.Native.Nat.{ℕ, ◌+◌, ◌*◌, ◌%◌, ◌<◌}
use mathlib.Core.Bool.{Bool, true, false, not, ◌&&◌, ◌||◌, or-false, and-true, and-false}
use mathlib.Core.List.{List, [], ◌∷◌}
use mathlib.Core.Logic.{◌⊎◌, inl, inr}
use mathlib.Core.Path.{◌≡◌, refl, ap, sym, ◌∙◌}
use native.Mathlib.Omega.{arith}
use borrow.Author.Tests.{eqb-true}
use lib.Dec.{eqb}
use Rattle.image.proofs.Bytes.{AreBytes}
use Rattle.image.specs.Choice.{one-if}
use Rattle.interrupts.specs.Claims.{bit_at, due, sets}
use Rattle.interrupts.specs.Interrupts.{InterruptOutcome, passed, remapped, posted, blocked, refused, interrupt_answer}
use Rattle.interrupts.specs.Post.{interrupt_written}
use Rattle.interrupts.proofs.Exact.{sets-exactly}
use Rattle.interrupts.proofs.Raised.{Within, within}
use Rattle.takes.specs.Claims.{Conserved, NoneInvented}
use Rattle.takes.specs.Runs.{Operation, request, take_from, after, left, count_in, stands, hands, posts_vector, hands_out, posts_clear}
use Rattle.takes.specs.Take as rules
use Rattle.takes.specs.Take.{TakeOutcome, handed, none, take_written, take_answer}
use Rattle.takes.proofs.Bools.{or-and-false}
use Rattle.takes.proofs.HandedOut.{bytes_after}
use Rattle.takes.proofs.Places.{not_on, same_bit}
use Rattle.takes.proofs.Takes.{Took, took, took-whole, taken_at}

-- a bit that is set, and one that is cleared only where it stood
one_more : (s t : Bool) → one-if s + one-if (t && not s) ≡ 0 + one-if (s || t)
one_more true true = refl
one_more true false = refl
one_more false true = refl
one_more false false = refl

one_less : (s t : Bool) → (t ≡ true → s ≡ true) → one-if s + 0 ≡ one-if t + one-if (s && not t)
one_less true true h = refl
one_less true false h = refl
one_less false true h = let z : false ≡ true = h refl in let y : ◌≡◌ {A = ℕ} 0 1 = cc in absurd (omega arith)
one_less false false h = refl

module _ (windows : List ℕ) (D : ℕ) (aligned : D % 64 ≡ 0) (v : ℕ) (small : v < 256) (image : List ℕ) where
  same-posts : (o : InterruptOutcome) → Within windows image o → ((n : ℕ) → bit_at windows (interrupt_written windows o image) n ≡ (bit_at windows image n || sets o n))
      → stands windows D (interrupt_written windows o image) v ≡ (stands windows D image v || posts_vector D v o)
  same-posts (posted d u m) p bits-after =
      bits-after (8 * D + v)
      ∙ ap (λ (t : Bool). stands windows D image v || (t || due m && eqb (8 * D + v) (8 * d + 256))) (same_bit D aligned d u v p.aligned p.small small)
      ∙ ap (λ (t : Bool). stands windows D image v || (eqb d D && eqb u v || due m && t)) (not_on D aligned d v p.aligned small)
      ∙ ap (λ (t : Bool). stands windows D image v || t) (or-and-false (eqb d D && eqb u v) (due m))
  same-posts passed p bits-after = bits-after (8 * D + v)
  same-posts (remapped r) p bits-after = bits-after (8 * D + v)
  same-posts (blocked f) p bits-after = bits-after (8 * D + v)
  same-posts (refused number) p bits-after = bits-after (8 * D + v)

  same_takes : (d : ℕ) (o : TakeOutcome) → Took windows image d o
      → stands windows D (take_written windows d o image) v ≡ (stands windows D image v && not (eqb d D && hands v o))
  same_takes d (handed h) t =
      taken_at windows image d (handed h) (took-whole windows image d (handed h) t) (8 * D + v)
      ∙ ap (λ (b : Bool). stands windows D image v && not (b || eqb (8 * D + v) (8 * d + 256))) (same_bit D aligned d h v t.0.aligned t.1.0 small)
      ∙ ap (λ (b : Bool). stands windows D image v && not (eqb d D && eqb h v || b)) (not_on D aligned d v t.0.aligned small)
      ∙ ap (λ (b : Bool). stands windows D image v && not b) (or-false (eqb d D && eqb h v))
  same_takes d none t =
      taken_at windows image d none (took-whole windows image d none t) (8 * D + v)
      ∙ ap (λ (b : Bool). stands windows D image v && not b) (not_on D aligned d v t.0.aligned small)
      ∙ ap (λ (b : Bool). stands windows D image v && not b) (sym (and-false (eqb d D)))
  same_takes d (rules.refused number) t = rw (and-false (eqb d D), and-true (stands windows D image v))

  -- what a take hands out here stood here
  stood : (d : ℕ) (o : TakeOutcome) → Took windows image d o → (eqb d D && hands v o) ≡ true → stands windows D image v ≡ true
  stood d (handed h) t both = go (eqb d D) refl (eqb h v) refl both
    where
      go : (a : Bool) → eqb d D ≡ a → (b : Bool) → eqb h v ≡ b → (a && b) ≡ true → stands windows D image v ≡ true
      go true e true f both =
          let here : d ≡ D = eqb-true d D e in
          let vector : h ≡ v = eqb-true h v f in
          rw (here, vector) at t.1.1
      go true e false f both = let z : ◌≡◌ {A = ℕ} 0 1 = cc in absurd (omega arith)
      go false e b f both = let z : ◌≡◌ {A = ℕ} 0 1 = cc in absurd (omega arith)
  stood d none t both = let no : false ≡ true = rw (and-false (eqb d D)) at both in let z : ◌≡◌ {A = ℕ} 0 1 = cc in absurd (omega arith)
  stood d (rules.refused number) t both =
      let no : false ≡ true = rw (and-false (eqb d D)) at both in let z : ◌≡◌ {A = ℕ} 0 1 = cc in absurd (omega arith)

  balance : (o : Operation) → AreBytes image
      → one-if (stands windows D image v) + one-if (posts_clear windows D v o image) ≡ one-if (hands_out windows D v o image) + one-if (stands windows D (after windows o image) v)
  unfolding after
  balance (request registers r) bytes =
      let o = interrupt_answer registers r windows image in
      one_more (stands windows D image v) (posts_vector D v o)
      ∙ ap (λ (t : Bool). 0 + one-if t) (sym (same-posts o (within registers r windows image) (sets-exactly registers r windows image)))
  balance (take_from registers d) bytes =
      let o = take_answer registers d windows image in
      let t = took registers d windows image bytes in
      one_less (stands windows D image v) (eqb d D && hands v o) (stood d o t)
      ∙ ap (λ (s : Bool). one-if (eqb d D && hands v o) + one-if s) (sym (same_takes d o t))

module _ (windows : List ℕ) (D : ℕ) (aligned : D % 64 ≡ 0) (v : ℕ) (small : v < 256) where
  run-balance : (os : List Operation) (image : List ℕ) → AreBytes image
      → one-if (stands windows D image v) + count_in windows (posts_clear windows D v) os image ≡ count_in windows (hands_out windows D v) os image + one-if (stands windows D (left windows os image) v)
  unfolding count_in left
  run-balance [] image bytes = omega arith
  run-balance (o ∷ os) image bytes =
      omega (arith, balance windows D aligned v small image o bytes, run-balance os (after windows o image) (bytes_after windows o image bytes))

pub conserved : Conserved
conserved windows D v image bytes aligned small os = run-balance windows D aligned v small os image bytes

pub none-invented : NoneInvented
none-invented windows D v image bytes aligned small os some = go (stands windows D image v) refl
  where
    go : (s : Bool) → stands windows D image v ≡ s → (s ≡ true) ⊎ (0 < count_in windows (posts_clear windows D v) os image)
    go true e = inl refl
    go false e =
        let sum : one-if (stands windows D image v) + count_in windows (posts_clear windows D v) os image ≡ count_in windows (hands_out windows D v) os image + one-if (stands windows D (left windows os image) v) = conserved windows D v image bytes aligned small os in
        let none-there : one-if (stands windows D image v) ≡ 0 = rw e in
        inr (omega arith)
