-- A vector that stands is handed out within as many takes as bits stand at or above it or are posted there: each take brings
-- the number of those bits down, and each post up by one at most.
use Prim.Native.Nat.{ℕ, zero, suc, ◌+◌, ◌*◌, ◌%◌, ◌≤◌, ◌<◌}
use mathlib.Core.Bool.{Bool, true, false, not, ◌&&◌, ◌||◌, and-true, and-false}
use mathlib.Core.List.{List, [], ◌∷◌}
use mathlib.Core.Path.{◌≡◌, refl, ap, sym, ◌∙◌}
use native.Mathlib.Decide.{dec_le}
use native.Mathlib.Omega.{arith}
use borrow.Author.Tests.{eq-eqb, eqb-true, eqb-false}
use lib.Dec.{eqb, leb}
use Rattle.image.proofs.Bytes.{AreBytes}
use Rattle.image.specs.Choice.{one-if}
use Rattle.interrupts.specs.Claims.{bit_at, due, sets}
use Rattle.interrupts.specs.Descriptor.{Notification}
use Rattle.interrupts.specs.Interrupts.{InterruptOutcome, passed, remapped, posted, blocked, refused, interrupt_answer}
use Rattle.interrupts.specs.Post.{interrupt_written}
use Rattle.interrupts.proofs.Exact.{sets-exactly}
use Rattle.interrupts.proofs.Raised.{Within, within}
use Rattle.takes.specs.Claims.{clears, FewerUntilHandedOut, HandedOutWithin, HandedOutWithin256}
use Rattle.takes.specs.Runs.{Operation, request, take_from, after, count_in, stands, standing_from, unrefused, hands, posts_from, takes_at, hands_out, posts_at}
use Rattle.takes.specs.Take as rules
use Rattle.takes.specs.Take.{TakeOutcome, handed, none, take_written, take_answer}
use Rattle.takes.proofs.Bools.{or-and-false}
use Rattle.takes.proofs.Counting.{count_same, count-at-most, count-some, count-more, count_less}
use Rattle.takes.proofs.Places.{not_on, not_there, not-here}
use Rattle.takes.proofs.Stores.{bytes-written}
use Rattle.takes.proofs.Takes.{bytes-taken, Took, took, took-whole, taken_at, unaligned-refused}

pub bytes_after : (windows : List ℕ) (o : Operation) (image : List ℕ) → AreBytes image → AreBytes (after windows o image)
unfolding after
bytes_after windows (request registers r) image bytes = bytes-written windows image bytes (interrupt_answer registers r windows image)
bytes_after windows (take_from registers d) image bytes = bytes-taken windows image bytes d (take_answer registers d windows image)

one-if-zero : (t : Bool) → one-if t ≡ 0 → t ≡ false
one-if-zero true h = absurd (omega arith)
one-if-zero false h = refl

module _ (windows : List ℕ) (D : ℕ) (aligned : D % 64 ≡ 0) where
  module _ (v : ℕ) (small : v < 256) where
    -- the vector still stands, and so many bits at or above it
    record Kept (image next : List ℕ) (takes posts : Bool) : Type 0 where
      pub still : stands windows D next v ≡ true
      pub fell : one-if takes + standing_from windows D v next ≤ standing_from windows D v image + one-if posts

    same-image : (image : List ℕ) → stands windows D image v ≡ true → Kept image image false false
    same-image image here = record { still = here; fell = omega arith }

    module _ (image : List ℕ) (here : stands windows D image v ≡ true) where
      post-kept : (d u : ℕ) (m : Notification) → d % 64 ≡ 0 → u < 256
          → ((n : ℕ) → bit_at windows (interrupt_written windows (posted d u m) image) n ≡ (bit_at windows image n || sets (posted d u m) n))
          → Kept image (interrupt_written windows (posted d u m) image) false (posts_from D v (posted d u m))
      post-kept d u m a h bits-after =
          record {
            still = bits-after (8 * D + v) ∙ ap (λ (t : Bool). t || sets (posted d u m) (8 * D + v)) here;
            fell = go (eqb d D) refl;
          }
        where
          next : List ℕ
          next = interrupt_written windows (posted d u m) image

          -- elsewhere than at the vector's bit
          kept : (k : ℕ) → k < 256 → eqb (8 * D + k) (8 * d + u) ≡ false → stands windows D next k ≡ stands windows D image k
          kept k b off =
              bits-after (8 * D + k)
              ∙ ap (λ (t : Bool). bit_at windows image (8 * D + k) || (t || due m && eqb (8 * D + k) (8 * d + 256))) off
              ∙ ap (λ (t : Bool). bit_at windows image (8 * D + k) || (due m && t)) (not_on D aligned d k a b)
              ∙ or-and-false (bit_at windows image (8 * D + k)) (due m)

          go : (t : Bool) → eqb d D ≡ t → 0 + standing_from windows D v next ≤ standing_from windows D v image + one-if (t && leb v u)
          go true e =
              let more = count-more v (stands windows D image) (stands windows D next) u 256 (λ k b other. kept k b (not-here D aligned d u k (eqb-true d D e) other)) in
              omega (arith, more)
          go false e =
              let same = count_same v 256 (stands windows D image) (stands windows D next) (λ k b. kept k b (not_there D aligned d u k a (eqb-false d D e) h b)) in
              omega (arith, same)

      request-kept : (o : InterruptOutcome) → Within windows image o → ((n : ℕ) → bit_at windows (interrupt_written windows o image) n ≡ (bit_at windows image n || sets o n))
          → Kept image (interrupt_written windows o image) false (posts_from D v o)
      request-kept (posted d u m) p bits-after = post-kept d u m p.aligned p.small bits-after
      request-kept passed p bits-after = same-image image here
      request-kept (remapped r) p bits-after = same-image image here
      request-kept (blocked f) p bits-after = same-image image here
      request-kept (refused number) p bits-after = same-image image here

      -- a bit that a take doesn't clear
      kept-bit : (d : ℕ) (o : TakeOutcome) → Took windows image d o → (k : ℕ) → clears d o (8 * D + k) ≡ false
          → stands windows D (take_written windows d o image) k ≡ stands windows D image k
      kept-bit d o t k off =
          taken_at windows image d o (took-whole windows image d o t) (8 * D + k)
          ∙ ap (λ (t : Bool). stands windows D image k && not t) off ∙ and-true (stands windows D image k)

      take-kept : (d : ℕ) (o : TakeOutcome) → Took windows image d o → (eqb d D && hands v o) ≡ false
          → Kept image (take_written windows d o image) (eqb d D && unrefused o) false
      take-kept d (rules.refused number) t off = go (eqb d D)
        where
          go : (t : Bool) → Kept image image (t && false) false
          go true = same-image image here
          go false = same-image image here
      take-kept d none t off = go (eqb d D) refl
        where
          kept : (k : ℕ) → k < 256 → stands windows D (take_written windows d none image) k ≡ stands windows D image k
          kept k b = kept-bit d none t k (not_on D aligned d k t.0.aligned b)

          go : (s : Bool) → eqb d D ≡ s → Kept image (take_written windows d none image) (s && true) false
          go true e =
              let clear : stands windows D image v ≡ false = ap (λ (n : ℕ). stands windows n image v) (sym (eqb-true d D e)) ∙ t.1 v small in
              let z : ◌≡◌ {A = ℕ} 0 1 = cc in
              absurd (omega arith)
          go false e =
              let same = count_same v 256 (stands windows D image) (stands windows D (take_written windows d none image)) kept in
              record { still = kept v small ∙ here; fell = omega (arith, same) }
      take-kept d (handed h) t off = go (eqb d D) refl off
        where
          next : List ℕ
          next = take_written windows d (handed h) image

          h-small : h < 256
          h-small = t.1.0

          kept : (k : ℕ) → k < 256 → eqb (8 * D + k) (8 * d + h) ≡ false → stands windows D next k ≡ stands windows D image k
          kept k b apart = kept-bit d (handed h) t k (rw apart (not_on D aligned d k t.0.aligned b))

          -- the bit above the vector goes
          here-kept : d ≡ D → (h ≡ v → ⊥) → Kept image next true false
          here-kept same other = by (dec_le h v)
            where
              was : stands windows D image h ≡ true
              was = ap (λ (n : ℕ). stands windows n image h) (sym same) ∙ t.1.1

              gone : stands windows D next h ≡ false
              gone =
                  taken_at windows image d (handed h) (took-whole windows image d (handed h) t) (8 * D + h)
                  ∙ rw (eq-eqb (8 * D + h) (8 * d + h) (omega arith)) (and-false (stands windows D image h))

              by : Dec (h ≤ v) → Kept image next true false
              by (yes low) =
                  let clear : stands windows D image v ≡ false = ap (λ (n : ℕ). stands windows n image v) (sym same) ∙ t.1.2 v (omega (arith, other)) small in
                  let z : ◌≡◌ {A = ℕ} 0 1 = cc in
                  absurd (omega arith)
              by (no above) =
                  let less = count_less v (stands windows D image) (stands windows D next) h 256 (λ k b apart. kept k b (not-here D aligned d h k same apart)) h-small (omega arith) was gone in
                  record { still = kept v small (not-here D aligned d h v same (λ e. other (sym e))) ∙ here; fell = omega (arith, less) }

          go : (s : Bool) → eqb d D ≡ s → (s && eqb h v) ≡ false → Kept image next (s && true) false
          go true e off = here-kept (eqb-true d D e) (eqb-false h v off)
          go false e off =
              let away = eqb-false d D e in
              let same = count_same v 256 (stands windows D image) (stands windows D next) (λ k b. kept k b (not_there D aligned d h k t.0.aligned away h-small b)) in
              record { still = kept v small (not_there D aligned d h v t.0.aligned away h-small small) ∙ here; fell = omega (arith, same) }

    step_kept : (o : Operation) (image : List ℕ) → AreBytes image → stands windows D image v ≡ true → hands_out windows D v o image ≡ false
        → Kept image (after windows o image) (takes_at windows D o image) (posts_at windows D v o image)
    unfolding after
    step_kept (request registers r) image bytes here off =
        request-kept image here (interrupt_answer registers r windows image) (within registers r windows image) (sets-exactly registers r windows image)
    step_kept (take_from registers d) image bytes here off =
        take-kept image here d (take_answer registers d windows image) (took registers d windows image bytes) off

    run-fewer : (os : List Operation) (image : List ℕ) → AreBytes image → stands windows D image v ≡ true → count_in windows (hands_out windows D v) os image ≡ 0
        → count_in windows (takes_at windows D) os image < standing_from windows D v image + count_in windows (posts_at windows D v) os image
    unfolding count_in
    run-fewer [] image bytes here off = omega (arith, count-some v 256 (stands windows D image) small here)
    run-fewer (o ∷ os) image bytes here off =
        let k = step_kept o image bytes here (one-if-zero (hands_out windows D v o image) (omega arith)) in
        let rest = run-fewer os (after windows o image) (bytes_after windows o image bytes) k.still (omega arith) in
        omega (arith, k.fell)

-- no take at a descriptor that isn't 64-aligned
no_takes : (windows : List ℕ) (D : ℕ) → (D % 64 ≡ 0 → ⊥) → (os : List Operation) (image : List ℕ) → count_in windows (takes_at windows D) os image ≡ 0
unfolding count_in
no_takes windows D odd [] image = refl
no_takes windows D odd (request registers r ∷ os) image = rw (no_takes windows D odd os (after windows (request registers r) image))
no_takes windows D odd (take_from registers d ∷ os) image =
    let none_here : (eqb d D && unrefused (take_answer registers d windows image)) ≡ false = go (eqb d D) refl in
    rw (none_here, no_takes windows D odd os (after windows (take_from registers d) image))
  where
    go : (t : Bool) → eqb d D ≡ t → (t && unrefused (take_answer registers d windows image)) ≡ false
    go true e = unaligned-refused registers d windows image (λ a. odd (ap (λ (n : ℕ). n % 64) (sym (eqb-true d D e)) ∙ a))
    go false e = refl

pub fewer-until-handed-out : FewerUntilHandedOut
fewer-until-handed-out windows D v image bytes small here os off = go (eqb (D % 64) 0) refl
  where
    go : (t : Bool) → eqb (D % 64) 0 ≡ t → count_in windows (takes_at windows D) os image < standing_from windows D v image + count_in windows (posts_at windows D v) os image
    go true e = run-fewer windows D (eqb-true (D % 64) 0 e) v small os image bytes here off
    go false e = omega (arith, no_takes windows D (eqb-false (D % 64) 0 e) os image, count-some v 256 (stands windows D image) small here)

pub handed-out-within : HandedOutWithin
handed-out-within windows D v image bytes small here os enough = go (count_in windows (hands_out windows D v) os image) refl
  where
    go : (n : ℕ) → count_in windows (hands_out windows D v) os image ≡ n → 0 < n
    go zero e = absurd (omega (arith, fewer-until-handed-out windows D v image bytes small here os e))
    go (suc n) e = omega arith

pub handed-out-within-256 : HandedOutWithin256
handed-out-within-256 windows D v image bytes small here os unposted enough =
    handed-out-within windows D v image bytes small here os (omega (arith, count-at-most v 256 (stands windows D image)))
