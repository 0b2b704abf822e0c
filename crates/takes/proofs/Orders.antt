-- Two requests in either order leave the same image, and give as many notifications.
use Prim.Native.Nat.{ℕ, ◌+◌, ◌-◌, ◌*◌, ◌/◌, ◌%◌, ◌≤◌, ◌<◌}
use mathlib.Core.Bool.{Bool, true, false, not, ◌&&◌, ◌||◌, and-true}
use mathlib.Core.List.{List}
use mathlib.Core.Logic.{◌⊎◌, inl, inr, ⊎_elim}
use mathlib.Core.Path.{◌≡◌, refl, ap, sym, ◌∙◌}
use native.Mathlib.Decide.{dec_le}
use native.Mathlib.Omega.{arith}
use borrow.Author.Tests.{eq-eqb, ne_eqb, eqb-true, eqb-false}
use lib.Dec.{eqb}
use lib.ListN.{length, get_or}
use Rattle.image.specs.Bits.{bit}
use Rattle.image.specs.Choice.{one-if}
use Rattle.image.specs.Memory.{Fetched, missing, found, entry}
use Rattle.image.specs.Windows.{windows_of, Spot, nowhere, here, on_spot, spot_in, of_windows, byte_at, bad_windows}
use Rattle.image.proofs.Bytes.{AreBytes}
use Rattle.image.proofs.WindowBytes.{one_address, byte-spot}
use Rattle.registers.specs.declared.Registers.{Registers}
use Rattle.interrupts.specs.Claims.{bit_at, due, sets, indexed_entry}
use Rattle.interrupts.specs.Descriptor.{Notification}
use Rattle.interrupts.specs.Interrupts.{InterruptOutcome, passed, remapped, posted, blocked, refused, interrupt_answer}
use Rattle.interrupts.specs.Post.{set_bit, notified, interrupt_written}
use Rattle.interrupts.specs.declared.InterruptRequest.{InterruptRequest}
use Rattle.interrupts.proofs.Exact.{outcome-at, length-written, written-there, other-bytes}
use Rattle.interrupts.proofs.Raised.{Stands, Within, within}
use Rattle.interrupts.proofs.EntryBits.{entry-bit}
use Rattle.interrupts.proofs.Notifications.{notification-exactly}
use Rattle.takes.specs.Claims.{Apart, EitherOrder}
use Rattle.takes.specs.Runs.{after, left, count_in, has_notification}
use Rattle.takes.proofs.Bools.{or-and-false}
use Rattle.takes.proofs.Commute.{mark, marked, two-descriptors, one-descriptor, one-notification}
use Rattle.takes.proofs.Memories.{Shape, neither, both, same_shape, same-entry}
use Rattle.takes.proofs.Stable.{Alike, same, reposted, Descriptors, none-there, reserved-there, alike}
use Rattle.takes.proofs.Stores.{bytes-written}

abbrev is_posted : InterruptOutcome → Bool
is_posted (posted d u m) = true
is_posted passed = false
is_posted (remapped r) = false
is_posted (blocked f) = false
is_posted (refused number) = false

-- an outcome that is no post
quiet-writes : (o : InterruptOutcome) → is_posted o ≡ false → (windows image : List ℕ) → interrupt_written windows o image ≡ image
quiet-writes (posted d u m) q windows image = let z : ◌≡◌ {A = ℕ} 0 1 = cc in absurd (omega arith)
quiet-writes passed q windows image = refl
quiet-writes (remapped r) q windows image = refl
quiet-writes (blocked f) q windows image = refl
quiet-writes (refused number) q windows image = refl

alike-quiet : {o o' : InterruptOutcome} → is_posted o ≡ false → Alike o o' → o' ≡ o
alike-quiet q same = refl
alike-quiet q (reposted m n) = let z : ◌≡◌ {A = ℕ} 0 1 = cc in absurd (omega arith)

alike_post : {d u : ℕ} {m : Notification} {o : InterruptOutcome} → Alike (posted d u m) o → (n : Notification) × (o ≡ posted d u n)
alike_post {m = m} same = (m, refl)
alike_post (reposted m n) = (n, refl)

-- what a post is known by
post-known : (registers : Registers) (a : InterruptRequest) (windows image : List ℕ) {d u : ℕ} {m : Notification}
    → interrupt_answer registers a windows image ≡ posted d u m → Stands windows image d u
post-known registers a windows image {d} {u} {m} e = let w : Within windows image (posted d u m) = rw e at (within registers a windows image) in w

-- a byte at a host address outside a post's descriptor
module _ (windows image : List ℕ) (bytes : AreBytes image) (d u : ℕ) (m : Notification) (post : Stands windows image d u) where
  abbrev next : List ℕ
  next = interrupt_written windows (posted d u m) image

  bit-next : (n : ℕ) → bit_at windows next n ≡ (bit_at windows image n || sets (posted d u m) n)
  bit-next = outcome-at windows image (posted d u m) post

  far : (at : ℕ) → (at < d) ⊎ (d + 64 ≤ at) → byte_at windows next at ≡ byte_at windows image at
  unfolding byte_at
  far at away = rw (written-there windows image d u m post.there) (by (spot_in (windows_of windows) 1 at) refl)
    where
      by : (s : Spot) → spot_in (windows_of windows) 1 at ≡ s
          → on_spot s 0 (λ place left. get_or (notified post.place m (set_bit post.place u image)) place 0) ≡ on_spot s 0 (λ place left. get_or image place 0)
      by nowhere e = refl
      by (here k rest) e = other-bytes image post.place u m k post.small off
        where
          off : (i : ℕ) → i < 64 → k ≡ post.place + i → ⊥
          off i small is =
              let it = byte-spot windows (length image) post.good 64 d i post.there small in
              let one : at ≡ d + i =
              one_address windows (length image) post.good at (d + i) e (it ∙ ap (λ (x : ℕ). here x (post.left - i)) (sym is)) in
              ⊎_elim (λ under. omega arith) (λ above. omega arith) away

  -- of another descriptor, or of the same, a post sets no bit from SN up
  above_kept : (at k : ℕ) → at % 64 ≡ 0 → 257 ≤ k → k < 512 → bit_at windows next (8 * at + k) ≡ bit_at windows image (8 * at + k)
  above_kept at k aligned from to =
      bit-next (8 * at + k)
      ∙ ap (λ (t : Bool). bit_at windows image (8 * at + k) || (t || due m && eqb (8 * at + k) (8 * d + 256))) (apart u (omega arith))
      ∙ ap (λ (t : Bool). bit_at windows image (8 * at + k) || (due m && t)) (apart 256 (omega arith))
      ∙ or-and-false (bit_at windows image (8 * at + k)) (due m)
    where
      h : u < 256
      h = post.small

      line : d % 64 ≡ 0
      line = post.aligned

      apart : (p : ℕ) → p ≤ 256 → eqb (8 * at + k) (8 * d + p) ≡ false
      apart p b = ne_eqb (8 * at + k) (8 * d + p) (by (dec_le (at / 64) (d / 64)))
        where
          by : Dec (at / 64 ≤ d / 64) → 8 * at + k ≡ 8 * d + p → ⊥
          by (yes low) e = by_equal (dec_le (d / 64) (at / 64)) e
            where
              by_equal : Dec (d / 64 ≤ at / 64) → 8 * at + k ≡ 8 * d + p → ⊥
              by_equal (yes high) e = omega arith
              by_equal (no less) e = omega arith
          by (no high) e = omega arith

  -- ON of a descriptor is set by a post with a notification to it
  on-next : (at : ℕ) → at % 64 ≡ 0 → bit_at windows next (8 * at + 256) ≡ (bit_at windows image (8 * at + 256) || due m && eqb at d)
  on-next at aligned =
      bit-next (8 * at + 256)
      ∙ ap (λ (t : Bool). bit_at windows image (8 * at + 256) || (t || due m && eqb (8 * at + 256) (8 * d + 256))) vector-off
      ∙ ap (λ (t : Bool). bit_at windows image (8 * at + 256) || due m && t) (on_same (eqb at d) refl)
    where
      h : u < 256
      h = post.small

      line : d % 64 ≡ 0
      line = post.aligned

      vector-off : eqb (8 * at + 256) (8 * d + u) ≡ false
      vector-off = ne_eqb (8 * at + 256) (8 * d + u) (by (dec_le (d / 64) (at / 64)))
        where
          by : Dec (d / 64 ≤ at / 64) → 8 * at + 256 ≡ 8 * d + u → ⊥
          by (yes low) e = omega arith
          by (no high) e = omega arith

      on_same : (t : Bool) → eqb at d ≡ t → eqb (8 * at + 256) (8 * d + 256) ≡ t
      on_same true e = let here : at ≡ d = eqb-true at d e in eq-eqb (8 * at + 256) (8 * d + 256) (omega arith)
      on_same false e = ne_eqb (8 * at + 256) (8 * d + 256) (λ z. eqb-false at d e (omega arith))

  stable : (registers : Registers) (b : InterruptRequest) → (d + 64 ≤ indexed_entry registers b) ⊎ (indexed_entry registers b + 16 ≤ d)
      → Alike (interrupt_answer registers b windows image) (interrupt_answer registers b windows next)
  stable registers b away =
      rw (post.good, still)
      (alike registers b (of_windows windows image) (of_windows windows next)
      (same-entry windows image next post.good still 2 (indexed_entry registers b) (λ i small. far (indexed_entry registers b + i) (off i small away)))
      (λ at aligned. by at aligned (entry 8 (of_windows windows image) at) refl (entry 8 (of_windows windows next) at) refl (same_shape windows image next 8 at)))
    where
      kept : length next ≡ length image
      kept = length-written windows image (posted d u m)

      still : bad_windows windows (length next) ≡ false
      still = rw kept post.good

      off : (i : ℕ) → i < 8 * 2
          → (d + 64 ≤ indexed_entry registers b) ⊎ (indexed_entry registers b + 16 ≤ d) → (indexed_entry registers b + i < d) ⊎ (d + 64 ≤ indexed_entry registers b + i)
      off i small (inl over) = inr (omega arith)
      off i small (inr under) = inl (omega arith)

      by : (at : ℕ) → at % 64 ≡ 0 → (f : Fetched) → entry 8 (of_windows windows image) at ≡ f → (f' : Fetched) → entry 8 (of_windows windows next) at ≡ f'
          → Shape f f' → Descriptors f f'
      by at aligned missing there missing there' neither = none-there
      by at aligned missing there (found e') there' h = elim h [ ]
      by at aligned (found e) there missing there' h = elim h [ ]
      by at aligned (found e) there (found e') there' both =
          reserved-there (λ k from to.
          entry-bit windows next still (bytes-written windows image bytes (posted d u m)) 8 at k there' (omega arith)
          ∙ above_kept at k aligned (omega arith) to ∙ sym (entry-bit windows image post.good bytes 8 at k there (omega arith)))

-- whether nothing but ON holds a request's notification back: the request's entry is urgent or SN is clear. This, due-by and free-kept
-- are all that the rest knows of it
abbrev free : Registers → InterruptRequest → (windows image : List ℕ) → (d : ℕ) → Bool
free registers q windows image d = bit_at windows image (8 * indexed_entry registers q + 14) || not (bit_at windows image (8 * d + 257))

due-by : (registers : Registers) (q : InterruptRequest) (windows image : List ℕ) → AreBytes image → {d u : ℕ} {m : Notification}
    → interrupt_answer registers q windows image ≡ posted d u m → due m ≡ (not (bit_at windows image (8 * d + 256)) && free registers q windows image d)
due-by registers q windows image bytes {d} {u} {m} e = notification-exactly registers q windows image bytes d u m e

free-kept : (registers : Registers) (q : InterruptRequest) (windows image : List ℕ) (bytes : AreBytes image) (d u : ℕ) (m : Notification) (post : Stands windows image d u)
    → (d + 64 ≤ indexed_entry registers q) ⊎ (indexed_entry registers q + 16 ≤ d) → (at : ℕ) → at % 64 ≡ 0
    → free registers q windows (interrupt_written windows (posted d u m) image) at ≡ free registers q windows image at
free-kept registers q windows image bytes d u m post away at aligned =
    ap (λ (t : Bool). t || not (bit_at windows next' (8 * at + 257))) urgent-kept
    ∙ ap (λ (t : Bool). bit_at windows image (8 * indexed_entry registers q + 14) || not t)
    (above_kept windows image bytes d u m post at 257 aligned (omega arith) (omega arith))
  where
    next' : List ℕ
    next' = interrupt_written windows (posted d u m) image

    byte : ℕ
    byte = (8 * indexed_entry registers q + 14) / 8

    off : (d + 64 ≤ indexed_entry registers q) ⊎ (indexed_entry registers q + 16 ≤ d) → (byte < d) ⊎ (d + 64 ≤ byte)
    off (inl over) = inr (omega arith)
    off (inr under) = inl (omega arith)

    urgent-kept : bit_at windows next' (8 * indexed_entry registers q + 14) ≡ bit_at windows image (8 * indexed_entry registers q + 14)
    urgent-kept = ap (λ (b : ℕ). bit b ((8 * indexed_entry registers q + 14) % 8)) (far windows image bytes d u m post byte (off away))

module _ (registers : Registers) (windows image : List ℕ) (bytes : AreBytes image) where
  abbrev Same : (a b : InterruptRequest) → (o p : InterruptOutcome) → Type 0
  Same a b o p =
      (interrupt_written windows (interrupt_answer registers b windows (interrupt_written windows o image)) (interrupt_written windows o image) ≡ interrupt_written windows (interrupt_answer registers a windows (interrupt_written windows p image)) (interrupt_written windows p image))
      × (one-if (has_notification o) + (one-if (has_notification (interrupt_answer registers b windows (interrupt_written windows o image))) + 0)
      ≡ one-if (has_notification p) + (one-if (has_notification (interrupt_answer registers a windows (interrupt_written windows p image))) + 0))

  -- the second request's answer on what the first left windows
  after-other : (a b : InterruptRequest) (p : InterruptOutcome) → interrupt_answer registers b windows image ≡ p → Apart registers b a windows image
      → Alike (interrupt_answer registers a windows image) (interrupt_answer registers a windows (interrupt_written windows p image))
  after-other a b (posted d u m) e apart = stable windows image bytes d u m (post-known registers b windows image e) registers a (apart d u m e)
  after-other a b passed e apart = same
  after-other a b (remapped r) e apart = same
  after-other a b (blocked f) e apart = same
  after-other a b (refused number) e apart = same

  quiet-first : (a b : InterruptRequest) (o p : InterruptOutcome) → is_posted o ≡ false → interrupt_answer registers b windows image ≡ p
      → Alike o (interrupt_answer registers a windows (interrupt_written windows p image)) → Same a b o p
  quiet-first a b o p q e al =
      let left_alone : interrupt_written windows o image ≡ image = quiet-writes o q windows image in
      let second : interrupt_answer registers b windows (interrupt_written windows o image) ≡ p = ap (interrupt_answer registers b windows) left_alone ∙ e in
      let first : interrupt_answer registers a windows (interrupt_written windows p image) ≡ o = alike-quiet q al in
      (rw (second, first, left_alone, quiet-writes o q windows (interrupt_written windows p image)), rw (second, first) (omega arith))

  swapped : (a b : InterruptRequest) (o p : InterruptOutcome) → Same a b o p → Same b a p o
  swapped a b o p s = (sym s.0, sym s.1)

  module _ (a b : InterruptRequest) (d u e w : ℕ) (m n : Notification)
      (ea : interrupt_answer registers a windows image ≡ posted d u m) (eb : interrupt_answer registers b windows image ≡ posted e w n) where
    both-posts : Apart registers a b windows image → Apart registers b a windows image → Same a b (posted d u m) (posted e w n)
    both-posts ab ba =
        (rw (ob.1, oa.1) images, rw (ob.1, oa.1) numbers)
      where
        pa : Stands windows image d u
        pa = post-known registers a windows image ea

        pb : Stands windows image e w
        pb = post-known registers b windows image eb

        ia : List ℕ
        ia = interrupt_written windows (posted d u m) image

        ib : List ℕ
        ib = interrupt_written windows (posted e w n) image

        ob : (n' : Notification) × (interrupt_answer registers b windows ia ≡ posted e w n')
        ob = alike_post (rw eb at (after-other b a (posted d u m) ea ab))

        oa : (m' : Notification) × (interrupt_answer registers a windows ib ≡ posted d u m')
        oa = alike_post (rw ea at (after-other a b (posted e w n) eb ba))

        on : ℕ → Bool
        on x = bit_at windows image (8 * x + 256)

        fa : Bool
        fa = free registers a windows image d

        fb : Bool
        fb = free registers b windows image e

        dm : due m ≡ (not (on d) && fa)
        dm = due-by registers a windows image bytes ea

        dn : due n ≡ (not (on e) && fb)
        dn = due-by registers b windows image bytes eb

        dn' : due ob.0 ≡ (not (on e || due m && eqb e d) && fb)
        dn' =
            due-by registers b windows ia (bytes-written windows image bytes (posted d u m)) ob.1
            ∙ ap (λ (t : Bool). not t && free registers b windows ia e) (on-next windows image bytes d u m pa e pb.aligned)
            ∙ ap (λ (t : Bool). not (on e || due m && eqb e d) && t) (free-kept registers b windows image bytes d u m pa (ab d u m ea) e pb.aligned)

        dm' : due oa.0 ≡ (not (on d || due n && eqb d e) && fa)
        dm' =
            due-by registers a windows ib (bytes-written windows image bytes (posted e w n)) oa.1
            ∙ ap (λ (t : Bool). not t && free registers a windows ib d) (on-next windows image bytes e w n pb d pa.aligned)
            ∙ ap (λ (t : Bool). not (on d || due n && eqb d e) && t) (free-kept registers a windows image bytes e w n pb (ba e w n eb) d pa.aligned)

        -- each notification, where the descriptors are two and where they are one
        apart-n : eqb e d ≡ false → due ob.0 ≡ due n
        apart-n h = dn' ∙ ap (λ (t : Bool). not (on e || due m && t) && fb) h ∙ ap (λ (t : Bool). not t && fb) (or-and-false (on e) (due m)) ∙ sym dn

        apart-m : eqb d e ≡ false → due oa.0 ≡ due m
        apart-m h = dm' ∙ ap (λ (t : Bool). not (on d || due n && t) && fa) h ∙ ap (λ (t : Bool). not t && fa) (or-and-false (on d) (due n)) ∙ sym dm

        joint-n : d ≡ e → due n ≡ (not (on d) && fb)
        joint-n h = dn ∙ ap (λ (x : ℕ). not (on x) && fb) (sym h)

        joint-n' : d ≡ e → due ob.0 ≡ (not (on d || (not (on d) && fa)) && fb)
        joint-n' h =
            dn' ∙ ap (λ (t : Bool). not (on e || due m && t) && fb) (eq-eqb e d (sym h))
            ∙ ap (λ (t : Bool). not (on e || t) && fb) (and-true (due m) ∙ dm)
            ∙ ap (λ (x : ℕ). not (on x || (not (on d) && fa)) && fb) (sym h)

        joint-m' : d ≡ e → due oa.0 ≡ (not (on d || (not (on d) && fb)) && fa)
        joint-m' h =
            dm' ∙ ap (λ (t : Bool). not (on d || due n && t) && fa) (eq-eqb d e h)
            ∙ ap (λ (t : Bool). not (on d || t) && fa) (and-true (due n) ∙ joint-n h)

        -- where the descriptors stand in the run
        p : ℕ
        p = pa.place

        q : ℕ
        q = pb.place

        one_place : d ≡ e → p ≡ q
        one_place h =
            let both : here p pa.left ≡ here q pb.left = sym pa.there ∙ ap (spot_in (windows_of windows) 64) h ∙ pb.there in
            cc

        marks : (t : Bool) → eqb e d ≡ t
            → mark (due ob.0) q (set_bit q w (mark (due m) p (set_bit p u image)))
            ≡ mark (due oa.0) p (set_bit p u (mark (due n) q (set_bit q w image)))
        marks true h =
            let one : d ≡ e = sym (eqb-true e d h) in
            rw (joint-n' one, joint-m' one, joint-n one, dm) (one-descriptor p u q w image (one_place one) (on d) fa fb)
        marks false h =
            let two : eqb d e ≡ false = ne_eqb d e (λ z. eqb-false e d h (sym z)) in
            rw (apart-n h, apart-m two) (two-descriptors p u q w image (due m) (due n))

        images : interrupt_written windows (posted e w ob.0) ia ≡ interrupt_written windows (posted d u oa.0) ib
        images =
            written-there windows ia e w ob.0 pb.there
            ∙ marked q ob.0 (set_bit q w ia)
            ∙ ap (λ (J : List ℕ). mark (due ob.0) q (set_bit q w J)) (written-there windows image d u m pa.there ∙ marked p m (set_bit p u image))
            ∙ marks (eqb e d) refl
            ∙ ap (λ (J : List ℕ). mark (due oa.0) p (set_bit p u J)) (sym (written-there windows image e w n pb.there ∙ marked q n (set_bit q w image)))
            ∙ sym (written-there windows ib d u oa.0 pa.there ∙ marked p oa.0 (set_bit p u ib))

        numbered : (t : Bool) → eqb e d ≡ t → one-if (due m) + (one-if (due ob.0) + 0) ≡ one-if (due n) + (one-if (due oa.0) + 0)
        numbered true h =
            let one : d ≡ e = sym (eqb-true e d h) in
            rw (joint-n' one, joint-m' one, joint-n one, dm) (one-notification (on d) fa fb)
        numbered false h =
            let two : eqb d e ≡ false = ne_eqb d e (λ z. eqb-false e d h (sym z)) in
            rw (apart-n h, apart-m two) (omega arith)

        numbers : one-if (due m) + (one-if (due ob.0) + 0) ≡ one-if (due n) + (one-if (due oa.0) + 0)
        numbers = numbered (eqb e d) refl

pub either_order : EitherOrder
unfolding left count_in after
either_order registers a b windows image bytes ab ba = by (interrupt_answer registers a windows image) refl (interrupt_answer registers b windows image) refl
  where
    quiet-a : (o : InterruptOutcome) → is_posted o ≡ false → interrupt_answer registers a windows image ≡ o → (p : InterruptOutcome) → interrupt_answer registers b windows image ≡ p
        → Same registers windows image bytes a b o p
    quiet-a o q ea p eb = quiet-first registers windows image bytes a b o p q eb (rw ea at (after-other registers windows image bytes a b p eb ba))

    quiet-b : (o : InterruptOutcome) → interrupt_answer registers a windows image ≡ o → (p : InterruptOutcome) → is_posted p ≡ false → interrupt_answer registers b windows image ≡ p
        → Same registers windows image bytes a b o p
    quiet-b o ea p q eb =
        swapped registers windows image bytes b a p o
        (quiet-first registers windows image bytes b a p o q ea (rw eb at (after-other registers windows image bytes b a o ea ab)))

    by : (o : InterruptOutcome) → interrupt_answer registers a windows image ≡ o → (p : InterruptOutcome) → interrupt_answer registers b windows image ≡ p
        → Same registers windows image bytes a b o p
    by passed ea p eb = quiet-a passed refl ea p eb
    by (remapped r) ea p eb = quiet-a (remapped r) refl ea p eb
    by (blocked f) ea p eb = quiet-a (blocked f) refl ea p eb
    by (refused number) ea p eb = quiet-a (refused number) refl ea p eb
    by (posted d u m) ea passed eb = quiet-b (posted d u m) ea passed refl eb
    by (posted d u m) ea (remapped r) eb = quiet-b (posted d u m) ea (remapped r) refl eb
    by (posted d u m) ea (blocked f) eb = quiet-b (posted d u m) ea (blocked f) refl eb
    by (posted d u m) ea (refused number) eb = quiet-b (posted d u m) ea (refused number) refl eb
    by (posted d u m) ea (posted e w n) eb = both-posts registers windows image bytes a b d u e w m n ea eb ab ba
