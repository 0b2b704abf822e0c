-- Runs of interrupt requests and takes over one lent run of bytes, each made on what the one before it left. The windows stay.
use Rattle.std.specs.Prelude.{ℕ, zero, suc, ◌+◌, ◌*◌, Bool, true, false, not, ◌&&◌, List, [], ◌∷◌, eqb, leb}
use Rattle.image.specs.Choice.{one-if}
use Rattle.registers.specs.declared.Registers.{Registers}
use Rattle.interrupts.specs.Claims.{bit_at, due}
use Rattle.interrupts.specs.Interrupts.{InterruptOutcome, passed, remapped, posted, blocked, refused, interrupt_answer}
use Rattle.interrupts.specs.Post.{interrupt_written}
use Rattle.interrupts.specs.declared.InterruptRequest.{InterruptRequest}
use Rattle.takes.specs.Take as rules
use Rattle.takes.specs.Take.{TakeOutcome, take_written, take_answer}

-- an operation with its arguments, whatever they are: each brings its own registers
pub data Operation : Type 0 where
  -- an interrupt request, which may post
  request : Registers → InterruptRequest → Operation
  take_from : Registers → (descriptor : ℕ) → Operation

-- how many places from low to below n a test holds of
unfoldable pub count_from : (low n : ℕ) → (ℕ → Bool) → ℕ
count_from low zero test = 0
count_from low (suc n) test = count_from low n test + one-if (leb low n && test n)

-- by its answer, a take was not refused; it handed out this vector
abbrev pub unrefused : TakeOutcome → Bool
unrefused (rules.handed v) = true
unrefused rules.none = true
unrefused (rules.refused number) = false

abbrev pub hands : (vector : ℕ) → TakeOutcome → Bool
hands vector (rules.handed v) = eqb v vector
hands vector rules.none = false
hands vector (rules.refused number) = false

-- by its answer, a request posted to this descriptor at or above this vector; it has a notification
abbrev pub posts_from : (descriptor vector : ℕ) → InterruptOutcome → Bool
posts_from descriptor vector (posted d v n) = eqb d descriptor && leb vector v
posts_from descriptor vector passed = false
posts_from descriptor vector (remapped r) = false
posts_from descriptor vector (blocked f) = false
posts_from descriptor vector (refused number) = false

-- it posted this vector to this descriptor
abbrev pub posts_vector : (descriptor vector : ℕ) → InterruptOutcome → Bool
posts_vector descriptor vector (posted d v n) = eqb d descriptor && eqb v vector
posts_vector descriptor vector passed = false
posts_vector descriptor vector (remapped r) = false
posts_vector descriptor vector (blocked f) = false
posts_vector descriptor vector (refused number) = false

abbrev pub has_notification : InterruptOutcome → Bool
has_notification (posted d v n) = due n
has_notification passed = false
has_notification (remapped r) = false
has_notification (blocked f) = false
has_notification (refused number) = false

module _ (windows : List ℕ) where
  unfoldable pub after : Operation → List ℕ → List ℕ
  after (request registers r) bytes = interrupt_written windows (interrupt_answer registers r windows bytes) bytes
  after (take_from registers descriptor) bytes = take_written windows descriptor (take_answer registers descriptor windows bytes) bytes

  -- what a run leaves
  unfoldable pub left : List Operation → List ℕ → List ℕ
  left [] bytes = bytes
  left (o ∷ os) bytes = left os (after o bytes)

  -- how many operations of a run are of a kind, each judged on the bytes that it met
  unfoldable pub count_in : (Operation → List ℕ → Bool) → List Operation → List ℕ → ℕ
  count_in kind [] bytes = 0
  count_in kind (o ∷ os) bytes = one-if (kind o bytes) + count_in kind os (after o bytes)

  -- whether a vector's request bit stands in a descriptor
  abbrev pub stands : (descriptor : ℕ) → List ℕ → (vector : ℕ) → Bool
  stands descriptor bytes vector = bit_at windows bytes (8 * descriptor + vector)

  -- how many request bits stand in a descriptor at or above a vector
  abbrev pub standing_from : (descriptor vector : ℕ) → List ℕ → ℕ
  standing_from descriptor vector bytes = count_from vector 256 (stands descriptor bytes)

  -- the kinds that the claims count: an unrefused take at a descriptor, one that hands out the vector, a post to the descriptor
  -- at or above the vector, and a post with a notification
  abbrev pub takes_at : (descriptor : ℕ) → Operation → List ℕ → Bool
  takes_at descriptor (request registers r) bytes = false
  takes_at descriptor (take_from registers d) bytes = eqb d descriptor && unrefused (take_answer registers d windows bytes)

  abbrev pub hands_out : (descriptor vector : ℕ) → Operation → List ℕ → Bool
  hands_out descriptor vector (request registers r) bytes = false
  hands_out descriptor vector (take_from registers d) bytes = eqb d descriptor && hands vector (take_answer registers d windows bytes)

  abbrev pub posts_at : (descriptor vector : ℕ) → Operation → List ℕ → Bool
  posts_at descriptor vector (request registers r) bytes = posts_from descriptor vector (interrupt_answer registers r windows bytes)
  posts_at descriptor vector (take_from registers d) bytes = false

  -- a post of the vector to the descriptor that found its request bit clear
  abbrev pub posts_clear : (descriptor vector : ℕ) → Operation → List ℕ → Bool
  posts_clear descriptor vector (request registers r) bytes =
      posts_vector descriptor vector (interrupt_answer registers r windows bytes) && not (stands descriptor bytes vector)
  posts_clear descriptor vector (take_from registers d) bytes = false

  abbrev pub notifications : Operation → List ℕ → Bool
  notifications (request registers r) bytes = has_notification (interrupt_answer registers r windows bytes)
  notifications (take_from registers d) bytes = false
