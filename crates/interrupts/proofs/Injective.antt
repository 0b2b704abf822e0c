-- No two answers of the code stand for the same outcome.
use Prim.Native.Nat.{ℕ, ◌^◌, ◌<◌}
use mathlib.Core.Path.{◌≡◌, refl, ap, ap₂, sym, ◌∙◌}
use native.Mathlib.Omega.{arith}
use Rattle.std.specs.Prelude.{Option, Some, None}
use Rattle.image.specs.Answers.{place_of}
use Rattle.image.proofs.Places.{place_of-injective}
use Rattle.faults.specs.Answers.{fault_of}
use Rattle.faults.specs.declared.fault.Fault.{Fault}
use Rattle.faults.proofs.Contents.{fault_of-injective}
use Rattle.interrupts.specs.Answers.{outcome_of, entry_of}
use Rattle.interrupts.specs.Answers.{due_of}
use Rattle.interrupts.specs.Descriptor as descriptor
use Rattle.interrupts.specs.Interrupts as rules
use Rattle.interrupts.specs.declared.answer.InterruptAnswer.{InterruptAnswer}
use Rattle.interrupts.specs.declared.answer.InterruptAnswer.TheVariants.{Passed, Remapped, Posted, Blocked, Refused}
use Rattle.interrupts.specs.declared.answer.Posted as post
use Rattle.interrupts.specs.declared.descriptor.Notice.{Notice}

-- a fault's words are words
abbrev pub Sized : InterruptAnswer → Type 0
Sized (Blocked f at) = f.low < 2 ^ 64
Sized Passed = Unit {0}
Sized (Remapped r) = Unit {0}
Sized (Posted p) = Unit {0}
Sized (Refused n) = Unit {0}

abbrev notification_back : descriptor.Notification → Option Notice
notification_back descriptor.silent = None
notification_back (descriptor.notification vector destination) = Some (record { vector = vector; destination = destination })

notification-back : (n : Option Notice) → notification_back (due_of n) ≡ n
notification-back None = refl
notification-back (Some n) = refl

-- the answer of an outcome; for a fault, this one
abbrev answer_back : InterruptAnswer → rules.InterruptOutcome → InterruptAnswer
answer_back fault rules.passed = Passed
answer_back fault (rules.remapped r) =
    Remapped
    (record {
      destination_mode = r.destination_mode;
      redirection_hint = r.redirection_hint;
      trigger = r.trigger;
      delivery = r.delivery;
      vector = r.vector;
      destination = r.destination;
    })
answer_back fault (rules.posted at vector n) = Posted (record { descriptor = at; vector = vector; notification = notification_back n })
answer_back fault (rules.blocked f) = fault
answer_back fault (rules.refused number) = Refused number

post-back : (fault : InterruptAnswer) (p : post.Posted) → answer_back fault (outcome_of (Posted p)) ≡ Posted p
post-back fault p =
    ap (λ (n : Option Notice). Posted (record { descriptor = p.descriptor; vector = p.vector; notification = n })) (notification-back p.notification)

back : (r : InterruptAnswer) → answer_back r (outcome_of r) ≡ r
back Passed = refl
back (Remapped r) = refl
back (Posted p) = post-back (Posted p) p
back (Blocked f at) = refl
back (Refused n) = refl

same-fault : (r : InterruptAnswer) (g : Fault) (at : Option ℕ) → Sized r → g.low < 2 ^ 64 → outcome_of r ≡ rules.blocked (fault_of g)
    → entry_of r ≡ place_of at → r ≡ Blocked g at
same-fault (Blocked f at) g at' sf sg e p = ap₂ Blocked (fault_of-injective f g sf sg cc) (place_of-injective at at' p)
same-fault Passed g at sf sg e p = let z : ◌≡◌ {A = ℕ} 0 1 = cc in absurd (omega arith)
same-fault (Remapped r) g at sf sg e p = let z : ◌≡◌ {A = ℕ} 0 1 = cc in absurd (omega arith)
same-fault (Posted p) g at sf sg e q = let z : ◌≡◌ {A = ℕ} 0 1 = cc in absurd (omega arith)
same-fault (Refused n) g at sf sg e p = let z : ◌≡◌ {A = ℕ} 0 1 = cc in absurd (omega arith)

pub outcome_of-injective : (r s : InterruptAnswer) → Sized r → Sized s → outcome_of r ≡ outcome_of s → entry_of r ≡ entry_of s → r ≡ s
outcome_of-injective r (Blocked g at) sr ss e p = same-fault r g at sr ss e p
outcome_of-injective r Passed sr ss e p = sym (back r) ∙ ap (answer_back r) e
outcome_of-injective r (Remapped x) sr ss e p = sym (back r) ∙ ap (answer_back r) e
outcome_of-injective r (Posted p) sr ss e q = sym (back r) ∙ ap (answer_back r) e ∙ post-back r p
outcome_of-injective r (Refused n) sr ss e p = sym (back r) ∙ ap (answer_back r) e
