use Prim.Native.Nat.{ℕ}
use mathlib.Core.Bool.{false}
use mathlib.Core.List.{List}
use mathlib.Core.Path.{◌≡◌, refl, ap, sym, subst, ◌∙◌}
use lib.ListN.{length}
use Rattle.image.specs.Answers.{memory_of}
use Rattle.image.specs.Windows.{of_windows, bad_windows}
use Rattle.image.proofs.Opened.{fine, shown}
use Rattle.registers.specs.declared.Registers.{Registers}
use Rattle.interrupts.specs.Answers.{outcome_of, entry_of}
use Rattle.interrupts.specs.Interrupts.{InterruptOutcome, interrupt_answer, interrupt_answer_place}
use Rattle.interrupts.specs.Post.{interrupt_written}
use Rattle.interrupts.specs.declared.InterruptRequest.{InterruptRequest}
use Rattle.interrupts.specs.declared.answer.InterruptAnswer.TheVariants as answer
use Rattle.interrupts.specs.declared.answer.Posted as posted
use Rattle.interrupts.proofs.Raised.{Stands, Within, within}
use Rattle.interrupts.proofs.Posts.{unposted}
use Rattle.interrupts.proofs.interrupt_request.Goals.{After-decide-answer}
use Rattle.interrupts.proofs.interrupt_request.Goals as goal

-- windows that are refused
pub returns-in_default : goal.returns-in_default
returns-in_default c = let bad = c.in_default.ensures in rw bad (record { result_value = refl; result_value_2 = refl; image_after = refl })

module _ (c : After-decide-answer) where
  abbrev registers : Registers
  registers = c.args.registers

  abbrev request : InterruptRequest
  request = c.args.request

  abbrev windows : List ℕ
  windows = c.args.windows.now

  abbrev bytes : List ℕ
  bytes = c.args.image.now

  good : bad_windows windows (length bytes) ≡ false
  good = fine c.in-Some.memory c.in-Some.ensures

  there : memory_of c.in-Some.memory ≡ of_windows windows bytes
  there = shown c.in-Some.memory c.in-Some.ensures

  decided : outcome_of c.decide-answer.result ≡ interrupt_answer registers request windows bytes
  decided = rw good (rw there at c.decide-answer.ensures.result_value)

  concerned : entry_of c.decide-answer.result ≡ interrupt_answer_place registers request windows bytes
  concerned = rw good (rw there at c.decide-answer.ensures.result_value_2)

  -- a post's descriptor stands in a window
  stands : {p : posted.Posted} → c.decide-answer.result ≡ answer.Posted p → Stands windows bytes p.descriptor p.vector
  stands told =
      subst (λ (o : InterruptOutcome). Within windows bytes o) (sym (sym (ap outcome_of told) ∙ decided)) (within registers request windows bytes)

-- what was decided is the answer over windows that aren't refused
pub write_post-requires : goal.write_post-requires
write_post-requires c =
    let s = stands (goal.at.write_post-requires c).After-decide-answer c.in-Posted.is in
    (s.good, (s.place, s.left, s.there), s.aligned)

pub returns-in-Posted : goal.returns-in-Posted
returns-in-Posted c =
    let k = (goal.at.returns-in-Posted c).After-decide-answer in
    let same = sym (ap outcome_of c.in-Posted.is) ∙ decided k in
    let place = sym (ap entry_of c.in-Posted.is) ∙ concerned k in
    record {
      result_value = same;
      result_value_2 = place;
      image_after = c.write_post.ensures ∙ ap (λ (o : InterruptOutcome). interrupt_written (windows k) o (bytes k)) same;
    }

pub returns-in_default-answer : goal.returns-in_default-answer
returns-in_default-answer c =
    let k = (goal.at.returns-in_default-answer c).After-decide-answer in
    let left = unposted c.decide-answer.result (windows k) (bytes k) c.in_default-answer.not-Posted in
    record {
      result_value = decided k;
      result_value_2 = concerned k;
      image_after = left ∙ ap (λ (o : InterruptOutcome). interrupt_written (windows k) o (bytes k)) (decided k);
    }
