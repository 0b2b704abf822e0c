-- What a request writes: its flags, where it is granted.
use Prim.Native.Nat.{ℕ, ◌/◌}
use mathlib.Core.Bool.{Bool, true, false, ◌&&◌, ◌||◌, or-false}
use mathlib.Core.List.{List, []}
use mathlib.Core.Path.{◌≡◌, refl, ap, sym, ◌∙◌}
use lib.ListN.{length}
use Rattle.std.specs.Prelude.{if◌then◌else◌}
use Rattle.image.specs.Memory.{Memory}
use Rattle.image.specs.Rules.{Rules, answer, run, map_rules}
use Rattle.image.specs.Windows.{of_windows, bad_windows}
use Rattle.image.proofs.Trees.{run-map}
use Rattle.registers.specs.Admission.{Admitted, refusal, pass, taken_up, admission, on_admission, in_interrupt_range}
use Rattle.interrupts.specs.Claims.{bit_at}
use Rattle.dma.specs.InterruptRange.{meets_interrupt_range, span_at}
use Rattle.dma.specs.Requests.{granted, refused}
use Rattle.pasid.specs.declared.ScalableRegisters.{ScalableRegisters}
use Rattle.flags.specs.Claims.{among, is_shown}
use Rattle.flags.specs.Flags.{set_flags}
use Rattle.flags.proofs.Exact.{sets-flags}
use Rattle.nested.specs.Pages.{reached, fault}
use Rattle.scalable.specs.Isolation.{ScalableSetsExactly, ScalableLeavesAll}
use Rattle.scalable.specs.Requests.{Translation, through, translated, pasid_too_wide, translation_rules, Decision, say_only, decision, taken_rules, scalable_rules}
use Rattle.scalable.specs.declared.ScalableRequest.{ScalableRequest}

abbrev NotGranted : Decision → Type 0
NotGranted d = (address : ℕ) → d.outcome ≡ granted address → ⊥

-- only a granted request has flags
none-decided : (q : ScalableRequest) (t : Translation) → NotGranted (decision q t) → (decision q t).flags ≡ []
none-decided q through h = refl
none-decided q (translated (reached frame level host flags)) h = by (meets_interrupt_range frame (span_at level)) h
  where
    by : (b : Bool) → NotGranted (if b then say_only (refused 4) else record { outcome = granted host; flags = flags })
        → (if b then say_only (refused 4) else record { outcome = granted host; flags = flags }).flags ≡ []
    by true h = refl
    by false h = absurd (h host refl)
none-decided q (translated (fault reason fpd)) h = refl

module _ (r : ScalableRegisters) (q : ScalableRequest) (m : Memory) where
  abbrev rules : Rules Translation
  rules = translation_rules r q.address q.write q.pasid q.source.id

  none-taken : NotGranted (run (taken_rules r q) m) → (run (taken_rules r q) m).flags ≡ []
  unfolding run
  none-taken = by (pasid_too_wide q.pasid)
    where
      by : (b : Bool) → NotGranted (run (if b then answer (say_only (refused 6)) else map_rules (decision q) rules) m)
          → (run (if b then answer (say_only (refused 6)) else map_rules (decision q) rules) m).flags ≡ []
      by true h = refl
      by false h =
          let is = run-map (decision q) rules m in
          ap (λ (d : Decision). d.flags) is ∙ none-decided q (run rules m) (λ address e. h address (ap (λ (d : Decision). d.outcome) is ∙ e))

  abbrev after : Admitted → Decision
  after a =
      run (on_admission a (λ number. say_only (refused number)) (say_only (if pasid_too_wide q.pasid then refused 6 else granted q.address)) (taken_rules r q)) m

  none-set : NotGranted (run (scalable_rules r q) m) → (run (scalable_rules r q) m).flags ≡ []
  unfolding scalable_rules run
  none-set = by (admission r.base (in_interrupt_range q.address) r.base.te)
    where
      by : (a : Admitted) → NotGranted (after a) → (after a).flags ≡ []
      by (refusal n) h = refl
      by pass h = refl
      by taken_up h = none-taken h

pub scalable-leaves-all : ScalableLeavesAll
unfolding set_flags
scalable-leaves-all r q windows bytes none = ap (λ (l : List ℕ). set_flags windows l bytes) (by (bad_windows windows (length bytes)) none)
  where
    by : (b : Bool) → NotGranted (if b then say_only (refused 1) else run (scalable_rules r q) (of_windows windows bytes))
        → (if b then say_only (refused 1) else run (scalable_rules r q) (of_windows windows bytes)).flags ≡ []
    by true h = refl
    by false h = none-set r q (of_windows windows bytes) h

pub scalable-sets-exactly : ScalableSetsExactly
unfolding set_flags among
scalable-sets-exactly r q windows bytes n = by (bad_windows windows (length bytes)) refl
  where
    none : (b s : Bool) → b ≡ (b || s && false)
    none b true = sym (or-false b)
    none b false = sym (or-false b)

    by : (b : Bool) → bad_windows windows (length bytes) ≡ b
        → bit_at windows (set_flags windows (if b then say_only (refused 1) else run (scalable_rules r q) (of_windows windows bytes)).flags bytes) n
        ≡ (bit_at windows bytes n
        || is_shown windows (n / 8) && among n (if b then say_only (refused 1) else run (scalable_rules r q) (of_windows windows bytes)).flags)
    by true e = none (bit_at windows bytes n) (is_shown windows (n / 8))
    by false e = sets-flags windows (run (scalable_rules r q) (of_windows windows bytes)).flags bytes e n
