-- What is claimed of requests in scalable mode as it is of legacy ones.
use Prim.Native.Nat.{ℕ}
use mathlib.Core.Bool.{Bool, true, false}
use mathlib.Core.List.{[]}
use mathlib.Core.Logic.{◌⊎◌, inl, inr}
use mathlib.Core.Path.{◌≡◌, refl, sym, ◌∙◌, subst}
use native.Mathlib.Omega.{arith}
use Rattle.std.specs.Prelude.{if◌then◌else◌}
use Rattle.image.specs.Place.{no_entry, stopped_at}
use Rattle.image.specs.Rules.{Rules, answer, run, named, map_rules}
use Rattle.image.proofs.Places.{Some, some-fetch, tried-map}
use Rattle.image.proofs.Unfetched.{ends-unfetched}
use Rattle.registers.specs.Admission.{Admitted, refusal, pass, taken_up, admission, on_admission, in_interrupt_range}
use Rattle.registers.specs.Registers.{registers_bad}
use Rattle.dma.specs.InterruptRange.{meets_interrupt_range, span_at}
use Rattle.dma.specs.Requests.{MemoryOutcome, granted, blocked, refused, concerned}
use Rattle.dma.proofs.NoInterrupt.{whole-frame-tested}
use Rattle.pasid.specs.Record.{scalable_fault}
use Rattle.pasid.specs.declared.ScalableRegisters.{ScalableRegisters}
use Rattle.flags.proofs.Exact.{stays-inside}
use Rattle.nested.specs.Pages.{reached, fault}
use Rattle.nested.specs.Then.{then_rules}
use Rattle.scalable.specs.Isolation.{access_fault}
use Rattle.scalable.specs.Lookup.{lookup_rules}
use Rattle.scalable.specs.Requests.{Translation, through, translated, pasid_too_wide, translation_rules, Decision, say_only, decision, taken_rules, scalable_rules, scalable_decision}
use Rattle.scalable.specs.declared.ScalableRequest.{ScalableRequest}
use Rattle.claims.specs.ScalableClaims.{ScalableAccessMeansUnfetched, ScalableStaysInside, ScalableNoInterruptGranted, ScalableNoneUntaken, ScalableAlwaysAnEntry}
use Rattle.claims.proofs.ScalableTold.{Told, told-answer, told-if, told-map, told-inside, told-run}
use Rattle.claims.proofs.ScalableAnswers.{OutTranslation, SaysTranslation, translation-told}

pub scalable-stays-inside : ScalableStaysInside
scalable-stays-inside r q windows bytes = stays-inside windows (scalable_decision r q windows bytes).flags bytes

abbrev NoInterrupt : MemoryOutcome → Type 0
NoInterrupt (granted host) = in_interrupt_range host ≡ false
NoInterrupt (blocked f) = Unit {0}
NoInterrupt (refused number) = Unit {0}

abbrev Out : Decision → Type 0
Out d = NoInterrupt d.outcome

abbrev Says : Decision → Type 0
Says d = (access_fault d.outcome ≡ false) × NoInterrupt d.outcome

module _ (q : ScalableRequest) where
  decided-out : (t : Translation) → OutTranslation t → Out (decision q t)
  decided-out through h = absurd h
  decided-out (translated (reached frame level host flags)) h = absurd h
  decided-out (translated (fault reason fpd)) h = tt

  decided-says : in_interrupt_range q.address ≡ false → (t : Translation) → SaysTranslation t → Says (decision q t)
  unfolding scalable_fault
  decided-says free through h = (refl, free)
  decided-says free (translated (reached frame level host flags)) h = by (meets_interrupt_range frame (span_at level)) refl
    where
      by : (meets : Bool) → meets_interrupt_range frame (span_at level) ≡ meets
          → Says (if meets then say_only (refused 4) else record { outcome = granted host; flags = flags })
      by true told = (refl, tt)
      by false told =
          (refl, (whole-frame-tested frame (span_at level) (omega (arith, h.0, h.1))).clear told host h.0 h.1)
  decided-says free (translated (fault reason fpd)) h = (h, tt)

  wide-says : in_interrupt_range q.address ≡ false → (wide : Bool) → Says (say_only (if wide then refused 6 else granted q.address))
  wide-says free true = (refl, tt)
  wide-says free false = (refl, free)

module _ (r : ScalableRegisters) (q : ScalableRequest) where
  abbrev rules : Rules Translation
  rules = translation_rules r q.address q.write q.pasid q.source.id

  abbrev tree : Admitted → Rules Decision
  tree a = on_admission a (λ number. say_only (refused number)) (say_only (if pasid_too_wide q.pasid then refused 6 else granted q.address)) (taken_rules r q)

  taken-told : in_interrupt_range q.address ≡ false → Told Out Says (taken_rules r q)
  taken-told free =
      told-if Out Says (pasid_too_wide q.pasid) (answer (say_only (refused 6))) (map_rules (decision q) rules) (told-answer Out Says (say_only (refused 6)) (refl, tt))
      (told-map (decision q) OutTranslation SaysTranslation Out Says (decided-out q) (decided-says q free) rules
      (translation-told r q.address q.write q.pasid q.source.id))

  -- an address in the interrupt range is refused, so that no other is decided on
  request-told : Told Out Says (scalable_rules r q)
  unfolding scalable_rules admission
  request-told = by (registers_bad r.base) (in_interrupt_range q.address) r.base.te refl
    where
      by : (bad wrong on : Bool) → in_interrupt_range q.address ≡ wrong
          → Told Out Says (tree (if bad then refusal 1 else if wrong then refusal 2 else if on then taken_up else pass))
      by true wrong on h = told-answer Out Says (say_only (refused 1)) (refl, tt)
      by false true on h = told-answer Out Says (say_only (refused 2)) (refl, tt)
      by false false true h = taken-told h
      by false false false h = told-answer Out Says _ (wide-says q h (pasid_too_wide q.pasid))

pub scalable-access-means-unfetched : ScalableAccessMeansUnfetched
scalable-access-means-unfetched r q m =
    ends-unfetched (λ d. access_fault d.outcome ≡ true) m (scalable_rules r q)
    (told-inside Out Says (λ d. access_fault d.outcome ≡ true) never (scalable_rules r q) (request-told r q))
  where
    never : (d : Decision) → Says d → access_fault d.outcome ≡ true → ⊥
    never d h is =
        let z : ◌≡◌ {A = Bool} true false = sym is ∙ h.0 in
        let y : ◌≡◌ {A = ℕ} 0 1 = cc in
        omega arith

pub scalable-no-interrupt-granted : ScalableNoInterruptGranted
scalable-no-interrupt-granted r q m host was =
    subst NoInterrupt was (told-run Out Says Out (λ d h. h) (λ d h. h.1) (scalable_rules r q) m (request-told r q))

pub scalable-none-untaken : ScalableNoneUntaken
unfolding scalable_rules named
scalable-none-untaken r q m = on (admission r.base (in_interrupt_range q.address) r.base.te) refl
  where
    on : (k : Admitted) → k ≡ admission r.base (in_interrupt_range q.address) r.base.te
        → (taken_up ≡ admission r.base (in_interrupt_range q.address) r.base.te → ⊥) ⊎ (pasid_too_wide q.pasid ≡ true)
        → named (tree r q k) m ≡ []
    on (refusal n) h not = refl
    on pass h not = refl
    on taken_up h (inl not) = absurd (not h)
    on taken_up h (inr wide) = rw wide

pub scalable-always-an-entry : ScalableAlwaysAnEntry
unfolding scalable_rules run lookup_rules then_rules
scalable-always-an-entry r q m f ended none = on (admission r.base (in_interrupt_range q.address) r.base.te) (pasid_too_wide q.pasid) ended none
  where
    taken : Bool → Rules Decision
    taken wide = if wide then answer (say_only (refused 6)) else map_rules (decision q) (rules r q)

    whole : Admitted → Bool → Rules Decision
    whole a wide = on_admission a (λ number. say_only (refused number)) (say_only (if wide then refused 6 else granted q.address)) (taken wide)

    on : (a : Admitted) (wide : Bool) → (run (whole a wide) m).outcome ≡ blocked f
        → concerned (run (whole a wide) m).outcome (stopped_at (whole a wide) m) ≡ no_entry → ⊥
    on (refusal n) wide ended none = let z : ◌≡◌ {A = ℕ} 0 1 = cc in omega arith
    on pass true ended none = let z : ◌≡◌ {A = ℕ} 0 1 = cc in omega arith
    on pass false ended none = let z : ◌≡◌ {A = ℕ} 0 1 = cc in omega arith
    on taken_up true ended none = let z : ◌≡◌ {A = ℕ} 0 1 = cc in omega arith
    on taken_up false ended none =
        let there : stopped_at (whole taken_up false) m ≡ no_entry = rw ended at none in
        subst Some (sym (tried-map (decision q) no_entry (rules r q) m) ∙ there) (some-fetch _ _ _ _ m)
