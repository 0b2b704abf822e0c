-- What every fork of an interrupt request's rules satisfies, and every answer: the one traversal of its tree.
use Prim.Native.Nat.{ℕ, ◌+◌, ◌^◌}
use mathlib.Core.Bool.{Bool, true, false, not, ◌||◌}
use mathlib.Core.Path.{◌≡◌, refl, sym, ◌∙◌, subst}
use native.Mathlib.Omega.{arith}
use borrow.Author.Tests.{eqb-true}
use lib.Dec.{eqb, leb}
use Rattle.image.specs.Bits.{bit}
use Rattle.image.specs.Check.{Check, stop, go, on_check}
use Rattle.image.specs.EntryKind.{EntryKind, words_of, posted_descriptor}
use Rattle.image.specs.Rules.{Rules, answer, fetch, map_rules}
use Rattle.image.proofs.Choices.{either}
use Rattle.image.proofs.Forks.{Every, every-answer, every-fetch, every_map, every-weaken}
use Rattle.image.proofs.Stages.{check-cases}
use Rattle.registers.specs.declared.Registers.{Registers}
use Rattle.faults.specs.Record.{interrupt_fault}
use Rattle.irte.specs.Irte.{Irte, remaps, posts, reserved_irte, irte_check, fault_processing_disabled}
use Rattle.irte.specs.Source.{source_allowed}
use Rattle.interrupts.specs.Claims.{whole_index, indexed_entry, before_table, access_reason, AccessFault}
use Rattle.interrupts.specs.Descriptor.{reserved_descriptor, descriptor_check}
use Rattle.interrupts.specs.Interrupts.{Delivery, fault, remap, post, on_irte, descriptor_rules, index_rules, InterruptOutcome, passed, remapped, posted, refused, blocked, delivered, interrupt_rules}
use Rattle.interrupts.specs.declared.InterruptRequest.{InterruptRequest}
use Rattle.interrupts.proofs.Requests.{early, request-cases}

-- an entry that can't be fetched is answered with an access fault
abbrev pub Fork : EntryKind → ℕ → InterruptOutcome → Type 0
Fork kind at o = AccessFault o

-- and no other answer is an access fault
abbrev pub Ends : InterruptOutcome → Type 0
Ends o = AccessFault o → ⊥

-- behind the table's entry no answer is one that is given before the table
abbrev pub Late : InterruptOutcome → Type 0
Late o = before_table o ≡ true → ⊥

differ : ◌≡◌ {A = Bool} true false → ⊥
differ h = let z : ◌≡◌ {A = ℕ} 0 1 = cc in omega arith

-- the reasons of faults before the table aren't those of access faults
not-early : (reason : ℕ) → early reason ≡ true → access_reason reason ≡ false
not-early reason h = by (eqb reason 0x20) refl (eqb reason 0x21) refl h
  where
    is : (n : ℕ) → eqb reason n ≡ true → access_reason n ≡ false → access_reason reason ≡ false
    is n e other = rw (eqb-true reason n e) other

    by : (a : Bool) → eqb reason 0x20 ≡ a → (b : Bool) → eqb reason 0x21 ≡ b → (a || b || eqb reason 0x25) ≡ true → access_reason reason ≡ false
    by true e b f h = is 0x20 e refl
    by false e true f h = is 0x21 f refl
    by false e false f h = is 0x25 h refl

pub access-late : (o : InterruptOutcome) → AccessFault o → Late o
access-late (blocked f) is h = differ (sym is ∙ not-early f.reason h)
access-late passed is h = is
access-late (remapped r) is h = is
access-late (posted descriptor vector n) is h = is
access-late (refused number) is h = is

-- a check that stops stops with another reason
abbrev Otherwise : {A : Type 0} → Check A → Type 0
Otherwise (stop reason) = (access_reason reason ≡ false) × (early reason ≡ false)
Otherwise (go a) = Unit {0}

irte-otherwise : (registers : Registers) (source e : ℕ) → Otherwise (irte_check registers source e)
unfolding irte_check
irte-otherwise registers source e =
    either Otherwise (not (bit e 0)) (refl, refl)
    (either Otherwise (reserved_irte registers e) (refl, refl) (either Otherwise (not (source_allowed source e)) (refl, refl) tt))

descriptor-otherwise : (eime urgent : Bool) (d : ℕ) → Otherwise (descriptor_check eime urgent d)
unfolding descriptor_check
descriptor-otherwise eime urgent d = either Otherwise (reserved_descriptor eime d) (refl, refl) tt

module _ (source index : ℕ) where
  abbrev Asks : EntryKind → ℕ → Delivery → Type 0
  Asks kind at d = Fork kind at (delivered source index d)

  abbrev Says : Delivery → Type 0
  Says d = Ends (delivered source index d) × Late (delivered source index d)

  stops : {A : Type 0} (k : Check A) (reason : ℕ) (fpd : Bool) → Otherwise k → k ≡ stop reason → Says (fault reason fpd)
  unfolding interrupt_fault
  stops k reason fpd other told =
      let o = subst Otherwise told other in
      (λ is. differ (sym is ∙ o.0), λ is. differ (sym is ∙ o.1))

  irte-forks : (eime : Bool) (i : Irte) → Every Asks Says 8 (on_irte eime i)
  unfolding descriptor_rules interrupt_fault
  irte-forks eime (remaps r) = every-answer Asks Says 8 (remap r) (λ is. is, λ is. differ (sym is))
  irte-forks eime (posts at vector urgent fpd) =
      every-fetch Asks Says 8 0 posted_descriptor at (fault 0x27 fpd) _ refl refl
      (λ d. check-cases (Every Asks Says 0) (descriptor_check eime urgent d) (λ reason. fault reason fpd) (λ n. answer (post at vector n))
      (λ reason told. every-answer Asks Says 0 (fault reason fpd) (stops _ reason fpd (descriptor-otherwise eime urgent d) told))
      (λ n told. every-answer Asks Says 0 (post at vector n) (λ is. is, λ is. differ (sym is))))

  entry-forks : (registers : Registers) (e : ℕ)
      → Every Asks Says 8 (on_check (irte_check registers source e) (λ reason. answer (fault reason (fault_processing_disabled e))) (on_irte registers.eime))
  entry-forks registers e =
      check-cases (Every Asks Says 8) (irte_check registers source e) (λ reason. fault reason (fault_processing_disabled e)) (on_irte registers.eime)
      (λ reason told. every-answer Asks Says 8 _ (stops _ reason _ (irte-otherwise registers source e) told))
      (λ i told. irte-forks registers.eime i)

module _ (registers : Registers) (request : InterruptRequest) where
  -- an answer before the table; or the two words of an entry, that of the whole index, and then at most eight more
  abbrev pub Tabled : Rules InterruptOutcome → Type 0
  Tabled (answer o) = before_table o ≡ true
  Tabled (fetch kind at outside next) =
      (words_of kind ≡ 2) × (at ≡ indexed_entry registers request) × Fork kind at outside
      × ((e : ℕ) → Every Fork (λ o. Ends o × Late o) 8 (next e))

  pub tabled : Tabled (interrupt_rules registers request)
  unfolding index_rules map_rules interrupt_fault
  tabled =
      request-cases registers request Tabled (λ o h. h)
      (either (λ q. Tabled (map_rules told q)) (leb (2 ^ (registers.s + 1)) index) refl
      (refl, refl, refl, λ e. every_map told Fork (λ o. Ends o × Late o) 8 _ (entry-forks source index registers e)))
    where
      source : ℕ
      source = request.source.id

      index : ℕ
      index = whole_index request

      told : Delivery → InterruptOutcome
      told = delivered source index

  pub interrupt-forks : Every Fork Ends 10 (interrupt_rules registers request)
  interrupt-forks = of (interrupt_rules registers request) tabled
    where
      of : (q : Rules InterruptOutcome) → Tabled q → Every Fork Ends 10 q
      of (answer o) h = every-answer Fork Ends 10 o (λ is. access-late o is h)
      of (fetch kind at outside next) h =
          every-fetch Fork Ends 10 8 kind at outside next (omega (arith, h.0)) h.2
          (λ e. every-weaken Fork Fork (λ o. Ends o × Late o) Ends (λ kind at o is. is) (λ o is. is.0) 8 (next e) (h.3 e))
