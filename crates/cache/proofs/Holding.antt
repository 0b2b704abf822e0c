-- What is cached, held and answered.
use Prim.Native.Nat.{ℕ, zero, suc, ◌≤◌}
use mathlib.Core.Bool.{Bool, true, false}
use mathlib.Core.Path.{◌≡◌, refl, ap, ◌∙◌}
use mathlib.Core.List.Memᴰ
use mathlib.Core.List.{List, [], ◌∷◌, Memᴰ}
use mathlib.Core.Logic.{◌⊎◌, inl, inr, ⊎_elim}
use native.Mathlib.Omega.{arith}
use borrow.Author.Tests.{eqb-true}
use lib.Dec.{eqb}
use lib.ListN.{length, length-take, take as firsts}
use Rattle.std.specs.Prelude.{if◌then◌else◌}
use Rattle.image.specs.Rules.{answer, run, named}
use Rattle.registers.specs.Admission.{Admitted, refusal, pass, taken_up, on_admission}
use Rattle.registers.specs.declared.Registers.{Registers}
use Rattle.dma.specs.InterruptRange.{meets_interrupt_range, span_at}
use Rattle.dma.specs.Requests.{granted, refused}
use Rattle.dma.specs.Translation.{Translation, through, leaf, fault}
use Rattle.cache.specs.Held.{Held, Hit, miss, hit, fits, lookup, insert, without}
use Rattle.cache.specs.Engine.{Operation, request, edit, invalidate_all, invalidate_domain, State, from, admitted, rules_of, held_answer, cached_rules, cached_as, held_after, step, left}
use Rattle.cache.specs.Claims.{OnlyPages, AtMost64, Held64, PushedOut, ByDomain, Newest, MustAnswer, JustThose}
use Rattle.cache.proofs.Lists.{mem-without, mem-lookup}

pub only-pages : OnlyPages
unfolding held_after
only-pages registers held r m = on (admitted registers r) refl (lookup r held) refl (run (rules_of registers r) m) refl
  where
    on : (a : Admitted) → admitted registers r ≡ a → (l : Hit) → lookup r held ≡ l → (t : Translation) → run (rules_of registers r) m ≡ t
        → (held_after registers held r m ≡ held)
        ⊎ ((frame : ℕ) × (level : ℕ) × (admitted registers r ≡ taken_up) × (lookup r held ≡ miss) × (run (rules_of registers r) m ≡ leaf frame level)
        × (meets_interrupt_range frame (span_at level) ≡ false) × (held_after registers held r m ≡ insert (cached_as registers r m frame level) held))
    on (refusal n) a l is t told = inl (rw a)
    on pass a l is t told = inl (rw a)
    on taken_up a (hit h) is t told = inl (rw (a, is))
    on taken_up a miss is through told = inl (rw (a, is, told))
    on taken_up a miss is (fault reason fpd) told = inl (rw (a, is, told))
    on taken_up a miss is (leaf frame level) told = by (meets_interrupt_range frame (span_at level)) refl
      where
        by : (meets : Bool) → meets_interrupt_range frame (span_at level) ≡ meets
            → (held_after registers held r m ≡ held)
            ⊎ ((frame : ℕ) × (level : ℕ) × (admitted registers r ≡ taken_up) × (lookup r held ≡ miss) × (run (rules_of registers r) m ≡ leaf frame level)
            × (meets_interrupt_range frame (span_at level) ≡ false) × (held_after registers held r m ≡ insert (cached_as registers r m frame level) held))
        by true clear = inl (rw (a, is, told, clear))
        by false clear = inr (frame, level, a, is, told, clear, rw (a, is, told, clear))

pub held64 : Held64
unfolding insert
held64 h held few = ap (λ (l : List Held). h ∷ l) (all 63 held (omega arith))
  where
    all : (n : ℕ) (l : List Held) → length l ≤ n → firsts n l ≡ l
    all zero [] few = refl
    all zero (x ∷ l) few = absurd (omega arith)
    all (suc n) [] few = refl
    all (suc n) (x ∷ l) few = ap (λ (l : List Held). x ∷ l) (all n l (omega arith))

pub pushed-out : PushedOut
unfolding insert
pushed-out h held = refl

length_without : (d : ℕ) (held : List Held) → length (without d held) ≤ length held
unfolding without
length_without d [] = omega arith
length_without d (x ∷ held) = on (eqb x.domain d) (length_without d held)
  where
    on : (t : Bool) → length (without d held) ≤ length held
        → length (if t then without d held else x ∷ without d held) ≤ suc (length held)
    on true ih = omega arith
    on false ih = omega arith

length-insert : (h : Held) (held : List Held) → length (insert h held) ≤ 64
unfolding insert
length-insert h held = omega (arith, length-take 64 (h ∷ held))

module _ (registers : Registers) where
  few-step : (o : Operation) (s : State) → length s.held ≤ 64 → length (step registers o s).held ≤ 64
  unfolding step
  few-step (request r) s few =
      ⊎_elim (λ same. rw same few) (λ new. rw new.6 (length-insert (cached_as registers r s.memory new.0 new.1) s.held))
      (only-pages registers s.held r s.memory)
  few-step (edit m) s few = few
  few-step invalidate_all s few = omega arith
  few-step (invalidate_domain d) s few = omega (arith, length_without d s.held)

  few-left : (os : List Operation) (s : State) → length s.held ≤ 64 → length (left registers os s).held ≤ 64
  unfolding left
  few-left [] s few = few
  few-left (o ∷ os) s few = few-left os (step registers o s) (few-step o s few)

pub at-most-64 : AtMost64
at-most-64 registers os m = few-left registers os (from m) (omega arith)

mem-kept : (d : ℕ) (held : List Held) (h : Held) → Memᴰ h held → (h.domain ≡ d → ⊥) → Memᴰ h (without d held)
unfolding without
mem-kept d [] h is other = absurd (Memᴰ.not-nil is)
mem-kept d (x ∷ held) h is other = on (eqb x.domain d) refl (λ rest. mem-kept d held h rest other)
  where
    on : (t : Bool) → eqb x.domain d ≡ t → (Memᴰ h held → Memᴰ h (without d held))
        → Memᴰ h (if t then without d held else x ∷ without d held)
    on true told ih =
        ⊎_elim (λ e. absurd (other (ap (λ (y : Held). y.domain) e ∙ eqb-true x.domain d told))) ih (Memᴰ.cases_cons is)
    on false told ih = ⊎_elim (λ e. Memᴰ.head e) (λ rest. Memᴰ.tail (ih rest)) (Memᴰ.cases_cons is)

pub by-domain : ByDomain
by-domain d held h = (mem-without d held, mem-kept d held h)

pub newest : Newest
unfolding lookup
newest r [] older h none is = rw is
newest r (x ∷ newer) older h none is =
    rw (none x (Memᴰ.head refl)) (newest r newer older h (λ y there. none y (Memᴰ.tail there)) is)

pub must-answer : MustAnswer
unfolding lookup
must-answer r [] h is it none = Memᴰ.not-nil is
must-answer r (x ∷ held) h is it none = on (fits r x) refl none (must-answer r held h)
  where
    on : (t : Bool) → fits r x ≡ t → (if t then hit x else lookup r held) ≡ miss
        → (Memᴰ h held → fits r h ≡ true → lookup r held ≡ miss → ⊥) → ⊥
    on true told none ih = let z : ◌≡◌ {A = ℕ} 0 1 = cc in omega arith
    on false told none ih =
        ⊎_elim
        (λ e. let same : fits r h ≡ fits r x = ap (fits r) e in let z : ◌≡◌ {A = ℕ} 0 1 = cc in absurd (omega arith))
        (λ rest. ih rest it none) (Memᴰ.cases_cons is)

pub just-those : JustThose
unfolding cached_rules named
just-those registers r held h m is = ((mem-lookup r held is).1, rw is (on (admitted registers r)))
  where
    on : (a : Admitted) → named (on_admission a refused (granted r.address) (answer (held_answer registers r h))) m ≡ []
    on (refusal n) = refl
    on pass = refl
    on taken_up = refl
