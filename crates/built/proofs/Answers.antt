-- What requests are answered over the memory that a build leaves.
use Prim.Native.Nat.{ℕ, suc, ◌+◌, ◌-◌, ◌*◌, ◌/◌, ◌%◌, ◌≤◌, ◌<◌}
use mathlib.Core.Bool.{Bool, true, false, not, ◌&&◌, ◌||◌}
use mathlib.Core.Path.{◌≡◌, refl, ap, ap₂, sym, ◌∙◌}
use mathlib.Core.List.{List, Memᴰ}
use mathlib.Core.Logic.{inl, inr}
use native.Mathlib.Decide.{dec_le}
use native.Mathlib.Omega.{arith}
use borrow.Author.Tests.{eq-eqb, eqb-false}
use lib.Dec.{eqb}
use lib.ListN.{length}
use Rattle.image.specs.Bits.{bits, bit, any_set}
use Rattle.std.specs.Prelude.{if◌then◌else◌}
use Rattle.image.specs.EntryKind.{is_page}
use Rattle.image.specs.Memory.{Memory}
use Rattle.image.specs.Place.{no_entry}
use Rattle.image.specs.Rules.{entries_of}
use Rattle.image.specs.Windows.{of_windows, bad_windows}
use Rattle.image.proofs.Bytes.{AreBytes}
use Rattle.image.proofs.Fields.{fits}
use Rattle.image.proofs.Forks.{every-entry}
use Rattle.registers.specs.Admission.{taken_up, admission, in_interrupt_range}
use Rattle.registers.specs.declared.Registers.{Registers}
use Rattle.registers.proofs.Good.{Good, good}
use Rattle.interrupts.specs.Interrupts as interrupt
use Rattle.dma.specs.Lookup.{context}
use Rattle.dma.specs.Page.{own_right}
use Rattle.dma.specs.Requests.{granted, memory_outcome, memory_rules, concerned, walked}
use Rattle.dma.specs.Translation.{overflows}
use Rattle.dma.specs.declared.MemoryRequest.{MemoryRequest}
use Rattle.dma.specs.declared.context.Context.{Context}
use Rattle.dma.proofs.Forks.{Fork, Ends, memory-forks}
use Rattle.translation.specs.Requests.{translation_outcome, request_rules}
use Rattle.translation.specs.Requests as translation
use Rattle.translation.specs.Rights.{neither}
use Rattle.translation.specs.declared.TranslationRequest.{TranslationRequest}
use Rattle.translation.proofs.Entries.{check-own, check-lost}
use Rattle.translation.proofs.Forks as translation-forks
use Rattle.agreement.specs.Claims.{lacking}
use Rattle.tables.specs.declared.Tree.{Tree}
use Rattle.builder.specs.Build.{Built, all_taken, LentBuffers}
use Rattle.builder.specs.Items.{item_at}
use Rattle.builder.specs.Reasons.{unmaps, levels_below, leaf_of, item_reason}
use Rattle.builder.specs.declared.items.Item.{Item}
use Rattle.leaves.specs.Leaves.{Leaf, none, leaf, holds}
use Rattle.built.specs.Claims.{SameTables, LastOver, Unlisted, left_to, translated_to, Answers, BuiltAnswers}
use Rattle.built.specs.Inside.{InRegion}
use Rattle.built.proofs.Apart.{Beside}
use Rattle.built.proofs.Builds.{Completed, after_of, build-cases}
use Rattle.built.proofs.Fine.{no-interrupt, narrow, host, right-bits, leaf-of}
use Rattle.built.proofs.Fine as fine
use Rattle.built.proofs.Formats.{translated_by, completed_by}
use Rattle.built.proofs.Inside.{after-length}
use Rattle.built.proofs.Left.{listed_as, left-none, left-last}
use Rattle.built.proofs.Others.{memory-unmoved, translation-unmoved, interrupt-unmoved}
use Rattle.built.proofs.Own.{over, over', memory-listed, memory-same, memory-place-same, translation-listed, translation-same, translation-place-same}
use Rattle.built.proofs.Setting.{Setting, setting}

-- an entry with a right has one of the two
some_right : (e : ℕ) → any_set e 1 0 ≡ true → (bit e 0 || bit e 1) ≡ true
some_right e any = by (eqb (bits e 0 0) 1) refl
  where
    some : bits e 1 0 ≡ 0 → ⊥
    some clear = let z : ◌≡◌ {A = Bool} true false = sym any ∙ ap (λ (n : ℕ). not (eqb n 0)) clear in let y : ◌≡◌ {A = ℕ} 0 1 = cc in omega arith

    two : bits e 1 0 < 4
    two = fits e 1 0

    by : (t : Bool) → eqb (bits e 0 0) 1 ≡ t → (t || bit e 1) ≡ true
    by true is = refl
    by false is =
        let first = eqb-false (bits e 0 0) 1 is in
        eq-eqb (bits e 1 1) 1 (one (bits e 0 0) (bits e 1 1) (bits e 1 0) (right-bits e).0 (right-bits e).1 first some two)
      where
        one : (a b r : ℕ) → a ≡ r % 2 → b ≡ r / 2 → (a ≡ 1 → ⊥) → (r ≡ 0 → ⊥) → r < 4 → b ≡ 1
        one a b r p q odd zero-it few = omega arith

-- a request at an address of an item's page, by the entry that the item leaves
module _ (registers : Registers) (levels : ℕ) (item : Item) (no-reason : item_reason registers levels item ≡ 0) (g : Good registers) where
  module _ (fpd : Bool) (request : MemoryRequest) (here : holds item request.address ≡ true) where
    memory-left : memory_outcome request (translated_by registers request.write fpd (listed_as item)) ≡ left_to fpd item request
    memory-left = by (unmaps item) refl
      where
        mapped : unmaps item ≡ false → (t : Bool) → own_right request.write item.what ≡ t
            → memory_outcome request (translated_by registers request.write fpd (leaf (levels_below item) (leaf_of item)))
            ≡ (if t then granted (item.frame + (request.address - item.place)) else lacking fpd request)
        mapped maps t is =
            let x = leaf-of registers levels item no-reason maps g.haw.least g.haw.most in
            let own : own_right request.write (leaf_of item) ≡ t = right request.write x ∙ is in
            given t own x
          where
            right : (write : Bool) → fine.Leaf registers item → own_right write (leaf_of item) ≡ own_right write item.what
            right true x = x.write
            right false x = x.read

            given : (t : Bool) → own_right request.write (leaf_of item) ≡ t → fine.Leaf registers item
                → memory_outcome request (translated_by registers request.write fpd (leaf (levels_below item) (leaf_of item)))
                ≡ (if t then granted (item.frame + (request.address - item.place)) else lacking fpd request)
            given true own x =
                rw (check-own registers request.write (suc (levels_below item)) (leaf_of item) x.any x.free own, x.frame, x.clear)
                (ap granted (host registers levels item no-reason request.address here item.frame))
            given false own x = rw (check-lost registers request.write (suc (levels_below item)) (leaf_of item) x.any x.free own)

        by : (u : Bool) → unmaps item ≡ u
            → memory_outcome request (translated_by registers request.write fpd (if u then none else leaf (levels_below item) (leaf_of item)))
            ≡ (if not u && own_right request.write item.what then granted (item.frame + (request.address - item.place)) else lacking fpd request)
        by true is = refl
        by false is = mapped is (own_right request.write item.what) refl

  translation-left : (fpd : Bool) (request : TranslationRequest) → translation_outcome request (completed_by registers fpd (listed_as item)) ≡ translated_to item
  translation-left fpd request = by (unmaps item) refl
    where
      by : (u : Bool) → unmaps item ≡ u
          → translation_outcome request (completed_by registers fpd (if u then none else leaf (levels_below item) (leaf_of item)))
          ≡ (if u then translation.translated 0 0 neither
          else translation.translated item.frame item.size (record { read = bit item.what 0; write = bit item.what 1 }))
      by true is = refl
      by false is =
          let x = leaf-of registers levels item no-reason is g.haw.least g.haw.most in
          let left : (bit (leaf_of item) 0 || bit (leaf_of item) 1) ≡ true = some_right (leaf_of item) x.any in
          rw (x.free, left, x.frame, x.clear, x.span, x.read, x.write)

-- a word that doesn't lie in a region of whole pages lies beside it
beside : (start size at : ℕ) → start % 4096 ≡ 0 → at % 8 ≡ 0 → (InRegion start size at → ⊥) → Beside start size at (8 * 1)
beside start size at page word out = by (dec_le start at) (dec_le (start + size) at)
  where
    by : Dec (start ≤ at) → Dec (start + size ≤ at) → Beside start size at (8 * 1)
    by (no low) high = inl (omega arith)
    by (yes low) (yes high) = inr high
    by (yes low) (no high) = absurd (out (low, omega arith))

module _ (registers : Registers) (source start size : ℕ) (windows items : List ℕ) (l : LentBuffers)
    (bytes : AreBytes l.memory) (copied : AreBytes l.copy) (tree : Tree) (c : Completed registers source start size windows items l tree) where
  abbrev before : List ℕ
  before = l.memory

  abbrev after : List ℕ
  after = after_of registers source start size windows items l tree

  abbrev m : Memory
  m = of_windows windows before

  abbrev m' : Memory
  m' = of_windows windows after

  abbrev own : Context
  own = c.ready.own

  st : Setting registers start size items own m m'
  st = setting registers source start size windows items l bytes copied tree c

  fit : bad_windows windows (length before) ≡ false
  fit = c.ready.good

  fit' : bad_windows windows (length after) ≡ false
  fit' = rw (after-length registers source start size windows items l tree c) c.ready.good

  held : Good registers
  held = good registers c.ready.listed

  -- tables of the same top and as many levels are these
  module _ {other : ℕ} (t : SameTables registers m source other) where
    same-own : t.own ≡ own
    same-own = let z : context t.own ≡ context own = sym t.own-context ∙ c.ready.own-context in cc

    same-top : t.its.top ≡ own.top
    same-top = t.top ∙ ap (λ (k : Context). k.top) same-own

    same-levels : t.its.levels ≡ own.levels
    same-levels = t.levels ∙ ap (λ (k : Context). k.levels) same-own

    module _ (address i : ℕ) (last : LastOver items address i) where
      abbrev item : Item
      item = item_at items i

      no-reason : item_reason registers (st.tree.below + 1) item ≡ 0
      no-reason = st.fine i last.listed

      taken : taken_up ≡ admission registers (in_interrupt_range address) registers.te
      unfolding admission
      taken = sym (rw (c.ready.listed, no-interrupt registers (st.tree.below + 1) item no-reason address last.here, c.ready.on))

      within : overflows registers t.its.levels address ≡ false
      within =
          let levels-is : t.its.levels ≡ st.tree.below + 1 = same-levels ∙ st.levels-are ∙ omega arith in
          rw levels-is
          (narrow registers (st.tree.below + 1) item no-reason address last.here held.mgaw.least (omega (arith, st.well.placed.deep)))

      left_as : over' registers start size items own m m' st t.its same-top same-levels address ≡ listed_as item
      left_as =
          let all : 0 + length items / 4 ≡ length items / 4 = omega arith in
          left-last items address (length items / 4) 0 (over registers start size items own m m' st t.its same-top same-levels address) i (omega arith)
          (rw all last.listed) last.here (λ j from to. last.last j from (rw all at to))

    kept-as : (address : ℕ) → Unlisted items address
        → over' registers start size items own m m' st t.its same-top same-levels address
        ≡ over registers start size items own m m' st t.its same-top same-levels address
    kept-as address off =
        let all : 0 + length items / 4 ≡ length items / 4 = omega arith in
        left-none items address (length items / 4) 0 (over registers start size items own m m' st t.its same-top same-levels address)
        (λ j from to. off j (rw all at to))

  page-word : (request : MemoryRequest) (at : ℕ) → Memᴰ at (walked registers request m) → at % 8 ≡ 0
  page-word request at =
      every-entry Fork Ends is_page (λ a. a % 8 ≡ 0) (λ kind a o fork page. fork.1) 9 (memory_rules registers request) m at (memory-forks registers request)

  page-word' : (request : TranslationRequest) (at : ℕ) → Memᴰ at (entries_of is_page (request_rules registers request) m) → at % 8 ≡ 0
  page-word' request at =
      every-entry translation-forks.Fork translation-forks.Ends is_page (λ a. a % 8 ≡ 0) (λ kind a o fork page. fork.1) 9 (request_rules registers request) m at
      (translation-forks.request-forks registers request)

  answers : Answers registers source start size windows items before after
  answers =
      record {
        listed =
            λ request t i last.
            rw fit'
            (memory-listed registers start size items own m m' st t.its (same-top t) (same-levels t) t.translates request t.its-context
            (taken t request.address i last) (within t request.address i last)
            ∙ ap (λ (o : Leaf). memory_outcome request (translated_by registers request.write t.its.fpd o)) (left_as t request.address i last)
            ∙ memory-left registers (st.tree.below + 1) (item_at items i) (no-reason t request.address i last) held t.its.fpd request last.here);
        unlisted =
            λ request t off.
            let same = kept-as t request.address off in (
              rw (fit, fit') (memory-same registers start size items own m m' st t.its (same-top t) (same-levels t) t.translates request t.its-context same),
              λ rights.
                  rw (fit, fit')
                  (memory-place-same registers start size items own m m' st t.its (same-top t) (same-levels t) t.translates request t.its-context same
                  off (rw fit at rights)),
            );
        translations-listed =
            λ request t i type last.
            rw fit'
            (translation-listed registers start size items own m m' st t.its (same-top t) (same-levels t) t.translates request t.its-context
            (taken t request.address i last) (within t request.address i last) type
            ∙ ap (λ (o : Leaf). translation_outcome request (completed_by registers t.its.fpd o)) (left_as t request.address i last)
            ∙ translation-left registers (st.tree.below + 1) (item_at items i) (no-reason t request.address i last) held t.its.fpd request);
        translations-unlisted =
            λ request t off.
            let same = kept-as t request.address off in (
              rw (fit, fit') (translation-same registers start size items own m m' st t.its (same-top t) (same-levels t) t.translates request t.its-context same),
              rw (fit, fit') (translation-place-same registers start size items own m m' st t.its (same-top t) (same-levels t) t.translates request t.its-context same off),
            );
        others =
            λ request apart.
            let u = memory-unmoved registers start size st.some m m' st.unshared st.kept st.gone request
            (λ at among. st.kept 1 at (beside start size at st.aligned (page-word request at among) (apart at among))) in
            (rw (fit, fit') u.answers, rw (fit, fit') (ap₂ concerned u.answers (u.stops no_entry)));
        other-translations =
            λ request apart.
            let u = translation-unmoved registers start size st.some m m' st.unshared st.kept st.gone request
            (λ at among. st.kept 1 at (beside start size at st.aligned (page-word' request at among) (apart at among))) in
            (rw (fit, fit') u.answers, rw (fit, fit') (ap₂ translation.concerned u.answers (u.stops no_entry)));
        interrupts =
            λ request.
            let u = interrupt-unmoved registers start size st.some m m' st.unshared st.kept st.gone request in
            (rw (fit, fit') u.answers, rw (fit, fit') (ap₂ interrupt.concerned u.answers (u.stops no_entry)));
      }

pub built-answers : BuiltAnswers
built-answers registers source start size windows items l bytes copied =
    build-cases registers source start size windows items l
    (λ (end : Built × LentBuffers). end.0 ≡ all_taken → Answers registers source start size windows items l.memory end.1.memory)
    (λ x copy marks other is. absurd (other is))
    (λ tree copy marks c is. answers registers source start size windows items l bytes copied tree c)
