-- The claims on listed spans.
use Prim.Native.Nat.{ℕ, ◌+◌, ◌-◌, ◌*◌, ◌/◌, ◌%◌, ◌^◌, ◌≤◌, ◌<◌, min}
use mathlib.Core.Bool.{Bool, true, false}
use mathlib.Core.List.Memᴰ
use mathlib.Core.List.{List, [], ◌∷◌, Memᴰ}
use mathlib.Core.Logic.{◌⊎◌, ⊎_elim}
use mathlib.Core.Path.{◌≡◌, refl, ap, sym, ◌∙◌, subst}
use native.Mathlib.Nat.{mod-lt, mul_assoc, mul_comm, add-zero}
use native.Mathlib.Omega.{arith}
use borrow.Author.Tests.{lt-leb, not-true, lt-ltb, leb-true}
use lib.Dec.{leb}
use lib.ListN.{length, take, drop, take-append-drop, drop_of_length-le}
use lib.Pow.{split, high, low, pow_pos, pow-add}
use Rattle.std.specs.Prelude.{if◌then◌else◌}
use Rattle.image.specs.Memory.{Memory}
use Rattle.image.specs.Rules.{run}
use Rattle.image.specs.Windows.{Window, windows_of, end_of, holds_all, nowhere, spot_in, overlap, entry_in, of_windows}
use Rattle.image.proofs.Choices.{both as both_true, neither}
use Rattle.image.proofs.Same.{one_word}
use Rattle.registers.specs.Admission.{in_interrupt_range}
use Rattle.registers.proofs.Good.{taken-good}
use Rattle.registers.specs.declared.Registers.{Registers}
use Rattle.registers.specs.declared.source_id.SourceId.{SourceId}
use Rattle.dma.specs.InterruptRange.{span_at}
use Rattle.dma.specs.Lookup.{Lookup, on_lookup}
use Rattle.dma.specs.Requests.{MemoryOutcome, granted, memory_outcome}
use Rattle.dma.specs.Translation as plain
use Rattle.dma.specs.declared.MemoryRequest.{MemoryRequest}
use Rattle.dma.specs.declared.context.Context.{Context}
use Rattle.dma.proofs.Admissions.{takes}
use Rattle.dma.proofs.Lookups.{looked-up, Finds, finds}
use Rattle.dma.proofs.Steps.{offset-of}
use Rattle.translation.specs.Rights.{both, right_of}
use Rattle.translation.proofs.Agree.{both_right}
use Rattle.regions.specs.Outside.{touched_by_any}
use Rattle.regions.specs.Region.{What, Region, is_listed}
use Rattle.regions.specs.Region as region
use Rattle.regions.proofs.Regions.{same-region}
use Rattle.mapping.specs.Mapping.{space_end, region_at, spans, mapping_rules}
use Rattle.mapping.specs.Spans.{Span, span_of}
use Rattle.mapping.proofs.Outcomes.{page-power, source-context, translates}
use Rattle.mapping.proofs.SpanLaws.{same_block, offset-in}
use Rattle.agreement.specs.Claims.{NoEntryOutside, WindowsTell, WalkedTables, ListedWhereWalked, In, request, answer_at, lacking, told_by, SpansAgree, Before, OthersLack, InOrder, SpansInOrder}
use Rattle.agreement.proofs.Members.{first_part, begun, there, ordered}
use Rattle.agreement.proofs.RegionAnswers.{said, answered, region-alike}

-- a window that holds a word of a table touches it
module _ (table n : ℕ) (few : n < 512) where
  held : (w : Window) (t : Bool) → holds_all w 8 (table + 8 * n) ≡ t → overlap w.start w.size table 4096 ≡ false → t ≡ false
  held w false is h = refl
  held w true is h =
      let both = both_true (leb w.start (table + 8 * n)) (leb (table + 8 * n + 8) (end_of w)) is in
      let low = leb-true w.start (table + 8 * n) both.0 in
      let top = leb-true (table + 8 * n + 8) (end_of w) both.1 in
      let z : ◌≡◌ {A = Bool} true false = sym (rw (lt-ltb w.start (table + 4096) (omega arith), lt-ltb table (w.start + w.size) (omega arith))) ∙ h in
      let y : ◌≡◌ {A = ℕ} 0 1 = cc in
      absurd (omega arith)

  spots : (ws : List Window) → touched_by_any ws table ≡ false → spot_in ws 8 (table + 8 * n) ≡ nowhere
  unfolding touched_by_any spot_in
  spots [] h = refl
  spots (w ∷ ws) h =
      let parts = neither (overlap w.start w.size table 4096) (touched_by_any ws table) h in
      rw (held w (holds_all w 8 (table + 8 * n)) refl parts.0) (spots ws parts.1)

pub windows-tell : WindowsTell
unfolding of_windows entry_in
windows-tell windows bytes table n out few =
    one_word (of_windows windows bytes) (table + 8 * n) ∙ rw (spots table n few (windows_of windows) (not-true (touched_by_any (windows_of windows) table) out))

pub listed-where-walked : ListedWhereWalked
unfolding mapping_rules
listed-where-walked registers source m outside w =
    rw (← w.taken) (source-context registers m outside source w.own w.own-context ∙ translates registers m outside w.own w.type)

-- a region's page is told from the span's start
module _ (fpd : Bool) (r : MemoryRequest) (x : Region) (at : ℕ) (aligned : at % span_at x.level ≡ 0) (low : at ≤ r.address)
    (top : r.address < at + span_at x.level) where
  from_start : (w : What) → said fpd w x.level r ≡ told_by fpd w at r
  from_start (region.page frame) =
      ap (λ (n : ℕ). granted (frame + n)) (sym (offset-of r.address x.level) ∙ offset-in (12 + 9 * (x.level - 1)) at r.address aligned low top)
  from_start (region.fault reason) = refl
  from_start (region.refused number) = refl
  from_start region.nothing = refl

-- where nothing is listed, a request lacks rights
quiet-lacks : (fpd : Bool) (r : MemoryRequest) (x : Region) → is_listed x.what ≡ false → answered fpd r x ≡ lacking fpd r
quiet-lacks fpd r x = by x.what (right_of r.write x.rights)
  where
    by : (w : What) (t : Bool) → is_listed w ≡ false → (if t then said fpd w x.level r else lacking fpd r) ≡ lacking fpd r
    by (region.page frame) t h = let z : ◌≡◌ {A = ℕ} 0 1 = cc in absurd (omega arith)
    by (region.fault reason) t h = let z : ◌≡◌ {A = ℕ} 0 1 = cc in absurd (omega arith)
    by (region.refused number) t h = let z : ◌≡◌ {A = ℕ} 0 1 = cc in absurd (omega arith)
    by region.nothing true h = refl
    by region.nothing false h = refl

module _ (registers : Registers) (source : SourceId) (m : Memory) (outside : (table : ℕ) → Bool) (none : NoEntryOutside m outside)
    (w : WalkedTables registers source.id m) where
  abbrev c : Context
  c = w.own

  abbrev end : ℕ
  end = space_end registers m outside c

  abbrev at_address : ℕ → Region
  at_address = region_at registers m outside c

  same : (x y : ℕ) → x / span_at (at_address x).level ≡ y / span_at (at_address x).level → at_address y ≡ at_address x
  same x y = same-region registers m outside x y c.levels c.top both

  -- the engine answers as the region of the address says
  by-region : (address : ℕ) (write : Bool) → address < end → in_interrupt_range address ≡ false
      → answer_at registers m (request source address write) ≡ answered c.fpd (request source address write) (at_address address)
  unfolding run plain.width_rules
  by-region address write below clear =
      let r = request source address write in
      let found : run (plain.translation_rules registers address write source.id) m ≡ run (plain.width_rules registers address write c) m =
      looked-up registers plain.fault (plain.width_rules registers address write) m source.id
      ∙ ap (λ (l : Lookup). on_lookup l plain.fault (λ k. run (plain.width_rules registers address write k) m)) w.own-context in
      let walked : run (plain.width_rules registers address write c) m ≡ run (plain.page_rules registers address write c.fpd c.levels c.top) m =
      rw (lt-leb end address below, w.type) in
      sym (takes registers r m (sym clear) w.taken)
      ∙ ap (memory_outcome r) (found ∙ walked)
      ∙ region-alike registers m outside none c.fpd r c.levels c.top both (both_right write)

  agree : (s : Span) → Memᴰ s (spans registers m outside c) → (address : ℕ) (write : Bool) → In address s → in_interrupt_range address ≡ false
      → answer_at registers m (request source address write)
      ≡ (if right_of write s.rights then told_by c.fpd s.what s.start (request source address write)
      else lacking c.fpd (request source address write))
  agree s among address write inside clear =
      let b = begun at_address end same ((end - 0) / 4096) 0 s among in
      let at = b.at in
      let in-it : In address (span_of end at (at_address at)) = subst (In address) b.is inside in
      let k = 12 + 9 * ((at_address at).level - 1) in
      let alike : at_address address ≡ at_address at =
      same at address (same_block k at address b.aligned in-it.0 (omega (arith, in-it.1))) in
      by-region address write (omega (arith, in-it.0, in-it.1)) clear
      ∙ ap (answered c.fpd (request source address write)) alike
      ∙ ap (λ (o : MemoryOutcome). if right_of write (at_address at).rights then o else lacking c.fpd (request source address write))
      (from_start c.fpd (request source address write) (at_address at) at b.aligned in-it.0 (omega (arith, in-it.1)) (at_address at).what)
      ∙ ap
      (λ (t : Span).
      if right_of write t.rights then told_by c.fpd t.what t.start (request source address write)
      else lacking c.fpd (request source address write))
      (sym b.is)

  abbrev all : List Span
  all = spans registers m outside c

  others : (n address : ℕ) (write : Bool) → address < end → in_interrupt_range address ≡ false
      → ((s : Span) → Memᴰ s (take n all) → In address s → ⊥)
      → (length all ≤ n) ⊎ Before address (take n all)
      → answer_at registers m (request source address write) ≡ lacking c.fpd (request source address write)
  others n address write below clear uncovered far = by (is_listed (at_address address).what) refl
    where
      r : MemoryRequest
      r = request source address write

      k : ℕ
      k = 12 + 9 * ((at_address address).level - 1)

      at : ℕ
      at = address / 2 ^ k * 2 ^ k

      here : at + address % 2 ^ k ≡ address
      here = split address k

      less : address % 2 ^ k < 2 ^ k
      less = mod-lt address (pow_pos k)

      alike : at_address at ≡ at_address address
      alike = same address at (sym (ap (λ (n : ℕ). n / 2 ^ k) (sym (add-zero at)) ∙ high (address / 2 ^ k) k (pow_pos k)))

      aligned : at % span_at (at_address at).level ≡ 0
      aligned = rw alike (ap (λ (n : ℕ). n % 2 ^ k) (sym (add-zero at)) ∙ low (address / 2 ^ k) k (pow_pos k))

      page : at % 4096 ≡ 0
      page =
          let whole : 2 ^ k ≡ 4096 * 2 ^ (9 * ((at_address address).level - 1)) = pow-add 2 12 (9 * ((at_address address).level - 1)) in
          let rest : at ≡ 4096 * (2 ^ (9 * ((at_address address).level - 1)) * (address / 2 ^ k)) =
          ap (λ (n : ℕ). address / 2 ^ k * n) whole ∙ mul_comm (address / 2 ^ k) (4096 * 2 ^ (9 * ((at_address address).level - 1)))
          ∙ mul_assoc 4096 (2 ^ (9 * ((at_address address).level - 1))) (address / 2 ^ k) in
          omega (arith, rest)

      span : Span
      span = span_of end at (at_address at)

      wide : span_at (at_address at).level ≡ 2 ^ k
      wide = rw alike

      covers : In address span
      covers = (omega (arith, here), omega (arith, here, less, below, wide))

      end-page : end % 4096 ≡ 0
      end-page =
          page-power (min registers.mgaw (12 + 9 * c.levels))
          (omega (arith, (taken-good registers _ _ w.taken).mgaw.least, (subst Finds w.own-context (finds registers source.id m)).0))

      among : is_listed (at_address address).what ≡ true → Memᴰ span all
      among on =
          there at_address end same ((end - 0) / 4096) 0 at (omega arith) page (omega arith) (omega (arith, here, below, end-page, page))
          (rw alike on) aligned

      apart : Memᴰ span all → ⊥
      apart h =
          ⊎_elim (λ first. uncovered span first covers) (λ second. ⊎_elim (few second) (later second) far)
          (Memᴰ.append_cases (take n all) (subst (Memᴰ span) (sym (take-append-drop n all)) h))
        where
          few : Memᴰ span (drop n all) → length all ≤ n → ⊥
          few second short = Memᴰ.not-nil (subst (Memᴰ span) (drop_of_length-le all short) second)

          later : Memᴰ span (drop n all) → Before address (take n all) → ⊥
          later second b =
              let order = first_part 0 end (take n all) (drop n all) b.behind span
              (subst (InOrder 0 end) (sym (take-append-drop n all)) (ordered at_address end same ((end - 0) / 4096) 0 0 (omega arith) (λ x low top. absurd (omega arith))))
              b.among second in
              omega (arith, order, b.later, here)

      by : (on : Bool) → is_listed (at_address address).what ≡ on → answer_at registers m r ≡ lacking c.fpd r
      by true on = absurd (apart (among on))
      by false off = by-region address write below clear ∙ quiet-lacks c.fpd r (at_address address) off

pub spans-agree : SpansAgree
spans-agree registers source m outside none w s among address write inside clear =
    agree registers source m outside none w s among address write inside clear

pub others-lack : OthersLack
others-lack registers source m outside none w n address write below clear uncovered far =
    others registers source m outside none w n address write below clear uncovered far

pub spans-in-order : SpansInOrder
spans-in-order registers source m outside w =
    ordered (region_at registers m outside w.own) (space_end registers m outside w.own)
    (λ x y. same-region registers m outside x y w.own.levels w.own.top both) _ 0 0 (omega arith) (λ x low top. absurd (omega arith))
