use Rattle.std.proofs.Common.{rules, tests, arith, add-one, ◌≡◌, ℕ, ◌<◌, ◌+◌, ◌∙◌, sym, ap, ap₂, true, not, ◌||◌, List, length, get_or, set}
use Rattle.std.proofs.lemmas.Iterator.{YieldsList-from_slice, YieldsList-from_zip}
use Rattle.std.proofs.lemmas.Iterator.Search.{all_from_yields_List}
use Rattle.meter.specs.declared.Meter.{Meter}
use Rattle.meter.specs.Meter.{ticked, meter_byte}
use Rattle.meter.specs.Refused.{some, bad_count, bad_meter}
use Rattle.meter.proofs.Rows.{even, fit, fits_all, lengths, one-bad, all-good, steps, marks, steps_next, marks-next, steps_all, marks-all}
use Rattle.meter.proofs.row.tick_row.Goals.{After-all}
use Rattle.meter.proofs.row.tick_row.Goals as goal

-- what was looked at: lists that are one per meter, and whether all fit
one-each : (c : After-all) → even c.args.row.now c.args.counts.now c.args.bytes.now ≡ true
one-each c = sym c.one_per_meter.ensures ∙ c.if-not-one_per_meter.false

looked : (c : After-all) → c.all.result ≡ not (some bad_count c.args.counts.now || some bad_meter c.args.row.now)
looked c =
    all_from_yields_List (λ (p : Meter × ℕ). fit p.0 p.1) c.all.new.self _ c.all.result c.all.ensures.ran
    (YieldsList-from_zip (YieldsList-from_slice c.args.row.now cc) (YieldsList-from_slice c.args.counts.now cc)) (λ x b q k. search (rules, tests))
    ∙ fits_all c.args.row.now c.args.counts.now (lengths c.args.row.now c.args.counts.now c.args.bytes.now (one-each c)).0

pub returns-then-not-all : goal.returns-then-not-all
returns-then-not-all c =
    let at = (goal.at.returns-then-not-all c).After-all in
    one-bad c.args.row.now c.args.counts.now c.args.bytes.now (one-each at) (sym (looked at) ∙ c.if-not-all.true)

pub loop-i-init : goal.loop-i-init
unfolding steps marks
loop-i-init c = search rules

steps-more : (i : ℕ) (ms : List Meter) (cs : List ℕ) (row : List Meter) (d m : Meter) → i < length ms → i < length cs → row ≡ steps i ms cs
    → m ≡ ticked (get_or row i d) (get_or cs i 0) → set row i m ≡ steps (i + 1) ms cs
steps-more i ms cs row d m l k e f =
    ap₂ (λ (r : List Meter) (x : Meter). set r i x) e (f ∙ ap (λ (r : List Meter). ticked (get_or r i d) (get_or cs i 0)) e)
    ∙ steps_next i ms cs d l k
    ∙ ap (λ (n : ℕ). steps n ms cs) (sym (add-one i))

marks-more : (i : ℕ) (ms : List Meter) (cs bs : List ℕ) (row : List Meter) (bytes : List ℕ) (d m : Meter) (byte : ℕ)
    → i < length ms → i < length cs → i < length bs → row ≡ steps i ms cs → bytes ≡ marks i ms cs bs
    → m ≡ ticked (get_or row i d) (get_or cs i 0) → byte ≡ meter_byte m → set bytes i byte ≡ marks (i + 1) ms cs bs
marks-more i ms cs bs row bytes d m byte l k n e b f g =
    ap₂ (λ (r : List ℕ) (x : ℕ). set r i x) b (g ∙ ap meter_byte (f ∙ ap (λ (r : List Meter). ticked (get_or r i d) (get_or cs i 0)) e))
    ∙ marks-next i ms cs bs d l k n
    ∙ ap (λ (n : ℕ). marks n ms cs bs) (sym (add-one i))

pub loop-i-preserved : goal.loop-i-preserved
loop-i-preserved c =
    let ms = c.args.row.now in
    let cs = c.args.counts.now in
    let bs = c.args.bytes.now in
    let i = c.loop-i.i in
    let same = lengths ms cs bs (one-each (goal.at.loop-i-preserved c).After-all) in
    let before = c.loop-i.invariant in
    record {
      ticked = steps-more i ms cs c.loop-i.row _ _ (omega arith) (omega arith) before.ticked c.tick-ticked.ensures;
      marked =
          marks-more i ms cs bs c.loop-i.row c.loop-i.bytes _ _ _ (omega arith) (omega arith) (omega arith) before.ticked before.marked
          c.tick-ticked.ensures c.byte.ensures;
    }

pub returns : goal.returns
returns c =
    let ms = c.args.row.now in
    let cs = c.args.counts.now in
    let bs = c.args.bytes.now in
    let at = (goal.at.returns c).After-all in
    let same = lengths ms cs bs (one-each at) in
    let ended : c.loop-i.i ≡ length ms = omega arith in
    ap₂ (λ (r : List Meter) (b : List ℕ). (true, r, b))
    (c.loop-i.invariant.ticked ∙ ap (λ (n : ℕ). steps n ms cs) ended ∙ steps_all ms cs)
    (c.loop-i.invariant.marked ∙ ap (λ (n : ℕ). marks n ms cs bs) ended ∙ marks-all ms cs bs same.0 same.1)
    ∙ all-good ms cs bs (one-each at) (sym (looked at) ∙ c.if-not-all.false)
