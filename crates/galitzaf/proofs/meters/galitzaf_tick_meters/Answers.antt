use Rattle.std.proofs.Common.{arith, ◌≡◌, ℕ, ◌<◌, refl, sym, ap, ◌∙◌, true, false, ◌&&◌, eqb, length}
use Rattle.meter.proofs.Rows.{steps, marks}
use Rattle.galitzaf.specs.Meters.{row_of, loads_of, malformed_meters}
use Rattle.galitzaf.proofs.Arrays.{Matched, matched, row-loads, uneven, unfit, loads-next, bytes_next, loads-all, bytes-all, all-ticked}
use Rattle.galitzaf.proofs.meters.galitzaf_tick_meters.Goals.{Else-malformed_row, Else-not-one_per_meter}
use Rattle.galitzaf.proofs.meters.galitzaf_tick_meters.Goals as goal

-- past the first condition, and past the second
well_formed : (c : Else-malformed_row) → let a = c.args in malformed_meters a.kinds.now a.lows.now a.highs.now a.loads.now ≡ false
well_formed c = sym c.malformed_row.ensures ∙ c.if-malformed_row.false

even : (c : Else-not-one_per_meter) → let a = c.args in eqb (length a.counts.now) (length a.loads.now) && eqb (length a.bytes.now) (length a.loads.now) ≡ true
even c = sym c.one_per_meter.ensures ∙ c.if-not-one_per_meter.false

all-match : (c : Else-not-one_per_meter) → let a = c.args in Matched a.kinds.now a.lows.now a.highs.now a.loads.now a.counts.now a.bytes.now
all-match c = let a = c.args in matched a.kinds.now a.lows.now a.highs.now a.loads.now a.counts.now a.bytes.now (sym c.malformed_row.ensures ∙ c.if-malformed_row.false) (even c)

pub returns-then-not-one_per_meter : goal.returns-then-not-one_per_meter
returns-then-not-one_per_meter c =
    let a = c.args in
    uneven a.kinds.now a.lows.now a.highs.now a.loads.now a.counts.now a.bytes.now (well_formed (goal.at.returns-then-not-one_per_meter c).Else-malformed_row)
    (sym c.one_per_meter.ensures ∙ c.if-not-one_per_meter.true)

pub all_fit-requires : goal.all_fit-requires
all_fit-requires c = let m = all-match (goal.at.all_fit-requires c).Else-not-one_per_meter in (m.kinds, m.lows, m.highs, m.counts)

pub returns-then-not-all_fit : goal.returns-then-not-all_fit
returns-then-not-all_fit c =
    let a = c.args in
    unfit a.kinds.now a.lows.now a.highs.now a.loads.now a.counts.now a.bytes.now (well_formed (goal.at.returns-then-not-all_fit c).Else-malformed_row)
    (even (goal.at.returns-then-not-all_fit c).Else-not-one_per_meter) (sym c.all_fit.ensures ∙ c.if-not-all_fit.true)

pub loop-i-init : goal.loop-i-init
unfolding steps marks
loop-i-init c = record {
  matched = all-match (goal.at.loop-i-init c).Else-not-one_per_meter;
  ticked = sym (row-loads _ _ _ _);
  marked = refl;
}

pub loop-i-preserved : goal.loop-i-preserved
loop-i-preserved c =
    let l = c.loop-i in
    let a = c.args in
    let m = l.invariant.matched in
    let small : l.i < length a.loads.now = omega arith in record {
      matched = m;
      ticked =
          loads-next a.kinds.now a.lows.now a.highs.now a.loads.now a.counts.now a.bytes.now m.kinds m.lows m.highs m.counts l.i small _ l.invariant.ticked
          c.meter.ensures c.tick-ticked.ensures;
      marked =
          bytes_next a.kinds.now a.lows.now a.highs.now a.loads.now a.counts.now a.bytes.now m.kinds m.lows m.highs m.counts l.i small _ l.invariant.ticked
          c.meter.ensures c.tick-ticked.ensures (omega arith) l.invariant.marked c.byte.ensures;
    }

pub returns : goal.returns
returns c =
    let l = c.loop-i in
    let a = c.args in
    let m = l.invariant.matched in
    let row = row_of a.kinds.now a.lows.now a.highs.now a.loads.now in
    let all : l.i ≡ length a.loads.now = omega arith in
    all-ticked a.kinds.now a.lows.now a.highs.now a.loads.now a.counts.now a.bytes.now (well_formed (goal.at.returns c).Else-malformed_row)
    (even (goal.at.returns c).Else-not-one_per_meter) (sym c.all_fit.ensures ∙ c.if-not-all_fit.false)
    (l.invariant.ticked ∙ ap (λ (j : ℕ). loads_of (steps j row a.counts.now)) all ∙ loads-all a.kinds.now a.lows.now a.highs.now a.loads.now a.counts.now a.bytes.now)
    (l.invariant.marked ∙ ap (λ (j : ℕ). marks j row a.counts.now a.bytes.now) all
    ∙ bytes-all a.kinds.now a.lows.now a.highs.now a.loads.now a.counts.now a.bytes.now m.counts m.bytes)
