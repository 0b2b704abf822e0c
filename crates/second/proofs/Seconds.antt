-- What one level of the second-level walk makes of the entry that the code fetched, and the walk after it.
use Prim.Native.Nat.{ℕ, suc, ◌-◌, ◌%◌, ◌^◌, ◌<◌}
use mathlib.Core.Bool.{Bool, true, false, not, ◌&&◌, ◌||◌}
use mathlib.Core.List.{◌++◌}
use mathlib.Core.Path.{◌≡◌, refl}
use native.Mathlib.Omega.{arith}
use lib.Dec.{lit≤}
use Rattle.image.specs.Bits.{bit, in_place}
use Rattle.std.specs.Prelude.{if◌then◌else◌}
use Rattle.image.specs.Memory.{Memory, Fetched, missing, found, entry, on_fetch}
use Rattle.image.specs.Place.{Place, entry_at, last_tried}
use Rattle.image.specs.Rules.{run}
use Rattle.image.proofs.Choices.{otherwise, neither}
use Rattle.image.proofs.Fields.{in-place-lt}
use Rattle.dma.specs.Page.{leaf_at, page_reserved}
use Rattle.dma.specs.Walk.{Step, done, down, place_in, step_over}
use Rattle.dma.proofs.Onward as onward
use Rattle.dma.proofs.Stepped.{more-levels}
use Rattle.dma.proofs.Walks.{walk-anew}
use Rattle.pasid.specs.declared.ScalableRegisters.{ScalableRegisters}
use Rattle.pasid.specs.declared.table.PasidEntry.{PasidEntry}
use Rattle.second.specs.Second.{Walked, page, fault, SecondHanded, readable, writable, handed_on, flags_not_snooped, second_flags, no_second_entry, second_step, second_over, second_rules}
use Rattle.second.specs.declared.step.Wanted.{Wanted}

-- a step that leads down ends nothing
not_done : {next : ℕ} {t : SecondHanded} {a : Walked} → down next t ≡ done a → ⊥
not_done h = let z : ◌≡◌ {A = ℕ} 0 1 = cc in omega arith

module _ (r : ScalableRegisters) (p : PasidEntry) (wanted : Wanted) where
  -- it leads to the entry's frame, and the entry is no page's
  pub leads : (level place : ℕ) (above : SecondHanded) (e : ℕ) {next : ℕ} {t : SecondHanded} → down next t ≡ second_step r p wanted level place above e
      → (next ≡ in_place e 51 12) × (leaf_at level e ≡ false)
  leads level place above e {next} {t} h =
      let h1 = otherwise (not (readable above e || writable above e)) not_done h in
      let h2 = otherwise (page_reserved r.base level e) not_done h1.1 in
      let h3 = otherwise (flags_not_snooped r p wanted.write level e) not_done h2.1 in
      let h4 = otherwise (wanted.write && not (bit e 1)) not_done h3.1 in
      let h5 = otherwise (wanted.read && not (bit e 0)) not_done h4.1 in
      let h6 = otherwise (leaf_at level e) not_done h5.1 in
      let same : down next t ≡ down (in_place e 51 12) (handed_on above e (second_flags p false place e)) = h6.1 in
      (cc, h6.0)

  -- the step, by the tests that the code is past
  module _ (level place : ℕ) (above : SecondHanded) (e : ℕ) where
    pub none_left : not (readable above e || writable above e) ≡ true → done (fault 0x79 p.fpd) ≡ second_step r p wanted level place above e
    none_left h = rw h

    module _ (some : not (readable above e || writable above e) ≡ false) where
      pub reserved : page_reserved r.base level e ≡ true → done (fault 0x7A p.fpd) ≡ second_step r p wanted level place above e
      reserved h = rw (some, h)

      module _ (clear : page_reserved r.base level e ≡ false) where
        pub not-snooped : flags_not_snooped r p wanted.write level e ≡ true → done (fault 0x7C p.fpd) ≡ second_step r p wanted level place above e
        not-snooped h = rw (some, clear, h)

        module _ (snooped : flags_not_snooped r p wanted.write level e ≡ false) where
          pub lacking : (wanted.write && not (bit e 1) || wanted.read && not (bit e 0)) ≡ true
              → done (fault (if wanted.write && not (bit e 1) then 0x85 else 0x86) p.fpd) ≡ second_step r p wanted level place above e
          lacking h = rw (some, clear, snooped) (by (wanted.write && not (bit e 1)) (wanted.read && not (bit e 0)) h _)
            where
              by : (x y : Bool) → (x || y) ≡ true → (rest : Step SecondHanded Walked)
                  → done (fault (if x then 0x85 else 0x86) p.fpd) ≡ (if x then done (fault 0x85 p.fpd) else if y then done (fault 0x86 p.fpd) else rest)
              by true y h rest = refl
              by false true h rest = refl
              by false false h rest = let z : ◌≡◌ {A = ℕ} 0 1 = cc in absurd (omega arith)

    -- the entry is past them all
    abbrev pub Passed : Type 0
    Passed =
        (not (readable above e || writable above e) ≡ false)
        × (page_reserved r.base level e ≡ false)
        × (flags_not_snooped r p wanted.write level e ≡ false)
        × ((wanted.write && not (bit e 1) || wanted.read && not (bit e 0)) ≡ false)

    module _ (passed : Passed) where
      used : second_step r p wanted level place above e
          ≡ (if leaf_at level e then done (page (in_place e 51 12) level (writable above e) (above.flags ++ second_flags p wanted.write place e))
          else down (in_place e 51 12) (handed_on above e (second_flags p false place e)))
      used =
          let each = neither (wanted.write && not (bit e 1)) (wanted.read && not (bit e 0)) passed.3 in
          rw (passed.0, passed.1, passed.2, each.0, each.1)

      pub to-page : leaf_at level e ≡ true
          → done (page (in_place e 51 12) level (writable above e) (above.flags ++ second_flags p wanted.write place e)) ≡ second_step r p wanted level place above e
      to-page h = rw (used, h)

      pub to-table : leaf_at level e ≡ false → down (in_place e 51 12) (handed_on above e (second_flags p false place e)) ≡ second_step r p wanted level place above e
      to-table h = rw (used, h)

  module _ (address : ℕ) (m : Memory) (n table : ℕ) (above : SecondHanded) where
    pub unfetched : missing ≡ entry 1 m (place_in address table n) → done (no_second_entry r p wanted above) ≡ second_over r p wanted address m n table above
    unfolding step_over
    unfetched h = rw (← h)

    pub fetched : {e : ℕ} → found e ≡ entry 1 m (place_in address table n)
        → second_step r p wanted (suc n) (place_in address table n) above e ≡ second_over r p wanted address m n table above
    unfolding step_over
    fetched h = rw (← h)

    -- a level leads to a table that begins a page, and is not the last
    pub down_to : {next : ℕ} {t : SecondHanded} → down next t ≡ second_over r p wanted address m n table above → (next % 4096 ≡ 0) × (next < 2 ^ 52) × (0 < n)
    unfolding step_over
    down_to {next} {t} = by (entry 1 m (place_in address table n))
      where
        by : (f : Fetched) → down next t ≡ on_fetch f (done (no_second_entry r p wanted above)) (second_step r p wanted (suc n) (place_in address table n) above)
            → (next % 4096 ≡ 0) × (next < 2 ^ 52) × (0 < n)
        by missing h = let z : ◌≡◌ {A = ℕ} 0 1 = cc in absurd (omega arith)
        by (found e) h =
            let led = leads (suc n) (place_in address table n) above e h in
            (rw led.0 (omega arith), rw led.0 (in-place-lt e 51 12 (lit≤ tt)), more-levels n e led.1)

  -- the laws of every walk, at this one
  module _ (address : ℕ) (m : Memory) (level table : ℕ) (s : SecondHanded) (more : 0 < level) where
    pub ended : {a : Walked} → done a ≡ second_over r p wanted address m (level - 1) table s → a ≡ run (second_rules r p wanted address level table s) m
    ended = onward.ended address (no_second_entry r p wanted) (second_step r p wanted) m level table s more

    pub led : {next : ℕ} {t : SecondHanded} → down next t ≡ second_over r p wanted address m (level - 1) table s
        → run (second_rules r p wanted address (level - 1) next t) m ≡ run (second_rules r p wanted address level table s) m
    led = onward.onward address (no_second_entry r p wanted) (second_step r p wanted) m level table s more

    pub ended_at : (before : Place) {a : Walked} → done a ≡ second_over r p wanted address m (level - 1) table s
        → last_tried before (second_rules r p wanted address level table s) m ≡ entry_at (place_in address table (level - 1))
    ended_at = onward.ended_at address (no_second_entry r p wanted) (second_step r p wanted) m level table s more

    pub led-at : (before : Place) {next : ℕ} {t : SecondHanded} → down next t ≡ second_over r p wanted address m (level - 1) table s
        → last_tried before (second_rules r p wanted address level table s) m
        ≡ last_tried (entry_at (place_in address table (level - 1))) (second_rules r p wanted address (level - 1) next t) m
    led-at = onward.onward-at address (no_second_entry r p wanted) (second_step r p wanted) m level table s more

    pub anew : (before before' : Place)
        → last_tried before (second_rules r p wanted address level table s) m ≡ last_tried before' (second_rules r p wanted address level table s) m
    anew before before' = walk-anew address (no_second_entry r p wanted) (second_step r p wanted) m before before' level table s more
