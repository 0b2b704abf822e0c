-- Tables of which none but the top one is empty, and one more perhaps: while a page is mapped the table made last, while it is unmapped
-- the one that it was in.
use Prim.Native.Nat.{ℕ, zero, suc, ◌+◌, ◌*◌, ◌/◌, ◌%◌, ◌^◌, ◌<◌, ◌≤◌}
use mathlib.Core.Bool.{Bool, true, false, not, ◌&&◌}
use mathlib.Core.Path.{◌≡◌, refl, ap, sym, ◌∙◌}
use mathlib.Core.List.{List}
use native.Mathlib.Decide.{ℕ_discrete}
use native.Mathlib.Omega.{arith}
use lib.ListN.{length, get_or, set}
use lib.Seq.{get_or-set_same}
use Rattle.image.specs.Memory.{with_word}
use Rattle.image.proofs.Choices.{both}
use Rattle.tables.specs.Tables.{held_entry, present, maps_page, absent, empty_table, table_entry, words_zeroed}
use Rattle.tables.specs.declared.Tree.{Tree}
use Rattle.leaves.specs.WellBuilt.{WellBuilt, NoneEmpty}
use Rattle.leaves.proofs.Entries.{entry-stored, each-absent}
use Rattle.leaves.proofs.Steps.{contradicts, other-kept, other-mark, made-leads, made_other}

-- an entry of a page is present
pub record Filled (bytes : List ℕ) (page : ℕ) : Type 0 where
  pub entry : ℕ
  pub in-it : entry / 512 ≡ page
  pub on : present (held_entry bytes (8 * entry)) ≡ true

some-entry : (n : ℕ) (bytes : List ℕ) (x page : ℕ) → absent n bytes (8 * x) ≡ false → 512 * page ≤ x → x + n ≤ 512 * page + 512 → Filled bytes page
unfolding absent
some-entry zero bytes x page h from to = absurd (contradicts h refl)
some-entry (suc n) bytes x page h from to = go (present (held_entry bytes (8 * x))) refl h (some-entry n bytes (suc x) page)
  where
    next : 8 * x + 8 ≡ 8 * suc x
    next = omega arith

    go : (t : Bool) → present (held_entry bytes (8 * x)) ≡ t → (not t && absent n bytes (8 * x + 8)) ≡ false
        → (absent n bytes (8 * suc x) ≡ false → 512 * page ≤ suc x → suc x + n ≤ 512 * page + 512 → Filled bytes page) → Filled bytes page
    go true e h later = record { entry = x; in-it = omega arith; on = e }
    go false e h later = later (rw next at h) (omega arith) (omega arith)

pub filled-page : (bytes : List ℕ) (page : ℕ) → empty_table bytes (4096 * page) ≡ false → Filled bytes page
filled-page bytes page h =
    let place : 4096 * page ≡ 8 * (512 * page) = omega arith in
    some-entry 512 bytes (512 * page) page (rw place at h) (omega arith) (omega arith)

pub not-empty : (bytes : List ℕ) (page : ℕ) → Filled bytes page → empty_table bytes (4096 * page) ≡ false
not-empty bytes page f = go (empty_table bytes (4096 * page)) refl
  where
    go : (t : Bool) → empty_table bytes (4096 * page) ≡ t → t ≡ false
    go false e = refl
    go true e =
        let place : 4096 * page + 8 * (f.entry % 512) ≡ 8 * f.entry = omega (arith, f.in-it) in
        let gone : present (held_entry bytes (8 * f.entry)) ≡ false = rw (← place) (each-absent 512 bytes (4096 * page) (f.entry % 512) e (omega arith)) in
        absurd (contradicts gone f.on)

-- all but the top one and another
abbrev pub FilledBut : (bytes marks : List ℕ) → Tree → (other : ℕ) → Type 0
FilledBut bytes marks tree other =
    (page n : ℕ) → get_or marks page 0 ≡ suc n → (4096 * page ≡ tree.top → ⊥) → (page ≡ other → ⊥) → Filled bytes page

pub all_but : (bytes marks : List ℕ) (tree : Tree) (other : ℕ) → NoneEmpty bytes marks tree → FilledBut bytes marks tree other
all_but bytes marks tree other h page n m top apart = filled-page bytes page (h page n m top)

-- an entry that stays
kept : (bytes after : List ℕ) (page : ℕ) → ((y : ℕ) → y / 512 ≡ page → held_entry after (8 * y) ≡ held_entry bytes (8 * y)) → Filled bytes page → Filled after page
kept bytes after page same f = record { entry = f.entry; in-it = f.in-it; on = rw (same f.entry f.in-it) f.on }

-- all others are, and the other too, or is the top one
pub and-it : (bytes marks : List ℕ) (tree : Tree) (other : ℕ) → ((4096 * other ≡ tree.top → ⊥) → Filled bytes other) → FilledBut bytes marks tree other
    → NoneEmpty bytes marks tree
and-it bytes marks tree other it h page n m top = not-empty bytes page (go (ℕ_discrete page other))
  where
    go : Dec (page ≡ other) → Filled bytes page
    go (yes same) = rw same (it (λ t. top (ap (λ (k : ℕ). 4096 * k) same ∙ t)))
    go (no apart) = h page n m top apart

module _ (bytes marks : List ℕ) (tree : Tree) (x word other : ℕ) (inside : 8 * x + 8 ≤ length bytes) (fits : word < 2 ^ 64) (here : x / 512 ≡ other) where
  elsewhere : (page : ℕ) → (page ≡ other → ⊥) → Filled bytes page → Filled (with_word bytes (8 * x) word) page
  elsewhere page apart =
      kept bytes (with_word bytes (8 * x) word) page
      (λ y in-it. other-kept bytes x word y (λ same. apart (sym in-it ∙ ap (λ (k : ℕ). k / 512) same ∙ here)))

  -- a store in a table
  pub stored-but : FilledBut bytes marks tree other → FilledBut (with_word bytes (8 * x) word) marks tree other
  stored-but h page n m top apart = elsewhere page apart (h page n m top apart)

  -- of a present entry: it isn't empty
  pub stored-in : present word ≡ true → Filled (with_word bytes (8 * x) word) other
  stored-in on = record { entry = x; in-it = here; on = rw (entry-stored bytes (8 * x) word inside fits) on }

-- a table is made, and is empty
module _ (bytes marks : List ℕ) (tree : Tree) (w : WellBuilt bytes marks tree) (x level f : ℕ) (mark : get_or marks (x / 512) 0 ≡ suc level)
    (deep : 0 < level) (there : f < length marks) (free : get_or marks f 0 ≡ 0) (was : present (held_entry bytes (8 * x)) ≡ false) where
  abbrev made : List ℕ
  made = with_word (words_zeroed 512 bytes (4096 * f)) (8 * x) (table_entry tree.start (4096 * f))

  leading : present (held_entry made (8 * x)) ≡ true
  leading =
      (both (present (held_entry made (8 * x))) (not (maps_page level (held_entry made (8 * x)))) (made-leads bytes marks tree w x level f mark deep there free was)).0

  pub made-but : FilledBut bytes marks tree (x / 512) → FilledBut made (set marks f level) tree f
  made-but h page n m top apart = go (ℕ_discrete page (x / 512))
    where
      go : Dec (page ≡ x / 512) → Filled made page
      go (yes same) = record { entry = x; in-it = sym same; on = leading }
      go (no other) =
          kept bytes made page
          (λ y in-it. made_other bytes marks tree w x level f mark deep there free was y
          (λ same. other (sym in-it ∙ ap (λ (k : ℕ). k / 512) same)) (λ same. apart (sym in-it ∙ same)))
          (h page n (sym (other-mark marks f level page apart) ∙ m) top other)

-- an empty table is released: the one over it may be empty now
pub freed-but : (bytes marks : List ℕ) (tree : Tree) (x f : ℕ) → f < length marks → FilledBut bytes marks tree f
    → FilledBut (with_word bytes (8 * x) 0) (set marks f 0) tree (x / 512)
freed-but bytes marks tree x f inside h page n m top apart = go (ℕ_discrete page f)
  where
    go : Dec (page ≡ f) → Filled (with_word bytes (8 * x) 0) page
    go (yes same) =
        let m' : get_or (set marks f 0) f 0 ≡ suc n = rw same at m in
        let z = get_or-set_same marks f 0 0 inside in
        absurd (omega arith)
    go (no other) =
        kept bytes (with_word bytes (8 * x) 0) page
        (λ y in-it. other-kept bytes x 0 y (λ same. apart (sym in-it ∙ ap (λ (k : ℕ). k / 512) same)))
        (h page n (sym (other-mark marks f 0 page other) ∙ m) top other)
