-- What was written is read back.
use Prim.Native.Nat.{ℕ, suc, ◌+◌, ◌*◌, ◌/◌, ◌%◌, ◌^◌, ◌≤◌, ◌<◌}
use mathlib.Core.Path.{◌≡◌, refl, ap, sym, ◌∙◌}
use mathlib.Core.Bool.{true}
use mathlib.Core.List.{List, [], ◌∷◌, ◌++◌, append_assoc, append-nil}
use native.Mathlib.Decide.{dec_le}
use native.Mathlib.Nat.{add-zero, zero-add, add-suc}
use native.Mathlib.Omega.{arith}
use borrow.Author.Tests.{eq-eqb, ne_eqb}
use lib.Dec.{lit<}
use lib.ListN.{length, length-append}
use lib.Seq.{take_at, drop_at}
use Rattle.image.proofs.Bytes.{AreBytes, bytes-append, bytes-number}
use Rattle.blocks.specs.Block.{entries_well, well_laid}
use Rattle.blocks.proofs.Finished.{counted, from-eight, block-framed}
use Rattle.traced.specs.Decoded.{entry_well}
use Rattle.traced.specs.Entry.{Fits, entry_bytes}
use Rattle.traced.specs.Well.{well_traced}
use Rattle.traced.specs.declared.Traced.{Traced}
use Rattle.traced.proofs.Back.{four, entry-back, entry_length}
use Rattle.traced.proofs.Heads.{head_of, message_of}
use Rattle.image.specs.Bytes.{bytes_of}
use Rattle.trace.specs.Told.{Told, traced_at, entries_from, told_of, told_from, blocks_in}
use Rattle.trace.specs.Written.{entries_bytes, block_of, blocks_from, Entries, placed, ReadBack}
use Rattle.trace.proofs.Apart.{block-first}
use Rattle.trace.proofs.Filling.{joined_length, behind-length, entries-behind, block-of, length-of-block, no-entries, first_of, others-of}

-- an entry's bytes
entry-bytes : (e : Traced) → Fits e → AreBytes (entry_bytes e)
entry-bytes e f i =
    rw (four e f)
    (bytes-append (bytes_of 8 (head_of e) ++ bytes_of 8 e.address ++ bytes_of 8 (message_of e)) (bytes_of 8 e.value)
    (bytes-append (bytes_of 8 (head_of e) ++ bytes_of 8 e.address) (bytes_of 8 (message_of e))
    (bytes-append (bytes_of 8 (head_of e)) (bytes_of 8 e.address) (bytes-number 8 (head_of e)) (bytes-number 8 e.address))
    (bytes-number 8 (message_of e)))
    (bytes-number 8 e.value)
    i)

entry-well : (e : Traced) → (well_traced e ≡ true) × Fits e → entry_well (entry_bytes e) ≡ true
unfolding entry_well
entry-well e this = rw (eq-eqb (length (entry_bytes e)) 32 (entry_length e this.1), entry-back e this.1, this.0)

joined_bytes : (es : List Traced) → Entries es → AreBytes (entries_bytes es)
unfolding entries_bytes Entries
joined_bytes [] fine i = lit< tt
joined_bytes (e ∷ es) fine i = bytes-append (entry_bytes e) (entries_bytes es) (entry-bytes e fine.0.1) (joined_bytes es fine.1) i

joined-well : (es : List Traced) (rest : List ℕ) → Entries es → entries_well entry_well (length es) (entries_bytes es ++ rest) ≡ true
unfolding entries_bytes Entries entries_well
joined-well [] rest fine = refl
joined-well (e ∷ es) rest fine =
    let this = entry_length e fine.0.1 in
    rw (append_assoc (entry_bytes e) (entries_bytes es) rest, take_at (entry_bytes e) (entries_bytes es ++ rest) 32 this, drop_at (entry_bytes e) (entries_bytes es ++ rest) 32 this, entry-well e fine.0)
    (joined-well es rest fine.1)

-- the entries of a block are told by their places in the trace
entries-placed : (es : List Traced) (number i : ℕ) (rest : List ℕ) → Entries es → i + length es ≤ 15
    → entries_from number i (length es) (entries_bytes es ++ rest) ≡ placed (15 * number + i) es
unfolding entries_bytes Entries entries_from placed
entries-placed [] number i rest fine few = refl
entries-placed (e ∷ es) number i rest fine few =
    let this = entry_length e fine.0.1 in
    let block : (15 * number + i) / 15 ≡ number = omega arith in
    let index : (15 * number + i) % 15 ≡ i = omega arith in
    rw (append_assoc (entry_bytes e) (entries_bytes es) rest, take_at (entry_bytes e) (entries_bytes es ++ rest) 32 this, drop_at (entry_bytes e) (entries_bytes es ++ rest) 32 this, block, index)
    (ap (λ (l : List Told). traced_at number i (entry_bytes e) ∷ l)
    (entries-placed es number (suc i) rest fine.1 (omega arith) ∙ ap (λ (n : ℕ). placed n es) (add-suc (15 * number) i)))

placed-behind : (xs ys : List Traced) (n : ℕ) → placed n (xs ++ ys) ≡ placed n xs ++ placed (n + length xs) ys
unfolding placed
placed-behind [] ys n = ap (λ (k : ℕ). placed k ys) (sym (add-zero n))
placed-behind (x ∷ xs) ys n =
    let same : suc n + length xs ≡ n + suc (length xs) = omega arith in
    ap (λ (l : List Told). traced_at (n / 15) (n % 15) (entry_bytes x) ∷ l)
    (placed-behind xs ys (suc n) ∙ ap (λ (k : ℕ). placed (suc n) xs ++ placed k ys) same)

-- one block
module _ (number : ℕ) (es : List Traced) (fine : Entries es) (some : 1 ≤ length es) (few : length es ≤ 15) (small : number < 2 ^ 48) where
  block-well : well_laid entry_well (block_of number es) number ≡ true
  unfolding well_laid
  block-well =
      rw (block-of number es some, counted number (length es) (entries_bytes es) (joined_length es fine) few, from-eight number (length es) (entries_bytes es) (joined_length es fine) few, block-framed number (length es) (entries_bytes es) (joined_length es fine) few some small (joined_bytes es fine))
      (joined-well es _ fine)

  block-told : told_of (block_of number es) number ≡ placed (15 * number) es
  unfolding told_of
  block-told =
      rw block-well
      (rw (block-of number es some, counted number (length es) (entries_bytes es) (joined_length es fine) few, from-eight number (length es) (entries_bytes es) (joined_length es fine) few)
      (entries-placed es number 0 _ fine (rw (zero-add (length es)) few) ∙ ap (λ (n : ℕ). placed n es) (add-zero (15 * number))))

  pub first-told : (rest : List ℕ)
      → told_from (blocks_in (block_of number es ++ rest)) number (block_of number es ++ rest) ≡ placed (15 * number) es ++ told_from (blocks_in rest) (suc number) rest
  first-told rest =
      let sized = length-of-block number es fine some few in
      let more : blocks_in (block_of number es ++ rest) ≡ suc (blocks_in rest) = simp (length-append, sized) (omega arith) in
      rw (more, block-first (blocks_in rest) number (block_of number es) rest sized, block-told)

-- one more entry, where what follows is told
module _ (e : Traced) (es : List Traced) (number : ℕ) (waiting : List Traced) (waits : Entries waiting) (this : (well_traced e ≡ true) × Fits e)
    (few : length waiting < 15) (small : number < 2 ^ 48) where
  told-fifteenth : 14 ≤ length waiting
      → told_from (blocks_in (blocks_from (suc number) [] es)) (suc number) (blocks_from (suc number) [] es) ≡ placed (15 * suc number) es
      → told_from (blocks_in (blocks_from number waiting (e ∷ es))) number (blocks_from number waiting (e ∷ es)) ≡ placed (15 * number) (waiting ++ (e ∷ es))
  unfolding blocks_from
  told-fifteenth last after =
      let is : length waiting ≡ 14 = omega arith in
      let all : length (waiting ++ (e ∷ [])) ≡ 15 = behind-length waiting e ∙ ap suc is in
      let behind : 15 * number + length (waiting ++ (e ∷ [])) ≡ 15 * suc number = omega arith in
      let split : waiting ++ (e ∷ es) ≡ waiting ++ (e ∷ []) ++ es = sym (append_assoc waiting (e ∷ []) es) in
      rw (eq-eqb (length waiting) 14 is, split, placed-behind (waiting ++ (e ∷ [])) es (15 * number), behind, ← after)
      (first-told number (waiting ++ (e ∷ [])) (entries-behind waiting e waits this) (omega arith) (omega arith) small (blocks_from (suc number) [] es))

  told-waiting : length waiting < 14
      → told_from (blocks_in (blocks_from number (waiting ++ (e ∷ [])) es)) number (blocks_from number (waiting ++ (e ∷ [])) es)
      ≡ placed (15 * number) (waiting ++ (e ∷ []) ++ es)
      → told_from (blocks_in (blocks_from number waiting (e ∷ es))) number (blocks_from number waiting (e ∷ es)) ≡ placed (15 * number) (waiting ++ (e ∷ es))
  unfolding blocks_from
  told-waiting less after =
      let other : length waiting ≡ 14 → ⊥ = λ h. omega arith in
      rw (ne_eqb (length waiting) 14 other) (after ∙ ap (λ (l : List Traced). placed (15 * number) l) (append_assoc waiting (e ∷ []) es))

last-told : (number : ℕ) (es : List Traced) → Entries es → 1 ≤ length es → length es ≤ 15 → number < 2 ^ 48
    → told_from (blocks_in (block_of number es)) number (block_of number es) ≡ placed (15 * number) es
unfolding told_from
last-told number es fine some few small =
    let whole = append-nil (block_of number es) in
    ap (λ (l : List ℕ). told_from (blocks_in l) number l) (sym whole)
    ∙ first-told number es fine some few small []
    ∙ append-nil (placed (15 * number) es)

written : (es : List Traced) (number : ℕ) (waiting : List Traced) → length waiting < 15 → Entries waiting → Entries es
    → 15 * number + length waiting + length es ≤ 15 * 2 ^ 48
    → told_from (blocks_in (blocks_from number waiting es)) number (blocks_from number waiting es) ≡ placed (15 * number) (waiting ++ es)
unfolding blocks_from block_of placed told_from
written [] number [] few waits fine small = refl
written [] number (d ∷ ds) few waits fine small =
    last-told number (d ∷ ds) waits (omega arith) (omega arith) (omega arith)
    ∙ ap (λ (l : List Traced). placed (15 * number) l) (sym (append-nil (d ∷ ds)))
written (e ∷ es) number waiting few waits fine small = go (written es) (dec_le 14 (length waiting))
  where
    this : (well_traced e ≡ true) × Fits e
    this = first_of e es fine

    go : ((m : ℕ) (w : List Traced) → length w < 15 → Entries w → Entries es → 15 * m + length w + length es ≤ 15 * 2 ^ 48
        → told_from (blocks_in (blocks_from m w es)) m (blocks_from m w es) ≡ placed (15 * m) (w ++ es))
        → Dec (14 ≤ length waiting)
        → told_from (blocks_in (blocks_from number waiting (e ∷ es))) number (blocks_from number waiting (e ∷ es)) ≡ placed (15 * number) (waiting ++ (e ∷ es))
    go rec (yes last) =
        told-fifteenth e es number waiting waits this few (omega arith) last
        (rec (suc number) [] (omega arith) no-entries (others-of e es fine) (omega arith))
    go rec (no less) =
        let more = behind-length waiting e in
        told-waiting e es number waiting waits this few (omega arith) (omega arith)
        (rec number (waiting ++ (e ∷ [])) (omega arith) (entries-behind waiting e waits this) (others-of e es fine) (omega arith))

pub read_back : ReadBack
read_back es fine few = written es 0 [] (omega arith) no-entries fine (omega arith)
