-- A buffer that is filled entry by entry holds the entries that were appended, and is made their block.
use Prim.Native.Nat.{ℕ, suc, ◌+◌, ◌*◌, ◌^◌, ◌≤◌, ◌<◌}
use mathlib.Core.Path.{◌≡◌, refl, ap, sym, ◌∙◌}
use mathlib.Core.Bool.{true, false, not, ◌||◌}
use mathlib.Core.List.{List, [], ◌∷◌, ◌++◌, append_assoc, append-nil}
use native.Mathlib.Decide.{dec_le}
use native.Mathlib.Numerals.{add-one}
use native.Mathlib.Omega.{arith}
use borrow.Author.Tests.{eq-eqb, ne_eqb, le-leb, lt-leb}
use lib.ListN.{length, take, drop, length-append}
use Rattle.blocks.specs.Written.{block_bytes, held_in, finished}
use Rattle.blocks.proofs.Finished.{block-length}
use Rattle.blocks.proofs.Laid.{appended, made}
use Rattle.traced.specs.Entry.{Fits, entry_bytes}
use Rattle.traced.specs.Well.{well_traced}
use Rattle.traced.specs.declared.Traced.{Traced}
use Rattle.traced.proofs.Back.{entry_length}
use Rattle.trace.specs.Writer.{Wrote, unfit, with_entry, appending, closing, on_wrote, handed_out, TraceHandedOut}
use Rattle.trace.specs.Written.{entries_bytes, block_of, blocks_from, Entries}
use Rattle.trace.specs.declared.writer.Writer.{Writer}
use Rattle.trace.proofs.Writes.{append-kept, append-full, close-refused, close-none, close-full}

-- entries side by side
pub joined-behind : (es : List Traced) (e : Traced) → entries_bytes (es ++ (e ∷ [])) ≡ entries_bytes es ++ entry_bytes e
unfolding entries_bytes
joined-behind [] e = append-nil (entry_bytes e)
joined-behind (d ∷ es) e =
    ap (λ (l : List ℕ). entry_bytes d ++ l) (joined-behind es e) ∙ sym (append_assoc (entry_bytes d) (entries_bytes es) (entry_bytes e))

pub joined_length : (es : List Traced) → Entries es → length (entries_bytes es) ≡ 32 * length es
unfolding entries_bytes Entries
joined_length [] fine = refl
joined_length (e ∷ es) fine =
    let rest = joined_length es fine.1 in
    let this = entry_length e fine.0.1 in
    simp length-append (omega arith)

pub behind-length : (es : List Traced) (e : Traced) → length (es ++ (e ∷ [])) ≡ suc (length es)
behind-length es e = simp length-append (omega arith)

pub entries-behind : (es : List Traced) (e : Traced) → Entries es → (well_traced e ≡ true) × Fits e → Entries (es ++ (e ∷ []))
unfolding Entries
entries-behind [] e fine this = (this, tt)
entries-behind (d ∷ es) e fine this = (fine.0, entries-behind es e fine.1 this)

-- the block of some entries
pub block-of : (number : ℕ) (es : List Traced) → 1 ≤ length es → block_of number es ≡ block_bytes number (length es) (entries_bytes es)
unfolding block_of
block-of number [] some = absurd (omega arith)
block-of number (e ∷ es) some = refl

-- a writer with so many entries waiting
abbrev pub at : (number : ℕ) (waiting : List Traced) → Writer
at number waiting = record { count = length waiting; number = number }

module _ (buffer : List ℕ) (number : ℕ) (waiting : List Traced) (whole : length buffer ≡ 512) (few : length waiting < 15) (small : number < 2 ^ 48) where
  fit : unfit (at number waiting) (length buffer) ≡ false
  fit = rw (eq-eqb (length buffer) 512 whole, lt-leb 15 (length waiting) few, lt-leb (2 ^ 48) number small)

  module _ (e : Traced) (well : well_traced e ≡ true) (fits : Fits e) (held : held_in buffer (length waiting) ≡ entries_bytes waiting) where
    fit-entry : (unfit (at number waiting) (length buffer) || not (well_traced e)) ≡ false
    fit-entry = rw (fit, well)

    laid : with_entry buffer (length waiting) e
        ≡ take (8 + 32 * length waiting) buffer ++ entry_bytes e ++ drop (8 + 32 * length waiting + length (entry_bytes e)) buffer
    laid =
        let room : 8 + 32 * length waiting + 32 ≤ length buffer = omega arith in
        rw (le-leb (8 + 32 * length waiting + 32) (length buffer) room, entry_length e fits)

    both : (length (with_entry buffer (length waiting) e) ≡ 512)
        × (held_in (with_entry buffer (length waiting) e) (length waiting + 1) ≡ held_in buffer (length waiting) ++ entry_bytes e)
    both = appended buffer (length waiting) (entry_bytes e) whole few (entry_length e fits) laid

    pub longer : length (with_entry buffer (length waiting) e) ≡ 512
    longer = both.0

    pub holds : held_in (with_entry buffer (length waiting) e) (length (waiting ++ (e ∷ []))) ≡ entries_bytes (waiting ++ (e ∷ []))
    holds =
        let more : length (waiting ++ (e ∷ [])) ≡ length waiting + 1 = behind-length waiting e ∙ sym (add-one (length waiting)) in
        ap (λ (n : ℕ). held_in (with_entry buffer (length waiting) e) n) more
        ∙ both.1
        ∙ ap (λ (l : List ℕ). l ++ entry_bytes e) held
        ∙ sym (joined-behind waiting e)

one-call : (w : Writer) (buffer : List ℕ) (e : Traced) (es : List Traced) {r : Wrote × List ℕ} → r ≡ appending w buffer e
    → handed_out w buffer (e ∷ es) ≡ on_wrote w r (λ w' buffer'. handed_out w' buffer' es)
unfolding handed_out
one-call w buffer e es is = rw (← is)

last-call : (w : Writer) (buffer : List ℕ) {r : Wrote × List ℕ} → r ≡ closing w buffer
    → handed_out w buffer [] ≡ on_wrote w r (λ w' buffer'. [])
unfolding handed_out
last-call w buffer is = rw (← is)

-- nothing waits
none_left : (buffer : List ℕ) (number : ℕ) → length buffer ≡ 512 → Dec (2 ^ 48 ≤ number) → handed_out (at number []) buffer [] ≡ []
none_left buffer number whole (yes large) =
    last-call (at number []) buffer
    (close-refused (at number []) buffer (rw (eq-eqb (length buffer) 512 whole, le-leb (2 ^ 48) number large)))
none_left buffer number whole (no small) =
    last-call (at number []) buffer (close-none (at number []) buffer (fit buffer number [] whole (omega arith) (omega arith)) refl)

module _ (buffer : List ℕ) (number : ℕ) (es : List Traced) (whole : length buffer ≡ 512) (some : 1 ≤ length es) (few : length es ≤ 15)
    (held : held_in buffer (length es) ≡ entries_bytes es) where
  pub block_made : finished buffer number (length es) ≡ block_of number es
  block_made =
      made buffer number (length es) whole few
      ∙ ap (λ (l : List ℕ). block_bytes number (length es) l) held
      ∙ sym (block-of number es some)

pub length-of-block : (number : ℕ) (es : List Traced) → Entries es → 1 ≤ length es → length es ≤ 15 → length (block_of number es) ≡ 512
length-of-block number es fine some few =
    ap length (block-of number es some) ∙ block-length number (length es) (entries_bytes es) (joined_length es fine) few

none-held : (buffer : List ℕ) → held_in buffer 0 ≡ entries_bytes []
unfolding entries_bytes
none-held buffer = refl

pub no-entries : Entries []
unfolding Entries
no-entries = tt

pub first_of : (e : Traced) (es : List Traced) → Entries (e ∷ es) → (well_traced e ≡ true) × Fits e
unfolding Entries
first_of e es fine = fine.0

pub others-of : (e : Traced) (es : List Traced) → Entries (e ∷ es) → Entries es
unfolding Entries
others-of e es fine = fine.1

-- one more entry, where what follows is known
module _ (e : Traced) (es : List Traced) (buffer : List ℕ) (number : ℕ) (waiting : List Traced) (whole : length buffer ≡ 512)
    (few : length waiting < 15) (small : number < 2 ^ 48) (held : held_in buffer (length waiting) ≡ entries_bytes waiting) (waits : Entries waiting)
    (well : well_traced e ≡ true) (fits : Fits e) where
  fourteen-more : length waiting < 14
      → handed_out (at number (waiting ++ (e ∷ []))) (with_entry buffer (length waiting) e) es ≡ blocks_from number (waiting ++ (e ∷ [])) es
      → handed_out (at number waiting) buffer (e ∷ es) ≡ blocks_from number waiting (e ∷ es)
  unfolding blocks_from
  fourteen-more less after =
      let other : length waiting ≡ 14 → ⊥ = λ h. omega arith in
      let more : length waiting + 1 ≡ length (waiting ++ (e ∷ [])) = add-one (length waiting) ∙ sym (behind-length waiting e) in
      one-call (at number waiting) buffer e es
      (append-kept (at number waiting) buffer e (fit-entry buffer number waiting whole few small e well fits held) less)
      ∙ ap (λ (n : ℕ). handed_out (record { count = n; number = number }) (with_entry buffer (length waiting) e) es) more
      ∙ rw (ne_eqb (length waiting) 14 other) after

  fifteenth : 14 ≤ length waiting → ((b : List ℕ) → length b ≡ 512 → handed_out (at (suc number) []) b es ≡ blocks_from (suc number) [] es)
      → handed_out (at number waiting) buffer (e ∷ es) ≡ blocks_from number waiting (e ∷ es)
  unfolding blocks_from
  fifteenth last after =
      let is : length waiting ≡ 14 = omega arith in
      let all : length (waiting ++ (e ∷ [])) ≡ 15 = behind-length waiting e ∙ ap suc is in
      let fine = entries-behind waiting e waits (well, fits) in
      let some : 1 ≤ length (waiting ++ (e ∷ [])) = omega arith in
      let most : length (waiting ++ (e ∷ [])) ≤ 15 = omega arith in
      let block : finished (with_entry buffer (length waiting) e) number 15 ≡ block_of number (waiting ++ (e ∷ [])) =
      ap (λ (n : ℕ). finished (with_entry buffer (length waiting) e) number n) (sym all)
      ∙ block_made (with_entry buffer (length waiting) e) number (waiting ++ (e ∷ []))
      (longer buffer number waiting whole few small e well fits held) some most (holds buffer number waiting whole few small e well fits held) in
      one-call (at number waiting) buffer e es
      (append-full (at number waiting) buffer e (fit-entry buffer number waiting whole few small e well fits held) last)
      ∙ ap (λ (b : List ℕ). b ++ handed_out (record { count = 0; number = number + 1 }) b es) block
      ∙ rw (eq-eqb (length waiting) 14 is, add-one number)
      (ap (λ (l : List ℕ). block_of number (waiting ++ (e ∷ [])) ++ l)
      (after (block_of number (waiting ++ (e ∷ []))) (length-of-block number (waiting ++ (e ∷ [])) fine some most)))

-- the blocks that are handed out while some entries wait
pub handed : (es : List Traced) (buffer : List ℕ) (number : ℕ) (waiting : List Traced) → length buffer ≡ 512 → length waiting < 15
    → held_in buffer (length waiting) ≡ entries_bytes waiting → Entries waiting → Entries es → 15 * number + length waiting + length es ≤ 15 * 2 ^ 48
    → handed_out (at number waiting) buffer es ≡ blocks_from number waiting es
unfolding blocks_from block_of
handed [] buffer number [] whole few held waits fine small = none_left buffer number whole (dec_le (2 ^ 48) number)
handed [] buffer number (d ∷ ds) whole few held waits fine small =
    let more : length (d ∷ ds) ≡ 0 → ⊥ = λ e. omega arith in
    last-call (at number (d ∷ ds)) buffer
    (close-full (at number (d ∷ ds)) buffer (fit buffer number (d ∷ ds) whole few (omega arith)) more)
    ∙ append-nil (finished buffer number (length (d ∷ ds)))
    ∙ block_made buffer number (d ∷ ds) whole (omega arith) (omega arith) held
handed (e ∷ es) buffer number waiting whole few held waits fine small = go (handed es) (dec_le 14 (length waiting))
  where
    this : (well_traced e ≡ true) × Fits e
    this = first_of e es fine

    go : ((b : List ℕ) (m : ℕ) (w : List Traced) → length b ≡ 512 → length w < 15 → held_in b (length w) ≡ entries_bytes w → Entries w → Entries es
        → 15 * m + length w + length es ≤ 15 * 2 ^ 48 → handed_out (at m w) b es ≡ blocks_from m w es)
        → Dec (14 ≤ length waiting) → handed_out (at number waiting) buffer (e ∷ es) ≡ blocks_from number waiting (e ∷ es)
    go rec (yes last) =
        fifteenth e es buffer number waiting whole few (omega arith) held waits this.0 this.1 last
        (λ b sized. rec b (suc number) [] sized (omega arith) (none-held b) no-entries (others-of e es fine) (omega arith))
    go rec (no less) =
        let more = behind-length waiting e in
        fourteen-more e es buffer number waiting whole few (omega arith) held waits this.0 this.1 (omega arith)
        (rec (with_entry buffer (length waiting) e) number (waiting ++ (e ∷ []))
        (longer buffer number waiting whole few (omega arith) e this.0 this.1 held) (omega arith)
        (holds buffer number waiting whole few (omega arith) e this.0 this.1 held)
        (entries-behind waiting e waits this) (others-of e es fine) (omega arith))

pub trace-handed-out : TraceHandedOut
trace-handed-out buffer es whole fine few = handed es buffer 0 [] whole (omega arith) (none-held buffer) no-entries fine (omega arith)
