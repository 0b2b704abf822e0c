-- Rows of a table, each computed over the words of its image that it tries.
use Prim.Native.Nat.{ℕ, ◌≤◌, ◌^◌}
use mathlib.Core.Bool.{Bool, true, false}
use mathlib.Core.List.{List, [], ◌∷◌}
use mathlib.Core.Path.{◌≡◌, refl, fun_ext}
use native.Mathlib.Omega.{arith}
use lib.ListN.{length}
use Rattle.std.specs.Prelude.{if◌then◌else◌}
use Rattle.image.specs.Memory.{Memory, of_image}
use Rattle.image.specs.Place.{no_entry}
use Rattle.image.specs.Rules.{run, SameIn}
use Rattle.image.specs.Windows.{of_windows, flat}
use Rattle.image.proofs.FlatWindow.{flat-is, flat-fine}
use Rattle.dma.specs.Requests.{memory_rules, memory_place}
use Rattle.dma.specs.declared.MemoryRequest.{MemoryRequest}
use Rattle.interrupts.specs.Interrupts.{interrupt_place, interrupt_rules}
use Rattle.cases.specs.Bench.{
  bench_registers,
  Ask,
  read,
  write,
  interrupt,
  Result,
  memory,
  memory_request,
  interrupt_request,
  memory_result,
  interrupted_by,
  result_of,
  Row,
  answers,
}
use Rattle.cases.proofs.Known.{tried, settled, shown, sized, same-sized, among, within}

-- an image, and a memory that shows the same in some words
pub record Seen : Type 0 where
  pub image : List ℕ
  pub fits : length image ≤ 2 ^ 64
  pub known : List ℕ
  pub shows : Memory
  pub same : SameIn known shows (of_image image)

pub sized-fits : (image : List ℕ) (n : ℕ) → length image ≡ n → n ≤ 2 ^ 64 → length image ≤ 2 ^ 64
sized-fits image n l h = rw l h

-- an image of so many bytes
abbrev pub seen_as : (image : List ℕ) (n : ℕ) → length image ≡ n → n ≤ 2 ^ 64 → (known : List ℕ) (shows : Memory)
    → shown shows known ≡ shown (sized n image) known → Seen
seen_as image n l h known shows e =
    record { image = image; fits = sized-fits image n l h; known = known; shows = shows; same = same-sized image n l known shows e }

-- what is answered over the memory, and whether the words tried are among those
abbrev pub memory_over : Memory → MemoryRequest → Result
memory_over m request = memory (run (memory_rules bench_registers request) m) (memory_place bench_registers request m)

unfoldable pub over : (s : Seen) (source : ℕ) → Ask → Result
over s source (read address) = memory_over s.shows (memory_request source address false)
over s source (write address) = memory_over s.shows (memory_request source address true)
over s source (interrupt address message) =
    interrupted_by (run (interrupt_rules bench_registers (interrupt_request source address message)) s.shows)
    (interrupt_place bench_registers (interrupt_request source address message) s.shows) s.image

unfoldable pub enough : (s : Seen) (source : ℕ) → Ask → Bool
enough s source (read address) = among (tried (memory_rules bench_registers (memory_request source address false)) s.shows) s.known
enough s source (write address) = among (tried (memory_rules bench_registers (memory_request source address true)) s.shows) s.known
enough s source (interrupt address message) =
    among (tried (interrupt_rules bench_registers (interrupt_request source address message)) s.shows) s.known

memory-over : (s : Seen) (request : MemoryRequest) → among (tried (memory_rules bench_registers request) s.shows) s.known ≡ true
    → memory_result request s.image ≡ memory_over s.shows request
memory-over s request h =
    let seen : of_windows (flat (length s.image)) s.image ≡ of_image s.image = fun_ext (flat-is s.image) in
    let told = settled (memory_rules bench_registers request) no_entry s.shows (of_image s.image) (within s.shows (of_image s.image) _ s.known h s.same) in
    rw (flat-fine (length s.image) s.fits, seen, told.0, told.1)

row-over : (s : Seen) (source : ℕ) (ask : Ask) → enough s source ask ≡ true → result_of source ask s.image ≡ over s source ask
unfolding result_of over enough
row-over s source (read address) h = memory-over s (memory_request source address false) h
row-over s source (write address) h = memory-over s (memory_request source address true) h
row-over s source (interrupt address message) h =
    let request = interrupt_request source address message in
    let seen : of_windows (flat (length s.image)) s.image ≡ of_image s.image = fun_ext (flat-is s.image) in
    let told = settled (interrupt_rules bench_registers request) no_entry s.shows (of_image s.image) (within s.shows (of_image s.image) _ s.known h s.same) in
    rw (flat-fine (length s.image) s.fits, seen, told.0, told.1)

-- row by row
unfoldable pub Fit : List Seen → List Row → Type 0
Fit [] [] = Unit {0}
Fit [] (r ∷ rs) = ⊥
Fit (s ∷ ss) [] = ⊥
Fit (s ∷ ss) (r ∷ rs) = (s.image ≡ r.image) × Fit ss rs

unfoldable pub all_over : List Seen → List Row → List Result
all_over [] rs = []
all_over (s ∷ ss) [] = []
all_over (s ∷ ss) (r ∷ rs) = over s r.source r.ask ∷ all_over ss rs

unfoldable pub all_enough : List Seen → List Row → Bool
all_enough [] rs = true
all_enough (s ∷ ss) [] = true
all_enough (s ∷ ss) (r ∷ rs) = if enough s r.source r.ask then all_enough ss rs else false

pub all-over : (ss : List Seen) (rs : List Row) → Fit ss rs → all_enough ss rs ≡ true → answers rs ≡ all_over ss rs
unfolding Fit all_over all_enough answers
all-over [] [] fit h = refl
all-over [] (r ∷ rs) fit h = absurd fit
all-over (s ∷ ss) [] fit h = absurd fit
all-over (s ∷ ss) (r ∷ rs) fit h = by (enough s r.source r.ask) refl h (all-over ss rs fit.1)
  where
    by : (b : Bool) → enough s r.source r.ask ≡ b → (if b then all_enough ss rs else false) ≡ true
        → (all_enough ss rs ≡ true → answers rs ≡ all_over ss rs)
        → result_of r.source r.ask r.image ∷ answers rs ≡ over s r.source r.ask ∷ all_over ss rs
    by true e h ih = rw (← fit.0, row-over s r.source r.ask e, ih h)
    by false e h ih = let z : ◌≡◌ {A = ℕ} 0 1 = cc in absurd (omega arith)
