-- Demand 3 holds.
use Prim.Native.Nat.{ℕ, ◌≤◌}
use mathlib.Core.List.{List, [], ◌∷◌}
use mathlib.Core.Path.{◌≡◌, ap, sym, ◌∙◌, fun_ext}
use lib.ListN.{length}
use Rattle.image.specs.Memory.{of_image}
use Rattle.image.specs.Rules.{run, named, SameIn}
use Rattle.image.specs.Windows.{of_windows, entry_in, flat}
use Rattle.image.proofs.FlatWindow.{flat-is, flat-fine}
use Rattle.image.proofs.Longer.{extended}
use Rattle.dma.specs.Isolation.{answer_over, walked_by_any}
use Rattle.dma.specs.Requests.{memory_rules}
use Rattle.dma.proofs.Access.{locality}
use Rattle.dma.proofs.Aligned.{aligned-any}
use Rattle.dma.proofs.Forks.{Fork, Ends, memory-forks}
use Rattle.dma.proofs.Rights.{rights-on, rights-off}
use Rattle.translation.specs.Requests.{request_rules}
use Rattle.translation.proofs.Local.{translation-locality}
use Rattle.interrupts.specs.Claims as claims
use Rattle.interrupts.specs.Claims.{named_words}
use Rattle.interrupts.proofs.Isolation.{isolated, same_bits}
use Rattle.takes.specs.Take.{take_rules}
use Rattle.unit.specs.Isolation.{MemoryAlike, TranslationsAlike, InterruptsAlike, RightsKeep, RightsDeny, MoreKeeps, Isolation, MoreMemory, FlatImages}
use Rattle.unit.specs.Lent.{Lent, memory_of, SameWordAt, SameWordsAt}
use Rattle.unit.proofs.HostBytes.{words-switched, words-kept}

same_word : (l l' : Lent) (at : ℕ) → SameWordAt l l' at → memory_of l at ≡ memory_of l' at
unfolding of_windows entry_in
same_word l l' at h = rw (h.whole, h.whole', h.same)

pub same-words : (l l' : Lent) (words : List ℕ) → SameWordsAt l l' words → SameIn words (memory_of l) (memory_of l')
unfolding SameWordsAt SameIn
same-words l l' [] h = tt
same-words l l' (at ∷ rest) h = (same_word l l' at h.0, same-words l l' rest h.1)

memory : MemoryAlike
memory registers request l l' answered same =
    rw (l.good, l'.good)
    (locality registers request (memory_of l) (memory_of l') (rw l.good at answered) (same-words l l' (named (memory_rules registers request) (memory_of l)) same))

translations : TranslationsAlike
translations registers request l l' answered same =
    rw (l.good, l'.good)
    (translation-locality registers request (memory_of l) (memory_of l') (rw l.good at answered) (same-words l l' (named (request_rules registers request) (memory_of l)) same))

interrupts : InterruptsAlike
interrupts registers request l l' answered same =
    let words = same-words l l' (named_words registers request (memory_of l)) same in
    let met = rw l.good at answered in
    let is = isolated registers request (memory_of l) (memory_of l') met words in
    (rw (l.good, l'.good) (sym is.0), rw (l.good, l'.good) (sym is.1), same_bits registers request l.windows l.bytes l'.windows l'.bytes l.good l'.good met words)

keep : RightsKeep
keep registers walkers request l l' apart on address was =
    rw l'.good
    (rights-on registers walkers request (memory_of l) (memory_of l') apart
    (words-switched (λ before after. before ≤ after) (walked_by_any registers walkers (memory_of l)) l l' (aligned-any registers walkers (memory_of l)) on) address
    (rw l.good at was))

deny : RightsDeny
deny registers walkers request l l' apart off denied address was =
    rights-off registers walkers request (memory_of l) (memory_of l') apart
    (words-switched (λ before after. after ≤ before) (walked_by_any registers walkers (memory_of l)) l l' (aligned-any registers walkers (memory_of l)) off)
    (rw l.good at denied) address (rw l'.good at was)

pub more-memory : MoreMemory
more-memory registers request m m' address more was =
    let named = extended m m' more Fork Ends (λ kind at o fork. fork.1) 9 (memory_rules registers request) (memory-forks registers request) in
    (locality registers request m m' (rw was) named).0 ∙ was

more : MoreKeeps
more registers request l l' address all was =
    rw l'.good (more-memory registers request (memory_of l) (memory_of l') address (words-kept l l' all) (rw l.good at was))

pub isolation : Isolation
isolation =
    record { memory = memory; translations = translations; interrupts = interrupts; rights-on = keep; rights-off = deny; more-memory = more }

pub flat-images : FlatImages
flat-images image h =
    let good = flat-fine (length image) h in
    let same : of_windows (flat (length image)) image ≡ of_image image = fun_ext (flat-is image) in
    record {
      good = good;
      memory = λ registers request. rw good (ap (answer_over registers request) same);
      translations = λ registers request. rw good (ap (run (request_rules registers request)) same);
      interrupts = λ registers request. rw good (ap (claims.answer_over registers request) same);
      takes = λ registers descriptor. rw good (ap (run (take_rules registers descriptor)) same);
    }
