-- Ask 13's claims at concrete images, by computing them.
use Prim.Native.Nat.{ℕ, zero, suc, ◌<◌}
use mathlib.Core.Bool.{Bool, true, ◌&&◌}
use mathlib.Core.List.{List, [], ◌∷◌}
use mathlib.Core.Logic.{inr}
use mathlib.Core.Path.{◌≡◌, refl}
use native.Mathlib.Omega.{arith}
use borrow.Author.Tests.{ltb-true}
use lib.Dec.{lit≤, ltb}
use lib.ListN.{get_or}
use Rattle.image.specs.Bits.{bits}
use Rattle.image.specs.Bytes.{little_endian, bytes_of}
use Rattle.image.specs.Memory.{entry}
use Rattle.image.specs.Rules.{run, map_rules}
use Rattle.image.specs.Windows.{windows_of, spot_in, entry_in, of_windows, byte_at, bad_with_any, bad_list, bad_windows, flat}
use Rattle.image.proofs.Choices.{both}
use Rattle.registers.specs.Admission.{admission}
use Rattle.registers.specs.Registers.{registers_bad}
use Rattle.irte.specs.Irte.{reserved_irte, irte_check}
use Rattle.irte.specs.Source.{source_allowed}
use Rattle.interrupts.specs.Descriptor.{notification, descriptor_check}
use Rattle.interrupts.specs.Interrupts.{posted, interrupt_answer, descriptor_rules, index_rules, request_rules, interrupt_rules}
use Rattle.interrupts.specs.Post.{set_bit}
use Rattle.interrupts.specs.Request.{request_check}
use Rattle.takes.specs.Claims.{Apart}
use Rattle.takes.specs.Runs.{after, left, count_in, count_from}
use Rattle.takes.specs.Take.{highest, take_rules, clear_bit}
use Rattle.cases.specs.Takes.{registers, with_requests, all_requests, no_requests, window, posts31, posts_f0, TakesMet}

-- bytes, by looking at each
small : List ℕ → Bool
small [] = true
small (x ∷ xs) = ltb x 256 && small xs

below : (l : List ℕ) → small l ≡ true → (n : ℕ) → get_or l n 0 < 256
unfolding small
below [] h n = omega arith
below (x ∷ xs) h zero = ltb-true x 256 (both (ltb x 256) (small xs) h).0
below (x ∷ xs) h (suc n) = below xs (both (ltb x 256) (small xs) h).1 n

full-bytes : (n : ℕ) → get_or all_requests n 0 < 256
unfolding small with_requests bytes_of
full-bytes = below all_requests refl

-- both post to the descriptor at 64, behind the entries
posts-to-64 : (interrupt_answer registers posts31 window no_requests ≡ posted 64 0x31 (notification 0 0)) × (interrupt_answer registers posts_f0 window no_requests ≡ posted 64 0xF0 (notification 0 0))
unfolding with_requests bytes_of little_endian bits windows_of spot_in entry_in of_windows byte_at bad_with_any bad_list bad_windows flat entry run map_rules admission registers_bad descriptor_rules index_rules request_rules interrupt_rules reserved_irte irte_check request_check source_allowed descriptor_check
posts-to-64 = (refl, refl)

apart : Apart registers posts31 posts_f0 window no_requests
unfolding bits
apart d v n h = let here : d ≡ 64 = cc posts-to-64.0 in inr (rw here (lit≤ tt))

apart-back : Apart registers posts_f0 posts31 window no_requests
unfolding bits
apart-back d v n h = let here : d ≡ 64 = cc posts-to-64.1 in inr (rw here (lit≤ tt))

pub takes-met : TakesMet
unfolding with_requests bytes_of little_endian bits windows_of spot_in entry_in of_windows byte_at bad_with_any bad_list bad_windows flat entry run map_rules admission registers_bad descriptor_rules index_rules request_rules interrupt_rules reserved_irte irte_check request_check source_allowed descriptor_check set_bit clear_bit highest take_rules after left count_in count_from
takes-met =
    record {
      hands-255 = refl;
      hands_none = refl;
      odd = refl;
      outside = refl;
      full-bytes = full-bytes;
      lowest-stands = refl;
      nothing-posted = refl;
      takes-made = refl;
      not-by-255 = refl;
      by-256 = refl;
      one-stands = refl;
      one-posted = refl;
      not-by-first = refl;
      by-second = refl;
      found-clear = refl;
      handed-once = refl;
      still-stands = refl;
      apart = apart;
      apart-back = apart-back;
      one-notification = refl;
      its-post = refl;
      its-entry = refl;
      its-svt = refl;
      its-sq = refl;
    }
