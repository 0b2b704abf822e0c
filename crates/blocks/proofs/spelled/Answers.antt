use Rattle.std.proofs.Common.{◌≡◌, ℕ, ◌+◌, ◌*◌, ◌^◌, ◌<◌, ◌≤◌, List, [], ◌∷◌, ◌++◌, map, length, reverse, refl, ap, ◌∙◌, add-one, arith}
use Rattle.std.proofs.Math.Nat.{pow-le-pow_right, pow-succ'}
use Rattle.std.proofs.lemmas.Iterator.Adapters.{YieldsList-from_rev_slice}
use Rattle.std.proofs.lemmas.Iterator.Consumers.{YieldsList-turn, YieldsList-end}
use Rattle.std.proofs.lemmas.List.{map-append, reverse-append, reverse-reverse, length-reverse, length_push}
use lib.Dec.{lit<}
use Rattle.image.specs.Bytes.{little_endian}
use Rattle.blocks.proofs.spelled.Goals.{After-from}
use Rattle.blocks.proofs.spelled.Goals as goal

-- one byte more
module _ (n : ℕ) {value low : ℕ} (so_far : value < 256 ^ n) (byte : low < 256) where
  below : low + 256 * value < 256 ^ (n + 1)
  below = rw (add-one n, pow-succ' 256 n) (omega arith)

  fits : n < 6 → low + 256 * value < 0x1_0000_0000_0000
  fits h =
      let top : 256 ^ n ≤ 256 ^ 5 = pow-le-pow_right (lit< tt) {i = n} {j = 5} (omega arith) in
      omega arith

grows : {A : Type 0} (now : A → ℕ) (xs : List A) (x : A) {value low : ℕ} → value ≡ little_endian (reverse (map now xs)) → low ≡ now x
    → low + 256 * value ≡ little_endian (reverse (map now (xs ++ x ∷ [])))
unfolding little_endian
grows now xs x v l = rw (map-append now xs (x ∷ []), reverse-append (map now xs) (now x ∷ []), v, l) refl

-- the turns are as many as the bytes
few : (c : After-from) → length c.loop-byte.yielded < 6
few c =
    let turn =
    YieldsList-turn (YieldsList-from_rev_slice c.args.bytes.now cc)
    c.loop-byte.yielded _ c.loop-byte.yielded_by _ _ c.in-Some.byte c.in-Some.is c.next.ensures.steps in
    omega (arith, turn.0, length-reverse c.args.bytes.now)

pub loop-byte-init : goal.loop-byte-init
unfolding little_endian
loop-byte-init c = (refl, omega arith)

pub overflow_mul-value : goal.overflow_mul-value
overflow_mul-value c =
    omega (
      arith,
      fits (length c.loop-byte.yielded) {low = c.from.result} c.loop-byte.invariant.1 (omega arith)
          (few (goal.at.overflow_mul-value c).After-from),
    )

pub overflow_add-value : goal.overflow_add-value
overflow_add-value c =
    omega (
      arith,
      fits (length c.loop-byte.yielded) {low = c.from.result} c.loop-byte.invariant.1 (omega arith)
          (few (goal.at.overflow_add-value c).After-from),
    )

pub loop-byte-preserved : goal.loop-byte-preserved
loop-byte-preserved c =
    let l = c.loop-byte in (
      grows (λ b. b.now) l.yielded c.in-Some.byte l.invariant.0 c.from.ensures,
      rw (length_push l.yielded c.in-Some.byte) (below (length l.yielded) l.invariant.1 (omega arith)),
    )

pub returns : goal.returns
returns c =
    let end =
    YieldsList-end (YieldsList-from_rev_slice c.args.bytes.now cc)
    c.loop-byte.yielded _ c.loop-byte.yielded_by _ _ c.in-None.is c.next.ensures.steps in
    c.loop-byte.invariant.0 ∙ ap (λ l. little_endian (reverse l)) end.0 ∙ ap little_endian (reverse-reverse c.args.bytes.now)
