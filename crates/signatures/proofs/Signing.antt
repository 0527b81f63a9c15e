-- Signatures item by item, and a number in two words.
use Prim.Native.Nat.{ℕ, ◌+◌, ◌*◌, ◌/◌, ◌%◌, ◌^◌, ◌<◌, ◌≤◌}
use mathlib.Core.Path.{◌≡◌, ◌∙◌}
use mathlib.Core.List.{List}
use native.Mathlib.Nat.{one-mul}
use native.Mathlib.Omega.{arith}
use lib.Bits.{bit_or}
use lib.Dec.{lit<}
use lib.ListN.{length, get_or, set, length-set}
use lib.Pow.{shl_exact}
use lib.Seq.{get_or-set_same, get_or-set_other, take-set-le, drop-set-lt}
use Rattle.sets.specs.Limits.{full_words}
use Rattle.sets.specs.Collections.{between}
use Rattle.sets.specs.Signatures.{position, signature_from}
use Rattle.sets.proofs.Between.{between_cons, between_nil}
use Rattle.sets.proofs.Positions.{position_bound}
use Rattle.signatures.specs.Signing.{DoubleStored}

-- one item more
pub sign_step : (mark i end : ℕ) (items : List ℕ) → i < end → end ≤ length items
    → signature_from (bit_or mark (1 * 2 ^ position (get_or items i 0) % 2 ^ 64)) (between (i + 1) end items)
    ≡ signature_from mark (between i end items)
unfolding signature_from
sign_step mark i end items below within =
    let bit = position (get_or items i 0) in
    let exact : 1 * 2 ^ bit % 2 ^ 64 ≡ 2 ^ bit =
    shl_exact 1 bit 64 (lit< tt) (omega (arith, position_bound (get_or items i 0))) ∙ one-mul (2 ^ bit)
    in
    rw (exact, between_cons i end items below within)

pub sign_end : (end i mark : ℕ) (items : List ℕ) → end ≤ i → signature_from mark (between i end items) ≡ mark
unfolding signature_from
sign_end end i mark items past = rw (between_nil i end items past)

-- a number in two words
pub stored_words : (w : List ℕ) (at number : ℕ) → at + 2 ≤ length w
    → DoubleStored at number w (set (set w at (number % full_words)) (at + 1) (number / full_words))
stored_words w at number room =
    let low = number % full_words in
    let high = number / full_words in
    let first : get_or (set (set w at low) (at + 1) high) at 0 ≡ low =
    get_or-set_other (set w at low) (at + 1) at high 0 (λ e. omega arith) ∙ get_or-set_same w at low 0 (omega arith)
    in
    let second : get_or (set (set w at low) (at + 1) high) (at + 1) 0 ≡ high =
    get_or-set_same (set w at low) (at + 1) high 0 (omega (arith, length-set w at low))
    in
    record {
      frame = take-set-le at (set w at low) (at + 1) high (omega arith) ∙ take-set-le at w at low (omega arith);
      above =
          drop-set-lt (at + 2) (set w at low) (at + 1) high (omega arith) ∙ drop-set-lt (at + 2) w at low (omega arith);
      size = length-set (set w at low) (at + 1) high ∙ length-set w at low;
      is = omega (arith, first, second);
    }
