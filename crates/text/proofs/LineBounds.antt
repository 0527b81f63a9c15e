-- The bytes of a word before a number, at most, by the width of the number.
use Prim.Native.Nat.{ℕ, ◌+◌, ◌<◌, ◌≤◌}
use mathlib.Core.List.{List}
use native.Mathlib.Omega.{arith}
use lib.ListN.{length, length-append}
use Rattle.text.specs.Lines.{decimal, labelled}
use Rattle.text.proofs.Decimals.{length-decimal}

pub short_number : (n : ℕ) → n < 65536 → length (decimal n) ≤ 5
short_number n low = length-decimal 4 n (omega arith)

module _ (word : List ℕ) (n : ℕ) where
  pub short_labelled : n < 65536 → length (labelled word n) ≤ length word + 5
  short_labelled low = omega (arith, length-append word (decimal n), length-decimal 4 n (omega arith))

  pub count-labelled : n < 4294967296 → length (labelled word n) ≤ length word + 10
  count-labelled low = omega (arith, length-append word (decimal n), length-decimal 9 n (omega arith))

  pub long_labelled : n < 18446744073709551616 → length (labelled word n) ≤ length word + 20
  long_labelled low = omega (arith, length-append word (decimal n), length-decimal 19 n (omega arith))
