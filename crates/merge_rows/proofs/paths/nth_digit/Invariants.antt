-- `merge_rows::paths::nth_digit` meets its contract. The invariant: the lowest digit 1 that is left is number i of the word.
use Prim.Native.Nat.{ℕ, ◌-◌, ◌^◌, ◌<◌}
use mathlib.Core.Path.{◌≡◌}
use lib.ListN.{drop}
use Rattle.bit_sets.specs.BitSets.{digits_from}
use Rattle.merge_rows.proofs.paths.nth_digit.Given as goal

pub record DigitsLeft (word rest i : ℕ) : Type 0 where
  pub some : 0 < i
  pub small : rest < 2 ^ 64
  pub digits : digits_from 64 0 rest ≡ drop (i - 1) (digits_from 64 0 word)

abbrev pub invariant-loop : goal.invariant-loop
invariant-loop l = DigitsLeft l.word l.rest l.counter
