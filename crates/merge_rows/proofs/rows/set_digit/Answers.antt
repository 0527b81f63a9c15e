-- `merge_rows::rows::set_digit` meets its contract: the digit is in the low or in the high one of the two words.
use native.Mathlib.Omega.{arith}
use Rattle.merge_rows.proofs.WordDigits.{digit_set}
use Rattle.merge_rows.proofs.rows.set_digit.Goals as goal

pub returns : goal.returns
returns c =
    let a = c.args in
    digit_set a.work.now a.c a.j c.requires (λ i. omega (arith, c.items_fit i))
