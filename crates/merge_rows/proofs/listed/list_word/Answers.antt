-- `merge_rows::listed::list_word` meets its contract: the pairs are put where they fit, and else only the place moves.
use Prim.Native.Nat.{ℕ, ◌+◌, ◌*◌, ◌<◌}
use mathlib.Core.Path.{◌≡◌}
use mathlib.Core.List.{List}
use native.Mathlib.Omega.{arith}
use lib.ListN.{length}
use Rattle.lists.specs.Lists.{count, upto}
use Rattle.bit_sets.specs.BitSets.{bit_at, digits_from}
use Rattle.merge_rows.specs.ShortLists.{pairs_with, Listed}
use Rattle.merge_rows.proofs.ShortWriting.{listed_put, listed_past, length_pairs, length_digits}
use Rattle.merge_rows.proofs.listed.list_word.Goals as goal

word_past : (pairs : List ℕ) (word k base at ones : ℕ) → ones ≡ count (bit_at word) (upto 64) → length pairs < at + 2 * ones
    → Listed pairs at (pairs_with k (digits_from 64 base word)) (at + 2 * ones) pairs
word_past pairs word k base at ones is past =
    let long = length_pairs k (digits_from 64 base word) in
    let digits = length_digits base word in
    listed_past pairs at (pairs_with k (digits_from 64 base word)) (at + 2 * ones) (omega arith) past

pub overflow_mul-end : goal.overflow_mul-end
overflow_mul-end c = let a = c.args in omega (arith, c.ones_of.ensures, length_digits a.base a.word, c.requires.small)

pub overflow_add-end : goal.overflow_add-end
overflow_add-end c = let a = c.args in omega (arith, c.ones_of.ensures, length_digits a.base a.word, c.requires.small)

pub returns-then-pairs-end : goal.returns-then-pairs-end
returns-then-pairs-end c =
    let a = c.args in
    word_past a.pairs.now a.word a.k a.base a.at c.ones_of.result c.ones_of.ensures c.if-pairs-end.true

pub put_pairs-requires : goal.put_pairs-requires
put_pairs-requires c =
    let a = c.args in
    record {
      places = c.requires.places;
      room =
          omega (
            arith,
            c.ones_of.ensures,
            length_digits a.base a.word,
            length_pairs a.k (digits_from 64 a.base a.word),
            c.if-pairs-end.false,
          );
    }

pub returns : goal.returns
returns c = listed_put c.put_pairs.ensures
