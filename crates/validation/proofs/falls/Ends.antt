-- Parts of a list by their ends, each of which follows the one before by no more than the longest part may hold: what holds of
-- the first, and the test along the ends, place by place.
use mathlib.Core.Path.{◌≡◌, refl}
use mathlib.Core.List.{List, [], ◌∷◌}
use mathlib.Core.Bool.{true, false, ◌&&◌}
use Prim.Native.Nat.{ℕ, ◌+◌, ◌-◌, ◌<◌, ◌≤◌}
use borrow.Author.Tests.{leb-true, le-leb, lt-leb}
use lib.Dec.{leb}
use lib.ListN.{length, get_or, drop, drop_of_length-le}
use Rattle.std.proofs.lemmas.List.{drop_more}
use Rattle.lists.proofs.Bools.{and_left, and_right, and_both}
use Rattle.validation.specs.falls.Falls.{good_ends}

-- what holds of an end, given the one before it
pub record FirstEnd (longest start end : ℕ) : Type 0 where
  pub ordered : start ≤ end
  pub short : end - start ≤ longest

-- ends in order are a first end and the rest in order
module _ (longest start end : ℕ) (ends : List ℕ) where
  pub ends_first : good_ends longest start (end ∷ ends) ≡ true → FirstEnd longest start end
  unfolding good_ends
  ends_first e =
      let here = and_left (leb start end && leb (end - start) longest) (good_ends longest end ends) e in
      record {
        ordered = leb-true start end (and_left (leb start end) (leb (end - start) longest) here);
        short = leb-true (end - start) longest (and_right (leb start end) (leb (end - start) longest) here);
      }

  pub ends_rest : good_ends longest start (end ∷ ends) ≡ true → good_ends longest end ends ≡ true
  unfolding good_ends
  ends_rest e = and_right (leb start end && leb (end - start) longest) (good_ends longest end ends) e

  pub ends_both : start ≤ end → end - start ≤ longest → good_ends longest end ends ≡ true
      → good_ends longest start (end ∷ ends) ≡ true
  unfolding good_ends
  ends_both ordered short rest = and_both (and_both (le-leb start end ordered) (le-leb (end - start) longest short)) rest

pub ends_none : (longest start : ℕ) → good_ends longest start [] ≡ true
unfolding good_ends
ends_none longest start = refl

-- the ends from place k on: a low end, a long part, the next place, the end
module _ (longest : ℕ) (ends : List ℕ) (k start : ℕ) where
  pub ends_low : k < length ends → get_or ends k 0 < start → good_ends longest start (drop k ends) ≡ false
  unfolding good_ends
  ends_low below low = rw (drop_more ends k 0 below, lt-leb start (get_or ends k 0) low)

  pub ends_long : k < length ends → start ≤ get_or ends k 0 → longest < get_or ends k 0 - start
      → good_ends longest start (drop k ends) ≡ false
  unfolding good_ends
  ends_long below low long =
      rw (drop_more ends k 0 below, le-leb start (get_or ends k 0) low, lt-leb (get_or ends k 0 - start) longest long)

  pub ends_next : k < length ends → start ≤ get_or ends k 0 → get_or ends k 0 - start ≤ longest
      → good_ends longest start (drop k ends) ≡ good_ends longest (get_or ends k 0) (drop (k + 1) ends)
  unfolding good_ends
  ends_next below low short =
      rw (
        drop_more ends k 0 below,
        le-leb start (get_or ends k 0) low,
        le-leb (get_or ends k 0 - start) longest short,
      )

  pub ends_end : length ends ≤ k → good_ends longest start (drop k ends) ≡ true
  unfolding good_ends
  ends_end past = rw (drop_of_length-le ends {i = k} past)
