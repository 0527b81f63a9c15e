-- The lines of pairs, written one after the other: what is written so far, what is left, and the room for it.
use Prim.Native.Nat.{ℕ, ◌+◌, ◌*◌, ◌-◌, ◌≤◌, ◌<◌}
use mathlib.Core.Path.{◌≡◌, refl, sym, ap, subst, ◌∙◌}
use mathlib.Core.List.{List, [], ◌++◌, append_assoc, append-nil}
use mathlib.Core.Bool.{true}
use native.Mathlib.Omega.{arith}
use borrow.Author.Tests.{ltb-true, ltb-false}
use lib.Dec.{ltb}
use lib.ListN.{length, get_or, drop}
use Rattle.lists.proofs.Bools.{by_test}
use Rattle.lists.specs.Writing.{Put}
use Rattle.lists.proofs.Writing.{put_append}
use Rattle.text.specs.Lines.{pair_line, pair_lines}
use Rattle.text.specs.pair_lines.Room.{pairs_within, pair_room, PairsRoom}
use Rattle.text.proofs.pair_lines.PairPlaces.{PairAt, pair_at, lines_end}

-- so many places of the pairs were gone through, and their lines are written: done, from place at up to place n
pub record LinesLeft (was : List ℕ) (at : ℕ) (pairs lefts rights text : List ℕ) (n i : ℕ) : Type 0 where
  pub done : List ℕ
  pub put : Put was at done n text
  pub whole : done ++ pair_lines lefts rights (drop i pairs) ≡ pair_lines lefts rights pairs
  pub within : pairs_within (length lefts) (length rights) (drop i pairs) ≡ true
  pub room : n + 6 * (length pairs - i) ≤ at + 6 * length pairs
  pub fits : at + 6 * length pairs ≤ length was
  pub same : length text ≡ length was

pub lines_start : (was : List ℕ) (at : ℕ) (pairs lefts rights : List ℕ) → PairsRoom was at pairs lefts rights
    → LinesLeft was at pairs lefts rights was at 0
lines_start was at pairs lefts rights r =
    record {
      done = [];
      put = record { written = refl; past = omega arith };
      whole = refl;
      within = r.within;
      room = omega arith;
      fits = r.room;
      same = refl;
    }

module _ {was : List ℕ} {at : ℕ} {pairs lefts rights text : List ℕ} {n i : ℕ} (l : LinesLeft was at pairs lefts rights text n i) where
  module _ (more : i < length pairs) where
    pub pair_next : PairAt lefts rights pairs i
    pair_next = pair_at lefts rights pairs i l.within more

    pub line_room : n + pair_room ≤ length text
    line_room = omega (arith, l.room, l.fits, l.same, pair_next.whole)

    pub lines_step : {r : ℕ} {next : List ℕ}
        → Put text n (pair_line (get_or lefts (get_or pairs i 0) 0) (get_or rights (get_or pairs (i + 1) 0) 0)) r next
        → r ≤ n + pair_room → length next ≡ length text → LinesLeft was at pairs lefts rights next r (i + 2)
    lines_step {r} {next} line short kept =
        let this = pair_line (get_or lefts (get_or pairs i 0) 0) (get_or rights (get_or pairs (i + 1) 0) 0) in
        record {
          done = l.done ++ this;
          put = put_append l.put line;
          whole = append_assoc l.done this (pair_lines lefts rights (drop (i + 2) pairs))
              ∙ ap (λ (rest : List ℕ). l.done ++ rest) (sym pair_next.lines) ∙ l.whole;
          within = pair_next.rest;
          room = omega (arith, l.room, pair_next.whole);
          fits = l.fits;
          same = kept ∙ l.same;
        }

  -- so few places are left that no pair is
  pub lines_all : length pairs < i + 2 → Put was at (pair_lines lefts rights pairs) n text
  lines_all past =
      let end : length pairs ≤ i = by_test (ltb i (length pairs))
      (λ t. let w = (pair_next (ltb-true i (length pairs) t)).whole in absurd (omega arith))
      (λ f. ltb-false i (length pairs) f) in
      subst (λ (all : List ℕ). Put was at all n text)
      (sym (append-nil l.done) ∙ ap (λ (rest : List ℕ). l.done ++ rest) (sym (lines_end lefts rights pairs i end)) ∙ l.whole)
      l.put
