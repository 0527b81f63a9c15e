-- A left set as an equal one before it: the words of its counters by their places, and the yield that its copied pairs and counted checks
-- make.
use Prim.Native.Nat.{ℕ, ◌+◌, ◌-◌, ◌*◌, ◌/◌, ◌<◌, ◌≤◌}
use mathlib.Core.Path.{◌≡◌, refl, ap, ◌∙◌}
use mathlib.Core.List.{List}
use native.Mathlib.Omega.{arith}
use lib.ListN.{length, get_or}
use lib.Seq.{sets}
use Rattle.lists.proofs.Ranges.{length_table}
use Rattle.sets.specs.Limits.{full_words}
use Rattle.merge_rows.specs.declared.Met.{Met}
use Rattle.merge_rows.specs.ShortLists.{pairs_with, right_places, Listed, CopyFrom}
use Rattle.merge_rows.specs.Yields.{Yield, Yielded}
use Rattle.merge_rows.specs.Meeting.{CountersHeld, CountersThere}
use Rattle.merge_rows.proofs.ShortWriting.{length_pairs, right_places_lem}

-- the words of the next left set, counted from those of this one
module _ {counters j at : ℕ} {w pairs : List ℕ} {y : Yield} (held : CountersHeld counters j w at pairs y) where
  next_counters : counters + 3 * j + 3 ≡ counters + 3 * (j + 1)
  next_counters = omega arith

  pub counters_after : get_or w (counters + 3 * j + 3) 0 ≡ get_or w (counters + 3 * j) 0 + 2 * length y.places
  counters_after = ap (λ (i : ℕ). get_or w i 0) next_counters ∙ held.after

  pub counters_before : get_or w (counters + 3 * j + 3) 0 ≤ at
  counters_before = omega (arith, ap (λ (i : ℕ). get_or w i 0) next_counters, held.before)

  pub counters_dropped : get_or w (counters + 3 * j + 4) 0 ≡ get_or w (counters + 3 * j + 1) 0 + y.dropped
  counters_dropped =
      let there : counters + 3 * j + 4 ≡ counters + 3 * (j + 1) + 1 = omega arith in
      ap (λ (i : ℕ). get_or w i 0) there ∙ held.dropped

  pub counters_falses : get_or w (counters + 3 * j + 5) 0 ≡ get_or w (counters + 3 * j + 2) 0 + y.falses
  counters_falses =
      let there : counters + 3 * j + 5 ≡ counters + 3 * (j + 1) + 2 = omega arith in
      ap (λ (i : ℕ). get_or w i 0) there ∙ held.falses

  -- its pairs, copied
  pub counters_copied : (k n : ℕ) {end : ℕ} {is : List ℕ} → n ≡ length y.places
      → Listed pairs at (pairs_with k (right_places pairs (get_or w (counters + 3 * j) 0) n)) end is
      → Listed pairs at (pairs_with k y.places) end is
  counters_copied k n {end} {is} long copied =
      let from = get_or w (counters + 3 * j) 0 in
      let size = length_pairs k (right_places pairs from n) in
      let table = length_table (λ i. get_or pairs (from + 2 * i + 1) 0) n in
      let wanted = length_pairs k y.places in
      let past : end ≡ at + length (pairs_with k y.places) = omega (arith, copied.past) in
      record {
        past = past;
        size = copied.size;
        written = λ fits.
            copied.written fits
            ∙ ap (λ (l : List ℕ). sets pairs at (pairs_with k l))
            (right_places_lem pairs from (get_or w (counters + 3 * (j + 1)) 0) n j y.places (omega (arith, held.before))
            (held.listed (omega arith)) (omega (arith, held.after)));
      }

-- and what it came to, again
module _ {counters j k : ℕ} {m : Met} {w pairs : List ℕ} (there : CountersThere counters j k m w pairs) where
  pub counters_source : CopyFrom (get_or w (counters + 3 * j) 0) ((get_or w (counters + 3 * j + 3) 0 - get_or w (counters + 3 * j) 0) / 2) k m.at
  counters_source =
      let after = counters_after there.held in
      record {
        left = there.left;
        below = omega (arith, counters_before there.held);
        small = omega (arith, there.room.at);
      }

  pub counters_drops : m.dropped + (get_or w (counters + 3 * j + 4) 0 - get_or w (counters + 3 * j + 1) 0) < full_words
  counters_drops = omega (arith, counters_dropped there.held, there.room.dropped)

  pub counters_fails : m.falses + (get_or w (counters + 3 * j + 5) 0 - get_or w (counters + 3 * j + 2) 0) < full_words
  counters_fails = omega (arith, counters_falses there.held, there.room.falses)

pub counters_again : {counters j k : ℕ} {m : Met} {w pairs : List ℕ} {end : ℕ} {is : List ℕ}
    → Listed pairs m.at
    (pairs_with k (right_places pairs (get_or w (counters + 3 * j) 0) ((get_or w (counters + 3 * j + 3) 0 - get_or w (counters + 3 * j) 0) / 2))) end is
    → (y : Yield) → CountersHeld counters j w m.at pairs y
    → Yielded k y m
    (record {
      at = end;
      confirmed = m.confirmed;
      dropped = m.dropped + (get_or w (counters + 3 * j + 4) 0 - get_or w (counters + 3 * j + 1) 0);
      falses = m.falses + (get_or w (counters + 3 * j + 5) 0 - get_or w (counters + 3 * j + 2) 0);
    })
    pairs is
counters_again {counters} {j} {k} {m} {w} {pairs} copied y held =
    record {
      listed = counters_copied held k _ (omega (arith, counters_after held)) copied;
      confirmed = refl;
      dropped = omega (arith, counters_dropped held);
      falses = omega (arith, counters_falses held);
    }
