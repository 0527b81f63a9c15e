-- A row that is kept while its left set is checked: the invariant of `record_row`, with its start, step and end. The index and the
-- places that are read lie below the rows, so that each check finds what it would have found at first.
use Prim.Native.Nat.{ℕ, ◌+◌, ◌-◌, ◌≤◌, ◌<◌}
use mathlib.Core.Path.{◌≡◌, sym, ap, subst, ◌∙◌}
use mathlib.Core.List.{List, []}
use mathlib.Core.Bool.{cond}
use native.Mathlib.Omega.{arith}
use lib.ListN.{length, get_or, set, take}
use Rattle.lists.specs.Lists.{one, slice, rising, subset}
use Rattle.lists.specs.Parts.{Changed}
use Rattle.lists.proofs.Slices.{frame_less, frame_at, frame-slice, length-slice, changed_none}
use Rattle.sets.specs.Signatures.{signature, drops}
use Rattle.join_spec.specs.Query.{Query}
use Rattle.join_spec.specs.Walk.{Outcome, dropped, false_drop, confirmed}
use Rattle.join_spec.specs.Counting.{is_confirmed}
use Rattle.join_spec.specs.Kinds.{is_of, confirmed_check}
use Rattle.join_index.specs.Grouping.{right_at}
use Rattle.join_index.specs.declared.Layout.{Layout}
use Rattle.words.specs.Words.{Word}
use Rattle.words.specs.Merges.{Rising}
use Rattle.words.specs.flags.Flags.{Behind}
use Rattle.words.proofs.flags.Keeping.{Keeping, keeping_start, keeping_step, keeping_end}
use Rattle.join_check.specs.declared.Tally.{Tally}
use Rattle.join_check.specs.declared.Probe.{Probe}
use Rattle.join_index.specs.Asking.{SomeQuery, Index, RightThere}
use Rattle.join_check.specs.Probes.{Probed, OneChecked, probe_outcome}
use Rattle.join_index.proofs.Places.{place_right}
use Rattle.join_check.proofs.Tallying.{tallied_same, probe_rising, probe_check}
use Rattle.join_check.proofs.RowChecks.{RowChecking, row_start, row_step, row_end, check-confirmed}
use Rattle.kept_rows.specs.Kept.{contained_at, containing, RowIs, RowsKept}
use Rattle.kept_rows.specs.Keeping.{row_stored}
use Rattle.kept_rows.proofs.RowLaws.{index_kept, rows_grown, rows_stored, stored_frame, stored_size}
use Rattle.kept_rows.specs.checked.Recording.{RowRecordable, RowRecorded}

-- the confirmed ones of the places up to i stand from top up to n
pub record Recording (lay : Layout) (w₀ : List ℕ) (k e from to top : ℕ) (tally : Tally) (w : List ℕ) (r : Tally) (n i : ℕ)
    : Type 0 where
  pub checking : RowChecking lay w₀ k e from to tally r i
  pub changed : Changed top (top + (to - from)) w₀ w
  pub low : top ≤ n
  pub high : n ≤ top + (to - from)
  pub keeping : (q : Query) → RowRecordable lay q w₀ k e from to top → Keeping (contained_at q k) w₀ from to top w i n

-- the places that are read lie below the rows
behind : {lay : Layout} {q : Query} {w : List ℕ} {k e from to top : ℕ} → RowRecordable lay q w k e from to top → Behind from to top w
behind there =
    let g = there.row.left.index.ground in
    record {
      low = omega (arith, there.below, g.row_starts_within, g.row_ends_within, there.rows.low);
      room = omega (arith, there.room, g.end_within);
    }

module _ {lay : Layout} {w₀ : List ℕ} {k e from to top : ℕ} {tally : Tally} where
  pub recording_start : Recording lay w₀ k e from to top tally w₀ tally top from
  recording_start =
      record {
        checking = row_start;
        changed = changed_none top (top + (to - from)) w₀;
        low = omega arith;
        high = omega arith;
        keeping = λ q there. keeping_start;
      }

  module _ {w : List ℕ} {r : Tally} {n i : ℕ} (so : Recording lay w₀ k e from to top tally w r n i) where
    module _ {q : Query} (there : RowRecordable lay q w₀ k e from to top) where
      recording_frame : take lay.row_starts w ≡ take lay.row_starts w₀
      recording_frame =
          let g = there.row.left.index.ground in
          frame_less lay.row_starts top w₀ w
          (omega (arith, g.row_starts_within, g.row_ends_within, there.rows.low)) so.changed.low

      recording_index : Index lay q w
      recording_index = index_kept recording_frame so.changed.size there.row.left.index

      -- what remains of the left set stands as it stood
      probe_stays : {p : Probe} → Probed lay w₀ k e p → slice p.from p.to w ≡ slice p.from p.to w₀
      probe_stays {p} probed =
          frame-slice p.from p.to lay.row_starts w₀ w
          (omega (arith, probed.within, there.row.left.index.ground.slots_below)) recording_frame

      pub recording_rising : {p : Probe} → Probed lay w₀ k e p → Rising p.from p.to w
      recording_rising {p} probed =
          let rises = probe_rising probed there.row.left in
          record {
            within = omega (arith, rises.within, so.changed.size);
            rise = ap rising (probe_stays probed) ∙ rises.rise;
          }

      -- its row, once all places are checked
      module _ (past : to ≤ i) where
        row_within : n ≤ lay.end
        row_within = omega (arith, so.high, there.room)

        own : RowIs lay q w n k top n
        own =
            record {
              low = there.rows.low;
              order = so.low;
              high = omega arith;
              is = (keeping_end (so.keeping q there) past).is ∙ sym there.complete;
            }

        row-frame : take lay.row_starts (row_stored lay k top n w) ≡ take lay.row_starts w₀
        row-frame = stored_frame recording_index.ground k top n there.row.left.below ∙ recording_frame

        row_rows : RowsKept lay q (row_stored lay k top n w) n
        row_rows =
            rows_stored recording_index.ground k top n there.row.left.below own
            (rows_grown there.row.left.index.ground so.changed.low so.low row_within there.rows)

        row_long : n ≡ top + length (containing q k)
        row_long =
            omega (
              arith,
              length-slice top n w (omega (arith, row_within, recording_index.ground.end_within)),
              ap length own.is,
              so.low,
            )

      module _ (more : i < to) where
        module _ {s : ℕ} (word : Word w i s) where
          first_word : Word w₀ i s
          first_word =
              record {
                is = word.is ∙ frame_at 0 i lay.row_starts w₀ w (omega (arith, more, there.below)) recording_frame;
                small = word.small;
              }

          first_right : RightThere lay q w₀ s
          first_right = place_right there.row.places i s so.checking.low more first_word

          pub recording_right : RightThere lay q w s
          recording_right = record { index = recording_index; below = first_right.below }

    module _ {s : ℕ} {p : Probe} {u : Tally} (some : SomeQuery (λ q. RowRecordable lay q w₀ k e from to top)) (more : i < to)
        (word : Word w i s) (probed : Probed lay w₀ k e p) (checked : OneChecked lay w p s r u) where
      -- a check finds what it would have found at first
      outcome_stays : (q : Query) → probe_outcome q w p s ≡ probe_outcome q w₀ p s
      outcome_stays q =
          ap
          (λ (l : List ℕ). cond (drops p.signature (signature (get_or q.rights s []))) dropped
          (cond (subset l (right_at q s)) confirmed false_drop))
          (probe_stays some.holds probed)

      first_checked : OneChecked lay w₀ p s r u
      first_checked =
          record {
            grown = checked.grown;
            tallied = λ q there.
                tallied_same (λ kind. ap (λ (o : Outcome). one (is_of kind o)) (outcome_stays q))
                (checked.tallied q
                (record {
                  index = index_kept (recording_frame some.holds) so.changed.size there.index;
                  below = there.below;
                }));
          }

      -- one more is confirmed where the right set contains the left set
      confirmed_more : (q : Query) → RowRecordable lay q w₀ k e from to top → u.confirmed - r.confirmed ≡ one (contained_at q k s)
      confirmed_more q there =
          let grows = (first_checked.tallied q (first_right there more word)).grows confirmed_check in
          let found : is_confirmed (probe_outcome q w₀ p s) ≡ contained_at q k s =
          ap is_confirmed
          (probe_check there.row (probed.is q there.row.left) i s so.checking.low more (first_word there more word))
          ∙ check-confirmed (get_or q.lefts k []) (get_or q.rights s []) in
          omega (arith, grows, ap one found)

      pub recording_grows : r.confirmed ≤ u.confirmed
      recording_grows =
          omega (
            arith,
            (first_checked.tallied some.query (first_right some.holds more word)).grows confirmed_check,
          )

      kept_step : (q : Query) → RowRecordable lay q w₀ k e from to top
          → Keeping (contained_at q k) w₀ from to top (set w n s) (i + 1) (n + (u.confirmed - r.confirmed))
      kept_step q there =
          subst
          (λ (x : ℕ). Keeping (contained_at q k) w₀ from to top (set w n x) (i + 1) (n + (u.confirmed - r.confirmed)))
          (sym word.is)
          (keeping_step (so.keeping q there) (behind there) more
          (confirmed_more q there ∙ ap (λ (x : ℕ). one (contained_at q k x)) word.is))

      pub recording_step :
          Recording lay w₀ k e from to top tally (set w n s) u (n + (u.confirmed - r.confirmed)) (i + 1)
      recording_step =
          let kept = kept_step some.query some.holds in
          record {
            checking = row_step so.checking more probed (first_word some.holds more word) first_checked;
            changed = kept.changed;
            low = kept.low;
            high = kept.high;
            keeping = kept_step;
          }

    pub recording_end : {v : List ℕ} → SomeQuery (λ q. RowRecordable lay q w₀ k e from to top) → to ≤ i → v ≡ row_stored lay k top n w
        → RowRecorded lay w₀ k e from to tally top v (record { tally = r; top = n })
    recording_end {v} some past kept =
        rw kept
        (record {
          size =
              stored_size (recording_index some.holds).ground k top n some.holds.row.left.below
              ∙ so.changed.size;
          frame = row-frame some.holds past;
          checked = row_end so.checking past;
          rows = λ q there. row_rows there past;
          past = λ q there. row_long there past;
        })
