-- One left set after another: the counters, the kept counters and the pair list after some of them, with its start, step and ends.
use Prim.Native.Nat.{ℕ, ◌+◌, ◌*◌, ◌<◌, ◌≤◌}
use mathlib.Core.Path.{◌≡◌, refl, sym, ap₂, subst, ◌∙◌}
use mathlib.Core.List.{List, []}
use native.Mathlib.Numerals.{add-one}
use native.Mathlib.Omega.{arith}
use lib.ListN.{length, get_or}
use Rattle.lists.specs.Lists.{sum}
use Rattle.lists.proofs.Slices.{frame_less, frame_at, rest_at}
use Rattle.sets.specs.Limits.{max_set_length, full_words}
use Rattle.sets.specs.Collections.{between}
use Rattle.sets.proofs.Between.{length-sets}
use Rattle.inputs.specs.Input.{Input, right_sets}
use Rattle.side_index.specs.inverted.Placing.{start_at}
use Rattle.side_index.proofs.inverted.Collected.{SetAt, set_at}
use Rattle.join_spec.specs.PairList.{pairs_from}
use Rattle.join_spec.specs.Query.{Query}
use Rattle.join_spec.specs.Counting.{checks_of, is_confirmed, is_dropped, is_false}
use Rattle.join_spec.proofs.Demand.{checks_end}
use Rattle.signatures.specs.Signing.{double}
use Rattle.merge_rows.specs.declared.Met.{Met}
use Rattle.merge_rows.specs.declared.Regions.{Regions}
use Rattle.merge_rows.specs.Filled.{row_words}
use Rattle.merge_rows.specs.SignedSets.{Signs}
use Rattle.merge_rows.specs.ShortLists.{Listed}
use Rattle.merge_rows.specs.Meeting.{Laid, Ground, CountersRoom, CountersStored}
use Rattle.merge_rows.specs.Merging.{merge_query, total_to, pairs_to, MetAfter, MetFits, CountersKept, Over, LeftsRoom, SetThere, LeftAdded, MetAll}
use Rattle.merge_rows.proofs.ShortWriting.{listed_none, listed_append, listed_take}
use Rattle.merge_rows.proofs.RowReads.{rows_kept, ground_signs}
use Rattle.merge_rows.proofs.Totals.{pairs_next, met_next, counters_next, total-upto, total_all}
use Rattle.merge_rows.proofs.LeftSteps.{lefts_count, met_room, met_fits}

-- the counters of a left set lie above the rows and below the signatures
stored_ground : {r : Regions} {k : ℕ} {m : Met} {i : Input} {w w' : List ℕ} → Laid r i w → k < length i.left.ends
    → CountersStored r.counters k m w w' → Ground r i.T i.right w → Ground r i.T i.right w'
stored_ground {r} {k} {m} {i} {w} {w'} laid place stored ground =
    record {
      few = ground.few;
      good = ground.good;
      above = ground.above;
      rows =
          rows_kept ground.rows w' stored.changed.size
          (frame_less (2 * row_words i.T (length (right_sets i))) (r.counters + 3 * k) w w' (omega (arith, below_counters)) stored.changed.low);
      signed =
          record {
            room = omega (arith, ground.signed.room, stored.changed.size);
            each = λ s here some. same s ∙ ground.signed.each s here (λ none. some (same s ∙ none));
          };
    }
  where
    below_counters : 2 * row_words i.T (length (right_sets i)) ≤ r.counters
    below_counters = subst (λ (n : ℕ). 2 * row_words i.T n ≤ r.counters) (sym (length-sets 0 i.right.ends i.right.items)) laid.counters

    word : (i : ℕ) → r.counters + 3 * k + 3 ≤ i → get_or w' i 0 ≡ get_or w i 0
    word i past = rest_at 0 (r.counters + 3 * k + 3) i w w' past stored.changed.high

    same : (s : ℕ) → double w' (r.signatures + 2 * s) ≡ double w (r.signatures + 2 * s)
    same s =
        ap₂ (λ (a b : ℕ). a + full_words * b) (word (r.signatures + 2 * s) (omega (arith, laid.signatures)))
        (word (r.signatures + 2 * s + 1) (omega (arith, laid.signatures)))

-- the counters lie below the signatures
counters_signs : {q : Query} {counters k at : ℕ} {rights : List (List ℕ)} {w w' : List ℕ} → counters + 3 * (k + 1) ≤ at → Signs at rights w w'
    → CountersKept q counters k w → (j : ℕ) → j ≤ k → CountersKept q counters j w'
counters_signs {q} {counters} {k} {at} {rights} {w} {w'} room signs kept j within =
    record {
      at = λ i low. same (counters + 3 * i) (omega arith) ∙ kept.at i (omega arith);
      dropped = λ i low. same (counters + 3 * i + 1) (omega arith) ∙ kept.dropped i (omega arith);
      falses = λ i low. same (counters + 3 * i + 2) (omega arith) ∙ kept.falses i (omega arith);
    }
  where
    same : (i : ℕ) → i < at → get_or w' i 0 ≡ get_or w i 0
    same i below = frame_at 0 i at w w' below signs.low

laid_size : {r : Regions} {i : Input} {w w' : List ℕ} → length w' ≡ length w → Laid r i w → Laid r i w'
laid_size size laid =
    record { counters = laid.counters; signatures = laid.signatures; hints = laid.hints; end = omega (arith, size, laid.end) }

-- after k left sets, the next of which begins at start
pub record LeftsMet (r : Regions) (i : Input) (limit : ℕ) (ranks : List ℕ) (budget : ℕ)
    (was wasPath wasPairs is path pairs : List ℕ) (m : Met) (start k : ℕ) : Type 0 where
  pub over : Over r i limit ranks is
  pub place : k ≤ length i.left.ends
  pub here : start ≡ start_at i.left.ends k
  pub met : MetAfter (merge_query i limit ranks) k m
  pub counters : (j : ℕ) → j < k → CountersKept (merge_query i limit ranks) r.counters j is
  pub listed : Listed wasPairs 0 (pairs_to (merge_query i limit ranks) k) m.at pairs
  pub calm : m.confirmed + (m.dropped + m.falses) ≤ budget
  pub size : length is ≡ length was
  pub path_size : length path ≡ length wasPath

module _ {r : Regions} {i : Input} {limit : ℕ} {ranks : List ℕ} {budget : ℕ} where
  pub lefts_start : {w path : List ℕ} (pairs : List ℕ) → LeftsRoom r i limit ranks w path
      → LeftsMet r i limit ranks budget w path pairs w path pairs
      (record { at = 0; confirmed = 0; dropped = 0; falses = 0 }) 0 0
  unfolding pairs_to total_to pairs_from sum
  lefts_start pairs room =
      record {
        over = room.over;
        place = omega arith;
        here = refl;
        met = record { at = refl; confirmed = refl; dropped = refl; falses = refl };
        counters = λ j none. absurd (omega arith);
        listed = listed_none pairs 0;
        calm = omega arith;
        size = refl;
        path_size = refl;
      }

  module _ {was wasPath wasPairs is path pairs : List ℕ} {m : Met} {start k : ℕ}
      (c : LeftsMet r i limit ranks budget was wasPath wasPairs is path pairs m start k) where
    abbrev q : Query
    q = merge_query i limit ranks

    -- the end
    pub lefts_end : length i.left.ends ≤ k → MetAll q budget m wasPairs pairs
    lefts_end past =
        let all-lefts : k ≡ length q.lefts = omega (arith, c.place, lefts_count c.over.tests) in
        let met = subst (λ (n : ℕ). MetAfter q n m) all-lefts c.met in
        record {
          fits = met_fits c.over.tests c.met c.place;
          calm =
              omega (
                arith,
                c.calm,
                checks_end q,
                met.confirmed,
                met.dropped,
                met.falses,
                total_all is_confirmed q,
                total_all is_dropped q,
                total_all is_false q,
              );
          met = met;
          listed = subst (λ (n : ℕ). Listed wasPairs 0 (pairs_to q n) m.at pairs) all-lefts c.listed;
        }

    module _ (more : k < length i.left.ends) where
      -- the left set at hand
      pub this_set : SetAt i.T k start (get_or i.left.ends k 0) (get_or q.lefts k []) i.left.items
      this_set =
          subst (λ (s : ℕ). SetAt i.T k s (get_or i.left.ends k 0) (get_or q.lefts k []) i.left.items) (sym c.here)
          (set_at i.T i.left.ends i.left.items c.over.tests.good.left k more)

      pub counters_room : CountersRoom r.counters k m is
      counters_room =
          let room = met_room c.over.tests c.met more in
          let laid = c.over.laid in
          record {
            small = record { at = omega (arith, room.at); dropped = omega (arith, room.dropped); falses = omega (arith, room.falses) };
            room = omega (arith, laid.signatures, laid.hints, laid.end);
          }

      module _ {stored : List ℕ} (put : CountersStored r.counters k m is stored) where
        now_over : Over r i limit ranks stored
        now_over =
            record {
              words = c.over.words;
              tests = c.over.tests;
              laid = laid_size put.changed.size c.over.laid;
              ground = stored_ground c.over.laid more put c.over.ground;
            }

        now_counters : CountersKept q r.counters k stored
        now_counters = counters_next c.counters c.met put

        pub set_there : max_set_length ≤ length wasPath
            → SetThere r i limit ranks stored k (between start (get_or i.left.ends k 0) i.left.items)
            path pairs m
        set_there longest =
            record {
              over = now_over;
              place = more;
              is = sym this_set.is;
              longest = omega (arith, longest, c.path_size);
              met = c.met;
              counters = now_counters;
              listed = λ fits. listed_take c.listed (omega (arith, fits, c.listed.size));
            }

        module _ {met : Met} {next nextPairs : List ℕ}
            (added : LeftAdded q k (between start (get_or i.left.ends k 0) i.left.items) m met pairs nextPairs)
            (signs : Signs r.signatures q.rights stored next) where
          place : k < length q.lefts
          place = omega (arith, lefts_count c.over.tests)

          this_added : LeftAdded q k (get_or q.lefts k []) m met pairs nextPairs
          this_added = subst (λ (l : List ℕ). LeftAdded q k l m met pairs nextPairs) (sym this_set.is) added

          after : MetAfter q (k + 1) met
          after = met_next q k place c.met this_added

          all_listed : Listed wasPairs 0 (pairs_to q (k + 1)) met.at nextPairs
          all_listed =
              subst (λ (l : List ℕ). Listed wasPairs 0 l met.at nextPairs) (sym (pairs_next q k place))
              (listed_append c.listed this_added.listed)

          pub lefts_fit : MetFits met
          lefts_fit = met_fits c.over.tests after (omega arith)

          pub lefts_spent : budget < met.confirmed + (met.dropped + met.falses)
              → (length nextPairs ≡ length wasPairs) × (budget < checks_of q)
          lefts_spent over = (
            all_listed.size,
            omega (
              arith,
              over,
              checks_end q,
              after.confirmed,
              after.dropped,
              after.falses,
              total-upto is_confirmed q (k + 1),
              total-upto is_dropped q (k + 1),
              total-upto is_false q (k + 1),
            ),
          )

          pub lefts_step : (nextPath : List ℕ) → met.confirmed + (met.dropped + met.falses) ≤ budget → length nextPath ≡ length path
              → LeftsMet r i limit ranks budget was wasPath wasPairs next nextPath nextPairs met
              (get_or i.left.ends k 0) (k + 1)
          lefts_step nextPath within same =
              record {
                over =
                    record {
                      words = c.over.words;
                      tests = c.over.tests;
                      laid = laid_size signs.size now_over.laid;
                      ground = ground_signs now_over.ground signs;
                    };
                place = omega arith;
                here = rw (add-one k);
                met = after;
                counters = λ j low. counters_signs (omega (arith, now_over.laid.signatures)) signs now_counters j (omega arith);
                listed = all_listed;
                calm = within;
                size = signs.size ∙ put.changed.size ∙ c.size;
                path_size = same ∙ c.path_size;
              }
