-- The left sets at the limit, one by one: each adds its row, which is kept where there is room, and the rest stays at the limit.
use Prim.Native.Nat.{ℕ, ◌+◌, ◌-◌, ◌*◌, ◌≤◌, ◌<◌}
use mathlib.Core.Path.{◌≡◌, refl, sym, ap, ap₂, subst, ◌∙◌}
use mathlib.Core.List.{List, [], ◌∷◌}
use mathlib.Core.Bool.{Bool, true}
use native.Mathlib.Omega.{arith}
use native.Mathlib.Nat.{one-mul, mul-le-mul_right}
use borrow.Author.Tests.{eq-eqb, ne_eqb}
use lib.Dec.{eqb}
use lib.ListN.{length}
use Rattle.std.specs.Prelude.{Option, Some}
use Rattle.lists.specs.Lists.{all, prefix, sum, slice}
use Rattle.lists.proofs.Bools.{and_both}
use Rattle.lists.proofs.Throughout.{all_front, all_back}
use Rattle.lists.proofs.Slices.{frame-slice}
use Rattle.sets.specs.Limits.{max_pairs}
use Rattle.join_spec.specs.Query.{Query}
use Rattle.join_spec.specs.Walk.{Outcome}
use Rattle.join_spec.specs.Counting.{is_by_path, is_check}
use Rattle.join_spec.specs.Kinds.{is_of}
use Rattle.join_spec.proofs.KindLaws.{kind_met}
use Rattle.join_index.specs.Grouping.{left_at, key_at}
use Rattle.join_index.specs.declared.Layout.{Layout}
use Rattle.join_index.specs.Asking.{LeftThere}
use Rattle.join_index.specs.Ranges.{lefts_in}
use Rattle.words.specs.Words.{Word}
use Rattle.join_check.specs.Checks.{row_count, range_count}
use Rattle.join_index.proofs.Orders.{range_left}
use Rattle.join_check.proofs.Tallying.{tallied_same}
use Rattle.kept_rows.specs.Kept.{RowsKept}
use Rattle.kept_rows.specs.Keeping.{ListThere}
use Rattle.join_nodes.specs.Rows.{row, path_pairs}
use Rattle.join_nodes.specs.Visiting.{RangeVisited}
use Rattle.kept_rows.specs.declared.Progress.{Progress}
use Rattle.join_nodes.specs.declared.WalkSettings.{WalkSettings}
use Rattle.join_nodes.proofs.RangeLaws.{range_length, range_split, range_one}
use Rattle.join_nodes.proofs.RowLaws.{MetOnly, row_limit}
use Rattle.join_nodes.proofs.VisitLaws.{visited_some, kept_some, underway_next}
use Rattle.join_nodes.proofs.FrameLaws.{framed_none, index_framed, range_framed}
use Rattle.join_nodes.proofs.PartLoop.{PartDone}
use Rattle.join_nodes.proofs.PathLaws.{merged_checks}
use Rattle.join_nodes.specs.block_checks.BlockChecks.{Small, Blocked}
use Rattle.join_nodes.specs.blocks.Blocks.{Going, AtLimit, PairsKept, RowFinished}
use Rattle.join_nodes.proofs.blocks.BlockLaws.{Begin, rows_merge, key_longer, left_goes, listing_left}
use Rattle.join_nodes.proofs.blocks.BlockVisits.{block_visited, checks_all, merged_added}
use Rattle.join_nodes.proofs.blocks.GoingLaws.{going_range, going_rooted, going_length, going_few, going_listing, going_there, going_room}
use Rattle.join_nodes.proofs.blocks.NodeRows.{row_begins, row_record, ended_list}

module _ {lay : Layout} {st : WalkSettings} {q : Query} {path w : List ℕ} {d lo hi from to : ℕ} {p : Progress}
    (at : AtLimit lay st q path w d lo hi from to p) where
  going : Going lay st q path w d lo hi from to p
  going = at.going

  -- the first of them alone, and the others
  pub limit_first : lo < hi → AtLimit lay st q path w d lo (lo + 1) from to p
  limit_first some =
      let parts = range_split lay q w lo (lo + 1) hi going.index (omega arith) (omega arith) going.few in
      record {
        going = record {
          index = going.index;
          underway = record {
            limit = going.underway.limit;
            shallow = going.underway.shallow;
            rule = going.underway.rule;
            budget = going.underway.budget;
            bounded = omega (arith, going.underway.bounded, one_row);
          };
          rows = going.rows;
          depth = going.depth;
          deep = going.deep;
          on = going.on;
          upto = omega arith;
          few = omega (arith, going.few);
          begins = all_front (λ k. prefix path (left_at q k)) (lefts_in lay w lo (lo + 1)) (lefts_in lay w (lo + 1) hi)
              (subst (λ (l : List ℕ). Begin q path l) parts going.begins);
          rise = going.rise;
          below = going.below;
          holds = going.holds;
        };
        limit = at.limit;
      }
    where
      one_row : (lo + 1 - lo) * length q.rights ≤ (hi - lo) * length q.rights
      one_row = mul-le-mul_right (length q.rights) (omega arith)

  limit_next : {w' : List ℕ} {r : Option Progress} → lo < hi
      → RangeVisited lay q st.budget lay.row_starts d w w' lo (lo + 1) p.tally r → (u : Progress) → r ≡ Some u
      → AtLimit lay st q path w' d (lo + 1) hi from to u
  limit_next {w'} some visit u made =
      let parts = range_split lay q w lo (lo + 1) hi going.index (omega arith) (omega arith) going.few in
      let slots = going.index.ground.slots_below in
      record {
        going = record {
          index = index_framed going.index visit.framed slots;
          underway = underway_next going.underway (visit.visited.added u made)
              (omega (arith, range_length lay q w lo (lo + 1) going.index (omega (arith, going.few))))
              (visit.visited.within u made);
          rows = visit.rows u made;
          depth = going.depth;
          deep = going.deep;
          on = going.on;
          upto = omega arith;
          few = going.few;
          begins =
              subst (λ (l : List ℕ). Begin q path l)
              (sym (range_framed going.index visit.framed slots (lo + 1) hi going.few))
              (all_back (λ k. prefix path (left_at q k)) (lefts_in lay w lo (lo + 1)) (lefts_in lay w (lo + 1) hi)
              (subst (λ (l : List ℕ). Begin q path l) parts going.begins));
          rise = going.rise;
          below = going.below;
          holds = frame-slice from to lay.row_starts w w' going.below visit.framed.frame ∙ going.holds;
        };
        limit = at.limit;
      }

  -- the first, visited, as a part of them
  pub limit_done : lo < hi → {w' : List ℕ} {one : Option Progress}
      → RangeVisited lay q st.budget lay.row_starts d w w' lo (lo + 1) p.tally one
      → PartDone lay st.budget d hi (λ path w. lay.row_starts) (λ q path w i r. AtLimit lay st q path w d i hi from to r) q
      path w lo p w' (lo + 1) one
  limit_done some visit =
      record {
        facts = record { index = going.index; few = going.few; slots = going.index.ground.slots_below };
        visit = visit;
        steady = refl;
        next = limit_next some visit;
      }

-- one left set at the limit, as it was read
all_one : (p : ℕ → Bool) (x : ℕ) (l : List ℕ) → l ≡ x ∷ [] → p x ≡ true → all p l ≡ true
unfolding all
all_one p x l e h = subst (λ (m : List ℕ). all p m ≡ true) (sym e) (and_both h refl)

module _ {lay : Layout} {st : WalkSettings} {q : Query} {path w : List ℕ} {d i from to : ℕ} {p : Progress}
    (at : AtLimit lay st q path w d i (i + 1) from to p) {k : ℕ} (word : Word w (lay.left_order + i) k) where
  -- its key as it was read
  pub one_key : {r : ℕ} → ((q : Query) → LeftThere lay q w k → r ≡ key_at q d k) → r ≡ key_at q d k
  one_key read = read q (range_left (going_range at.going (omega arith)) i (omega arith) word)

  one_left : lefts_in lay w i (i + 1) ≡ k ∷ []
  one_left = range_one (going_range at.going (omega arith)) refl ∙ ap (λ (n : ℕ). n ∷ []) (sym word.is)

  begins : prefix path (left_at q k) ≡ true
  begins = row_begins at.going i (omega arith) (omega arith) word.is

  -- it ends: the part is its row, by path
  pub one_list : key_at q d k ≡ 0 → ListThere lay q w i (i + 1) from to p.top
  one_list ends = ended_list at.going refl word ends

  pub one_room : p.tally.by_path + path_pairs (i + 1 - i) (to - from) is_by_path ≤ max_pairs
  one_room = going_room at.going (i + 1 - i) (omega arith)

  pub one_kept : key_at q d k ≡ 0 → {w' : List ℕ} {r : Progress} → PairsKept lay w i (i + 1) from to p w' r
      → RangeVisited lay q st.budget lay.row_starts d w w' i (i + 1) p.tally (Some r)
  one_kept ends {w'} {r} pairs =
      record {
        framed = record { size = pairs.kept.size; frame = pairs.kept.frame };
        visited =
            visited_some
            (merged_added (lefts_in lay w i (i + 1))
            (λ is met.
            rows_merge (going_rooted at.going) (slice from to w) is met at.going.on ended (going_listing at.going)
            ∙ ap₂ (λ (m c : ℕ). path_pairs m c is) (ap length one_left ∙ omega arith) (going_length at.going))
            pairs.merged)
            (omega (arith, merged_checks pairs.merged, at.going.underway.budget));
        rows = kept_some (pairs.kept.rows q (one_list ends));
      }
    where
      ended : all (λ k. eqb (key_at q d k) 0) (lefts_in lay w i (i + 1)) ≡ true
      ended = all_one (λ k. eqb (key_at q d k) 0) k (lefts_in lay w i (i + 1)) one_left (eq-eqb (key_at q d k) 0 ends)

  -- it has more ranks: its checks against the part are its row
  module _ (longer : key_at q d k ≡ 0 → ⊥) where
    one_rows : (is : Outcome → Bool) → MetOnly is → sum (row is q d) (lefts_in lay w i (i + 1)) ≡ row_count q is (slice from to w) k
    unfolding sum
    one_rows is met =
        ap (sum (row is q d)) one_left
        ∙ omega (
          arith,
          row_limit q d k is met (slice from to w) (left_goes (going_rooted at.going) k true begins at.going.on)
              (key_longer q d k (ne_eqb (key_at q d k) 0 longer)) at.limit
              (listing_left (going_rooted at.going) d k (slice from to w) begins (omega arith) (going_listing at.going)),
        )

    -- the same as the checks of a range of one
    one_count : (is : Outcome → Bool) → range_count q is (slice from to w) (lefts_in lay w i (i + 1)) ≡ row_count q is (slice from to w) k
    unfolding sum
    one_count is = ap (sum (row_count q is (slice from to w))) one_left ∙ omega arith

    one_checks : sum (row is_check q d) (lefts_in lay w i (i + 1)) ≡ to - from
    one_checks =
        omega (
          arith,
          one_rows is_check refl,
          one_count is_check,
          checks_all q (slice from to w) (lefts_in lay w i (i + 1)),
          ap₂ (λ (a b : ℕ). a * b) (ap length one_left) (going_length at.going),
          one-mul (to - from),
        )

    pub one_recorded : p.top + (to - from) ≤ lay.end → {w' : List ℕ} {r : Option Progress}
        → RowFinished lay w st.budget k d from to p w' r
        → RangeVisited lay q st.budget lay.row_starts d w w' i (i + 1) p.tally r
    one_recorded room {w'} {r} done =
        let there = row_record at.going i (omega arith) (omega arith) word.is room in
        record {
          framed = done.framed;
          visited = record {
            added = λ u made.
                record {
                  tallied =
                      tallied_same (λ kind. sym (one_rows (is_of kind) (kind_met kind))) (done.tallied u made q there);
                };
            within = done.within;
            beyond = λ spent. omega (arith, done.beyond spent, one_checks);
          };
          rows = λ u made. done.rows u made q there;
        }

    pub one_small : Small st.budget i (i + 1) from to p.tally
    one_small =
        record {
          lefts = omega arith;
          rights = omega (arith, going_few at.going, at.going.index.ground.right_few);
          rise = omega arith;
          part = at.going.rise;
          covered = at.going.underway.budget;
        }

    pub one_blocked : {r : Option Progress} → Blocked lay w st.budget d i (i + 1) from to p r
        → RangeVisited lay q st.budget lay.row_starts d w w i (i + 1) p.tally r
    one_blocked {r} block =
        record {
          framed = framed_none lay.row_starts w;
          visited =
              block_visited (going_there at.going) (ap length one_left ∙ omega arith) (going_length at.going)
              (λ is met. one_rows is met ∙ sym (one_count is)) block;
          rows = λ u made. subst (RowsKept lay q w) (sym (block.top u made)) at.going.rows;
        }
