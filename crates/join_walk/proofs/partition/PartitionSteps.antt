-- A partition is a node of depth 1 whose candidates are the right sets
-- seen at its rank, which stand first in the list by least rank; or a node without candidates, where the rule doesn't ask for these,
-- and its visit is over where no right set holds its rank.
use Prim.Native.Nat.{ℕ, suc, ◌+◌, ◌≤◌}
use mathlib.Core.Path.{◌≡◌, sym, ap, subst, ◌∙◌}
use mathlib.Core.List.{List, [], ◌∷◌}
use mathlib.Core.Bool.{true, false, and-true}
use native.Mathlib.Omega.{arith}
use lib.ListN.{length, get_or}
use Rattle.std.specs.Prelude.{Option, Some}
use Rattle.lists.specs.Lists.{all, prefix, slice}
use Rattle.lists.proofs.Bools.{true-false}
use Rattle.lists.proofs.Slices.{slice_past}
use Rattle.join_spec.specs.Query.{Query}
use Rattle.join_spec.specs.Node.{seen}
use Rattle.join_spec.specs.Walk.{is_candidate}
use Rattle.join_index.specs.Grouping.{left_at, right_at, key_at}
use Rattle.join_index.specs.Ground.{Listing, seen_count, inverted_list, asks_seen}
use Rattle.join_index.specs.declared.Layout.{Layout}
use Rattle.join_index.specs.Asking.{RangeThere, LeftThere}
use Rattle.words.specs.Words.{Word}
use Rattle.join_index.specs.Ranges.{left_in}
use Rattle.join_check.specs.declared.Tally.{Tally}
use Rattle.join_index.proofs.Orders.{range_key}
use Rattle.kept_rows.specs.Keeping.{ListThere, ListKept}
use Rattle.join_nodes.specs.Narrowing.{slot_of}
use Rattle.join_nodes.specs.Visiting.{Node, NodeVisited}
use Rattle.kept_rows.specs.declared.Progress.{Progress}
use Rattle.join_nodes.specs.declared.WalkSettings.{WalkSettings}
use Rattle.join_nodes.proofs.Narrowing.{listing_same, listing_few, narrow_first}
use Rattle.join_nodes.proofs.NodeFacts.{on_key, unasked_goes}
use Rattle.join_nodes.proofs.RangeLaws.{begins_first}
use Rattle.join_nodes.proofs.FrameLaws.{framed_none, framed_lower}
use Rattle.join_nodes.proofs.blocks.NodeRows.{empty_list}
use Rattle.join_nodes.proofs.enter.NodeSteps.{Onward, onward_going, limit_visited}
use Rattle.join_nodes.proofs.enter.EmptyNodes.{empty_kept}
use Rattle.join_walk.specs.partition.Partition.{Partition, PartVisited}

-- a partition as a node of depth 1
module _ {lay : Layout} {st : WalkSettings} {q : Query} {w : List ℕ} {lo hi : ℕ} {p : Progress} {r : ℕ}
    (part : Partition lay st q w lo hi p r) where
  pub partition_range : RangeThere lay q w lo hi
  partition_range = record { index = part.index; some = part.some; within = part.few }

  first_begins : prefix (r ∷ []) (left_at q (left_in lay w lo)) ≡ true
  first_begins = begins_first (r ∷ []) 1 partition_range part.lefts

  -- the key of its first left set is one more than the rank
  pub partition_key : {k key : ℕ} → Word w (lay.left_order + lo) k → ((q : Query) → LeftThere lay q w k → key ≡ key_at q 0 k)
      → key ≡ suc r
  partition_key word read =
      range_key partition_range 0 lo part.some word read
      ∙ on_key {path = r ∷ []} (record {
        index = part.index;
        few = omega (arith, part.some, part.few);
        begins = first_begins;
        deep = omega arith;
      })

  pub seen_word : {key seen : ℕ} → key ≡ suc r → Word w (lay.least_offsets + key) seen → seen ≡ seen_count lay w r
  seen_word is word = word.is ∙ ap (λ (n : ℕ). get_or w (lay.least_offsets + n) 0) is

  module _ (asked : asks_seen q.rule ≡ true) {count : ℕ} (is : count ≡ seen_count lay w r) where
    seen_within_lem : lay.by_least + count ≤ lay.slots
    seen_within_lem = omega (arith, part.index.ground.seen_within asked r part.last, is)

    seen-listing :
        Listing (length q.rights) (λ s. is_candidate 0 (r ∷ []) (right_at q s))
        (slice lay.by_least (lay.by_least + count) w)
    unfolding is_candidate all
    seen-listing =
        listing_same (length q.rights) (λ s. seen r (right_at q s)) (λ s. is_candidate 0 (r ∷ []) (right_at q s))
        (slice lay.by_least (lay.by_least + count) w)
        (λ s. sym (and-true (seen r (right_at q s))))
        (subst (λ (n : ℕ). Listing (length q.rights) (λ s. seen r (right_at q s))
        (slice lay.by_least (lay.by_least + n) w)) (sym is)
        (part.index.ground.seen_first asked r part.last))

    pub partition_node : Node lay st q (r ∷ []) w 1 lo hi lay.by_least (lay.by_least + count) p
    partition_node =
        record {
          at = record {
            candidates = record {
              index = part.index;
              depth = part.depth;
              deep = omega arith;
              last = part.last;
              rise = omega arith;
              below = omega (arith, seen_within_lem);
              few =
                  listing_few (length q.rights) (λ s. is_candidate 0 (r ∷ []) (right_at q s)) lay.by_least
                  (lay.by_least + count) w (omega (arith, seen_within_lem, part.index.room)) seen-listing;
              listing = λ asks. seen-listing;
              sorted = λ deeper. absurd (omega arith);
            };
            within = part.within;
            some = part.some;
            few = part.few;
            lefts = part.lefts;
          };
          underway = part.underway;
          rows = part.rows;
        }

  module _ (unasked : asks_seen q.rule ≡ false) where
    pub unasked_node : Node lay st q (r ∷ []) w 1 lo hi lay.slots lay.slots p
    unasked_node =
        record {
          at = record {
            candidates = record {
              index = part.index;
              depth = part.depth;
              deep = omega arith;
              last = part.last;
              rise = omega arith;
              below = omega arith;
              few = omega arith;
              listing = λ asks. true-false asks unasked;
              sorted = λ deeper. absurd (omega arith);
            };
            within = part.within;
            some = part.some;
            few = part.few;
            lefts = part.lefts;
          };
          underway = part.underway;
          rows = part.rows;
        }

    -- no right set holds its rank
    module _ (none : inverted_list q r ≡ []) where
      unheld : Onward lay st q (r ∷ []) w w 1 lo hi lay.slots lay.slots p
          (record { «from» = lay.slots; to = lay.slots }) p.top
      unheld =
          record {
            node = unasked_node;
            framed = framed_none (slot_of lay w r) w;
            rise = omega arith;
            below = omega arith;
            holds = slice_past lay.slots lay.slots w (omega arith) ∙ sym none ∙ narrow_first q r;
            on = unasked_goes q (r ∷ []) unasked;
            rows = part.rows;
          }

      pub unheld_list : ListThere lay q w lo hi lay.slots lay.slots p.top
      unheld_list = empty_list (onward_going unheld) (omega arith)

      pub unheld_visited : {w' : List ℕ} {top : ℕ} → ListKept lay w lo hi lay.slots lay.slots p.top w' top
          → NodeVisited lay st q (r ∷ []) w w' 1 lo hi p.tally
          (Some (record { tally = p.tally; top = top }))
      unheld_visited kept = limit_visited unheld (empty_kept unheld (omega arith) kept)

-- its visit as that of a partition
pub partition_visited : {lay : Layout} (st : WalkSettings) {q : Query} (r : ℕ) {w w' : List ℕ} {lo hi : ℕ} {tally : Tally}
    {one : Option Progress}
    → NodeVisited lay st q (r ∷ []) w w' 1 lo hi tally one → PartVisited lay st q w w' lo hi tally one
partition_visited st r done = record { framed = framed_lower (omega arith) done.framed; visited = done.visited; rows = done.rows }
