-- A node where the walk goes on: the candidates are narrowed, rows are kept above them, and at the limit its left sets are finished.
use Prim.Native.Nat.{ℕ, suc, ◌-◌, ◌≤◌}
use mathlib.Core.Path.{◌≡◌, sym, subst, ◌∙◌}
use mathlib.Core.List.{List}
use mathlib.Core.Bool.{true}
use native.Mathlib.Omega.{arith}
use lib.ListN.{length, get_or}
use Rattle.std.specs.Prelude.{Option}
use Rattle.lists.specs.Lists.{slice}
use Rattle.lists.proofs.Slices.{length-slice, frame-slice}
use Rattle.join_spec.specs.Query.{Query}
use Rattle.join_spec.specs.Node.{last_of}
use Rattle.join_spec.specs.Walk.{goes}
use Rattle.join_index.specs.declared.Layout.{Layout}
use Rattle.join_index.specs.Asking.{Index, RangeThere}
use Rattle.join_index.specs.Ranges.{lefts_in}
use Rattle.kept_rows.specs.Kept.{RowsKept}
use Rattle.kept_rows.proofs.RowLaws.{rows_framed}
use Rattle.join_nodes.specs.Narrowing.{Candidates, Narrowed, candidate_list, slot_of}
use Rattle.join_nodes.specs.Visiting.{OnPath, Node, NodeVisited, Visited}
use Rattle.join_nodes.specs.Visiting.{Framed, RangeVisited}
use Rattle.kept_rows.specs.declared.Progress.{Progress}
use Rattle.words.specs.declared.Part.{Part}
use Rattle.join_nodes.specs.declared.WalkSettings.{WalkSettings}
use Rattle.join_nodes.proofs.NodeFacts.{last_read}
use Rattle.join_nodes.proofs.FrameLaws.{index_framed, range_framed, framed_then, rows_inside, slot_low}
use Rattle.join_nodes.specs.blocks.Blocks.{Going, AtLimit}
use Rattle.join_nodes.proofs.blocks.BlockLaws.{Begin}
use Rattle.join_nodes.proofs.blocks.NodeStops.{node_rooted}

-- a node where the walk goes on, its candidates narrowed to a part of the work list, which became w'; its rows end at top
pub record Onward (lay : Layout) (st : WalkSettings) (q : Query) (path w w' : List ℕ) (d lo hi from to : ℕ) (p : Progress)
    (part : Part) (top : ℕ) : Type 0 where
  pub node : Node lay st q path w d lo hi from to p
  pub framed : Framed (slot_of lay w (last_of path)) w w'
  pub rise : part.«from» ≤ part.to
  pub below : part.to ≤ slot_of lay w (suc (last_of path))
  pub holds : slice part.«from» part.to w' ≡ candidate_list q path d
  pub on : true ≡ goes q path
  pub rows : RowsKept lay q w' top

-- as the path's last rank was read, and the candidates narrowed by it
pub onward_read : {lay : Layout} {st : WalkSettings} {q : Query} {path w w' : List ℕ} {d lo hi from to : ℕ} {p : Progress}
    {part : Part} {rank : ℕ} → Node lay st q path w d lo hi from to p → true ≡ goes q path
    → ((q : Query) (path : List ℕ) → OnPath lay q path w lo (d - 1) → rank ≡ get_or path (d - 1) 0)
    → ((q : Query) (path : List ℕ) → Candidates lay q path w d from to → rank ≡ last_of path → Narrowed lay q path d w w' part)
    → Onward lay st q path w w' d lo hi from to p part p.top
onward_read {q = q} {path = path} node on read narrow =
    let narrowed = narrow q path node.at.candidates (last_read node.at read) in
    record {
      node = node;
      framed = record { size = narrowed.size; frame = narrowed.frame };
      rise = narrowed.rise;
      below = narrowed.below;
      holds = narrowed.holds;
      on = on;
      rows = rows_framed node.at.candidates.index.ground narrowed.rest node.rows;
    }

module _ {lay : Layout} {st : WalkSettings} {q : Query} {path w w' : List ℕ} {d lo hi from to : ℕ} {p : Progress} {part : Part}
    {top : ℕ} (so : Onward lay st q path w w' d lo hi from to p part top) where
  cands : Candidates lay q path w d from to
  cands = so.node.at.candidates

  index : Index lay q w
  index = cands.index

  low : lay.slots ≤ slot_of lay w (last_of path)
  low = omega arith

  slot_below : slot_of lay w (last_of path) ≤ lay.row_starts
  slot_below = slot_low index cands.last

  pub index_after : Index lay q w'
  index_after = index_framed index so.framed low

  part_below : part.to ≤ lay.row_starts
  part_below = omega (arith, so.below, index.ground.slot_within (last_of path) cands.last)

  part_inside : part.to ≤ length w'
  part_inside = omega (arith, part_below, rows_inside index_after)

  pub after_length : length (slice part.«from» part.to w') ≡ part.to - part.«from»
  after_length = length-slice part.«from» part.to w' part_inside

  pub node_range : RangeThere lay q w' lo hi
  node_range = record { index = index_after; some = so.node.at.some; within = so.node.at.few }

  same_range : lefts_in lay w' lo hi ≡ lefts_in lay w lo hi
  same_range = range_framed index so.framed low lo hi so.node.at.few

  onward_begin : Begin q path (lefts_in lay w' lo hi)
  onward_begin = subst (λ (l : List ℕ). Begin q path l) (sym same_range) (node_rooted so.node).begin

  -- some rows more are kept
  pub onward_kept : {w'' : List ℕ} {more : ℕ} → Framed lay.row_starts w' w'' → RowsKept lay q w'' more
      → Onward lay st q path w w'' d lo hi from to p part more
  onward_kept {w''} {more} above kept =
      record {
        node = so.node;
        framed = framed_then slot_below so.framed above;
        rise = so.rise;
        below = so.below;
        holds = frame-slice part.«from» part.to lay.row_starts w' w'' part_below above.frame ∙ so.holds;
        on = so.on;
        rows = kept;
      }

  -- its left sets were visited while only rows changed
  pub limit_visited : {w'' : List ℕ} {r : Option Progress} → RangeVisited lay q st.budget lay.row_starts d w' w'' lo hi p.tally r
      → NodeVisited lay st q path w w'' d lo hi p.tally r
  limit_visited {w''} {r} done =
      record {
        framed = framed_then slot_below so.framed done.framed;
        visited = subst (λ (l : List ℕ). Visited q st.budget d l p.tally r) same_range done.visited;
        rows = done.rows;
      }

-- the left sets of a node, its candidates narrowed
pub onward_going : {lay : Layout} {st : WalkSettings} {q : Query} {path w w' : List ℕ} {d lo hi from to : ℕ} {p : Progress}
    {part : Part} → Onward lay st q path w w' d lo hi from to p part p.top
    → Going lay st q path w' d lo hi part.«from» part.to p
onward_going so =
    record {
      index = index_after so;
      underway = so.node.underway;
      rows = so.rows;
      depth = so.node.at.candidates.depth;
      deep = so.node.at.candidates.deep;
      on = sym so.on;
      upto = omega (arith, so.node.at.some);
      few = so.node.at.few;
      begins = onward_begin so;
      rise = so.rise;
      below = part_below so;
      holds = so.holds;
    }

-- at the limit
pub node_limit : {lay : Layout} {st : WalkSettings} {q : Query} {path w w' : List ℕ} {d lo hi from to : ℕ} {p : Progress} {part : Part}
    → Onward lay st q path w w' d lo hi from to p part p.top → st.limit ≤ d
    → AtLimit lay st q path w' d lo hi part.«from» part.to p
node_limit so deepest =
    record { going = onward_going so; limit = omega (arith, so.node.underway.limit, so.node.at.within) }
