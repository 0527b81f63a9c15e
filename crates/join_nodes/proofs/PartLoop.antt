-- Part after part, until the budget is spent: the one law of the walk's three loops, over partitions, children and the left sets at
-- the limit. A part adds the rows of its left sets to the counters, or its checks would exceed the budget. The invariant: the rest
-- from place i on is known, and whatever visits it has visited all.
use Prim.Native.Nat.{ℕ, ◌≤◌}
use mathlib.Core.Path.{◌≡◌, refl, sym, subst, ◌∙◌}
use mathlib.Core.List.{List}
use native.Mathlib.Omega.{arith}
use lib.ListN.{length}
use Rattle.std.specs.Prelude.{Option, Some, None}
use Rattle.join_spec.specs.Query.{Query}
use Rattle.join_index.specs.declared.Layout.{Layout}
use Rattle.join_index.specs.Asking.{Index}
use Rattle.join_index.specs.Ranges.{lefts_in}
use Rattle.join_check.specs.Counters.{checks_in}
use Rattle.kept_rows.specs.Kept.{RowsKept}
use Rattle.join_index.proofs.Orders.{range_none}
use Rattle.join_nodes.specs.Narrowing.{SomePath}
use Rattle.join_nodes.specs.Visiting.{Visited, RangeVisited}
use Rattle.kept_rows.specs.declared.Progress.{Progress}
use Rattle.join_nodes.proofs.RangeLaws.{range_split}
use Rattle.join_nodes.proofs.VisitLaws.{added_none, visited_some, kept_some, visited_then, visited_early}
use Rattle.join_nodes.proofs.FrameLaws.{range_framed, framed_none, framed_then}

-- what remains to be visited, at depth d and up to place hi: with the words w, from place i on, the walk being at p. Only words from
-- a path's slot on change
module _ (lay : Layout) (budget d hi : ℕ) (slot : List ℕ → List ℕ → ℕ)
    (Rest : Query → List ℕ → List ℕ → ℕ → Progress → Type 0) where
  -- what each loop knows of the words
  pub record Facts (q : Query) (path w : List ℕ) : Type 0 where
    pub index : Index lay q w
    pub few : hi ≤ length q.lefts
    pub slots : lay.slots ≤ slot path w

  -- the part up to place j was visited, and the words became w'
  pub record PartDone (q : Query) (path w : List ℕ) (i : ℕ) (p : Progress) (w' : List ℕ) (j : ℕ) (one : Option Progress) : Type 0 where
    pub facts : Facts q path w
    pub visit : RangeVisited lay q budget (slot path w) d w w' i j p.tally one
    pub steady : slot path w' ≡ slot path w
    pub next : (at : Progress) → one ≡ Some at → Rest q path w' j at

  pub record Continuing (w₀ : List ℕ) (lo : ℕ) (p₀ : Progress) (w : List ℕ) (i : ℕ) (p : Progress) : Type 0 where
    pub some : SomePath (λ q path. Rest q path w i p)
    pub size : length w ≡ length w₀
    pub rest : (q : Query) (path : List ℕ) → Rest q path w₀ lo p₀ → Rest q path w i p
    pub whole : (q : Query) (path : List ℕ) → Rest q path w₀ lo p₀ → (w' : List ℕ) (one : Option Progress)
        → RangeVisited lay q budget (slot path w) d w w' i hi p.tally one
        → RangeVisited lay q budget (slot path w₀) d w₀ w' lo hi p₀.tally one

  pub continuing_start : {w : List ℕ} {lo : ℕ} {p : Progress} → SomePath (λ q path. Rest q path w lo p)
      → Continuing w lo p w lo p
  continuing_start some =
      record { some = some; size = refl; rest = λ q path left. left; whole = λ q path left w' one done. done }

module _ {lay : Layout} {budget d hi : ℕ} {slot : List ℕ → List ℕ → ℕ} {Rest : Query → List ℕ → List ℕ → ℕ → Progress → Type 0}
    {w₀ : List ℕ} {lo : ℕ} {p₀ : Progress} {w : List ℕ} {i : ℕ} {p : Progress}
    (so : Continuing lay budget d hi slot Rest w₀ lo p₀ w i p) where
  -- a part, up to place j
  module _ {w' : List ℕ} {j : ℕ} {one : Option Progress} (low : i ≤ j) (high : j ≤ hi)
      (each : (q : Query) (path : List ℕ) → Rest q path w i p → PartDone lay budget d hi slot Rest q path w i p w' j one) where
    pub continuing_step : {at : Progress} → length w' ≡ length w → one ≡ Some at
        → Continuing lay budget d hi slot Rest w₀ lo p₀ w' j at
    continuing_step {at} same made =
        record {
          some = record {
            query = so.some.query;
            path = so.some.path;
            holds = (each so.some.query so.some.path so.some.holds).next at made;
          };
          size = same ∙ so.size;
          rest = λ q path first. (each q path (so.rest q path first)).next at made;
          whole = λ q path first u two done.
              let part = each q path (so.rest q path first) in
              let known = part.facts in
              so.whole q path first u two
              (record {
                framed = framed_then (omega (arith, part.steady)) part.visit.framed done.framed;
                visited =
                    subst (λ (l : List ℕ). Visited q budget d l p.tally two)
                    (sym (range_split lay q w i j hi known.index low high known.few))
                    (visited_then (part.visit.visited.added at made)
                    (subst (λ (l : List ℕ). Visited q budget d l at.tally two)
                    (range_framed known.index part.visit.framed known.slots j hi known.few) done.visited));
                rows = done.rows;
              });
        }

    pub continuing_spent : one ≡ None → (q : Query) (path : List ℕ) → Rest q path w₀ lo p₀
        → RangeVisited lay q budget (slot path w₀) d w₀ w' lo hi p₀.tally one
    continuing_spent spent q path first =
        let part = each q path (so.rest q path first) in
        let known = part.facts in
        so.whole q path first w' one
        (record {
          framed = part.visit.framed;
          visited =
              subst (λ (l : List ℕ). Visited q budget d l p.tally one)
              (sym (range_split lay q w i j hi known.index low high known.few))
              (visited_early (lefts_in lay w j hi) spent part.visit.visited);
          rows = part.visit.rows;
        })

  -- no part remains
  pub continuing_end : hi ≤ i → checks_in p.tally ≤ budget
      → ((q : Query) (path : List ℕ) → Rest q path w i p → RowsKept lay q w p.top) → (q : Query) (path : List ℕ)
      → Rest q path w₀ lo p₀
      → RangeVisited lay q budget (slot path w₀) d w₀ w lo hi p₀.tally (Some p)
  continuing_end past covered kept q path first =
      so.whole q path first w (Some p)
      (record {
        framed = framed_none (slot path w) w;
        visited = visited_some (added_none q d (range_none lay w i hi past)) covered;
        rows = kept_some (kept q path (so.rest q path first));
      })
