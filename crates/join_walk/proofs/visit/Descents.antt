-- The visit of a node that goes on with one of its children, and so on: what is left is always one node, and whatever visits it has
-- visited the first one. The loop's invariant is `Descending`.
use Prim.Native.Nat.{ℕ, suc, ◌+◌, ◌-◌, ◌≤◌, ◌<◌}
use mathlib.Core.Path.{◌≡◌, refl, ◌∙◌}
use mathlib.Core.List.{List}
use native.Mathlib.Omega.{arith}
use lib.ListN.{length}
use Rattle.std.specs.Prelude.{Option, Some, None}
use Rattle.join_spec.specs.Query.{Query}
use Rattle.join_spec.specs.Node.{last_of}
use Rattle.join_index.specs.declared.Layout.{Layout}
use Rattle.join_nodes.specs.Narrowing.{slot_of, SomePath}
use Rattle.join_nodes.specs.Visiting.{Node, ChildrenAt, NodeVisited, ChildrenVisited}
use Rattle.kept_rows.specs.declared.Progress.{Progress}
use Rattle.join_nodes.specs.declared.WalkSettings.{WalkSettings}
use Rattle.join_nodes.proofs.PartLoop.{continuing_start, continuing_end}
use Rattle.join_nodes.specs.enter.Entering.{NodeEntered}
use Rattle.join_nodes.specs.declared.enter.Entered.{Entered}
use Rattle.join_walk.specs.heaviest.Heaviest.{RangeChosen}
use Rattle.join_check.specs.declared.keys.Span.{Span}
use Rattle.join_walk.proofs.visit.HeavyChild.{kids_below, below_spent, kids_above, above_spent, none_chosen}
use Rattle.join_walk.proofs.visit.HeavyChild.{chosen_path, chosen_node, chosen_visited}

module _ (lay : Layout) (st : WalkSettings) where
  -- the node that is left, and what its visit is of
  pub record Further (q : Query) (path₀ w₀ : List ℕ) (d₀ lo₀ hi₀ : ℕ) (p₀ : Progress) (w : List ℕ) (d lo hi from to : ℕ)
      (p : Progress) : Type 0 where
    pub path : List ℕ
    pub node : Node lay st q path w d lo hi from to p
    pub whole :
        (w' : List ℕ) (one : Option Progress) → NodeVisited lay st q path w w' d lo hi p.tally one
        → NodeVisited lay st q path₀ w₀ w' d₀ lo₀ hi₀ p₀.tally one

  -- the visit has come from the first node to the one that is left, or to its end
  pub record Descending (w₀ : List ℕ) (d₀ lo₀ hi₀ from₀ to₀ : ℕ) (p₀ : Progress) (w : List ℕ) (d lo hi from to : ℕ)
      (p : Progress) : Type 0 where
    pub size : length w ≡ length w₀
    pub deeper : d₀ ≤ d
    pub further :
        lo < hi → (q : Query) (path : List ℕ) → Node lay st q path w₀ d₀ lo₀ hi₀ from₀ to₀ p₀
        → Further q path w₀ d₀ lo₀ hi₀ p₀ w d lo hi from to p
    pub done :
        hi ≤ lo → (q : Query) (path : List ℕ) → Node lay st q path w₀ d₀ lo₀ hi₀ from₀ to₀ p₀
        → NodeVisited lay st q path w₀ w d₀ lo₀ hi₀ p₀.tally (Some p)

  pub descending_start : (w : List ℕ) (d lo hi from to : ℕ) (p : Progress) → Descending w d lo hi from to p w d lo hi from to p
  descending_start w d lo hi from to p =
      record {
        size = refl;
        deeper = omega arith;
        further = λ more q path node. record { path = path; node = node; whole = λ w' one done. done };
        done = λ past q path node. absurd (omega (arith, node.at.some));
      }

module _ {lay : Layout} {st : WalkSettings} {w₀ : List ℕ} {d₀ lo₀ hi₀ from₀ to₀ : ℕ} {p₀ : Progress} {w : List ℕ}
    {d lo hi from to : ℕ} {p : Progress} (so : Descending lay st w₀ d₀ lo₀ hi₀ from₀ to₀ p₀ w d lo hi from to p)
    (more : lo < hi) where
  -- there is a query and a path of the node that is left
  pub node_left : SomePath (λ q path. Node lay st q path w₀ d₀ lo₀ hi₀ from₀ to₀ p₀)
      → SomePath (λ q path. Node lay st q path w d lo hi from to p)
  node_left some =
      let left = so.further more some.query some.path some.holds in
      record { query = some.query; path = left.path; holds = left.node }

  -- it was visited
  pub descending_end : {w' : List ℕ} {one : Option Progress}
      → ((q : Query) (path : List ℕ) → Node lay st q path w d lo hi from to p
      → NodeVisited lay st q path w w' d lo hi p.tally one)
      → (q : Query) (path : List ℕ) → Node lay st q path w₀ d₀ lo₀ hi₀ from₀ to₀ p₀
      → NodeVisited lay st q path w₀ w' d₀ lo₀ hi₀ p₀.tally one
  descending_end {w'} {one} each q path node =
      let left = so.further more q path node in left.whole w' one (each q left.path left.node)

-- no children: they were visited, and nothing has changed
none_visited : {lay : Layout} {st : WalkSettings} {w : List ℕ} {d lo hi from to : ℕ} {p : Progress} → hi ≤ lo → (q : Query)
    (path : List ℕ) → ChildrenAt lay st q path w d lo hi from to p
    → ChildrenVisited lay st q path w w d lo hi p.tally (Some p)
none_visited {lay} {st} {w} {d} {lo} {hi} {from} {to} {p} none q path at =
    continuing_end
    (continuing_start lay st.budget (suc d) hi (λ path w. slot_of lay w (suc (last_of path)))
    (λ q path w i r. ChildrenAt lay st q path w d i hi from to r)
    (record { query = q; path = path; holds = at }))
    none at.kids.underway.budget (λ q path at. at.kids.rows) q path at

-- it was entered, and has children: those other than the chosen one were visited
module _ {lay : Layout} {st : WalkSettings} {w : List ℕ} {d lo hi from to : ℕ} {p : Progress} {v : List ℕ} {on : Entered}
    (entered : (q : Query) (path : List ℕ) → Node lay st q path w d lo hi from to p
    → NodeEntered lay st q path w v d lo hi p (Some on)) (left : on.mid < hi) {r : Span} (chosen : RangeChosen lay v d on.mid hi r)
  where
    abbrev Here : Query → List ℕ → Type 0
    Here q path = Node lay st q path w d lo hi from to p

    kids : (q : Query) (path : List ℕ) → Here q path
        → ChildrenAt lay st q path v d on.mid hi on.«from» on.to on.at
    kids q path node = (entered q path node).kids on refl left

    pub ask_below : (q : Query) (path : List ℕ) → Here q path
        → ChildrenAt lay st q path v d on.mid r.lo on.«from» on.to on.at
    ask_below q path node = kids_below (kids q path node) left chosen

    module _ {u : List ℕ} {one : Option Progress}
        (first : (q : Query) (path : List ℕ)
        → ChildrenAt lay st q path v d on.mid r.lo on.«from» on.to on.at
        → ChildrenVisited lay st q path v u d on.mid r.lo on.at.tally one) where
      below : (q : Query) (path : List ℕ) → Here q path → ChildrenVisited lay st q path v u d on.mid r.lo on.at.tally one
      below q path node = first q path (ask_below q path node)

      pub spent_below : one ≡ None → (q : Query) (path : List ℕ) → Here q path
          → NodeVisited lay st q path w u d lo hi p.tally one
      spent_below spent q path node =
          (entered q path node).rest on refl left u one (below_spent (kids q path node) left chosen (below q path node) spent)

      module _ {near : Progress} (calm : one ≡ Some near) where
        pub ask_above : (q : Query) (path : List ℕ) → Here q path
            → ChildrenAt lay st q path u d r.hi hi on.«from» on.to near
        ask_above q path node = kids_above (kids q path node) left chosen (below q path node) calm

        module _ {x : List ℕ} {two : Option Progress}
            (second : (q : Query) (path : List ℕ)
            → ChildrenAt lay st q path u d r.hi hi on.«from» on.to near
            → ChildrenVisited lay st q path u x d r.hi hi near.tally two) where
          above : (q : Query) (path : List ℕ) → Here q path
              → ChildrenVisited lay st q path u x d r.hi hi near.tally two
          above q path node = second q path (ask_above q path node)

          pub spent_above : two ≡ None → (q : Query) (path : List ℕ) → Here q path
              → NodeVisited lay st q path w x d lo hi p.tally two
          spent_above spent q path node =
              (entered q path node).rest on refl left x two
              (above_spent (kids q path node) left chosen (below q path node) calm (above q path node) spent)

          -- the chosen child is left
          pub descending_step : {w₀ : List ℕ} {d₀ lo₀ hi₀ from₀ to₀ : ℕ} {p₀ : Progress} {far : Progress} → two ≡ Some far → lo < hi
              → Descending lay st w₀ d₀ lo₀ hi₀ from₀ to₀ p₀ w d lo hi from to p → length x ≡ length w
              → Descending lay st w₀ d₀ lo₀ hi₀ from₀ to₀ p₀ x (d + 1) r.lo r.hi on.«from» on.to far
          descending_step {far = far} quiet some so same =
              record {
                size = same ∙ so.size;
                deeper = omega (arith, so.deeper);
                further = λ more q path₀ node₀.
                    let f = so.further some q path₀ node₀ in
                    let at = kids q f.path f.node in
                    let low = below q f.path f.node in
                    let high = above q f.path f.node in
                    record {
                      path = chosen_path at left chosen low calm high quiet more;
                      node = chosen_node at left chosen low calm high quiet more;
                      whole = λ w' three done.
                          f.whole w' three
                          ((entered q f.path f.node).rest on refl left w' three
                          (chosen_visited at left chosen low calm high quiet more done));
                    };
                done = λ none q path₀ node₀.
                    let f = so.further some q path₀ node₀ in
                    f.whole x (Some far)
                    ((entered q f.path f.node).rest on refl left x (Some far)
                    (none_chosen (kids q f.path f.node) left chosen (below q f.path f.node) calm
                    (above q f.path f.node) quiet none));
              }

    -- the chosen child is left and was the only one: the others, of which there are none, were visited
    pub descending_only : {w₀ : List ℕ} {d₀ lo₀ hi₀ from₀ to₀ : ℕ} {p₀ : Progress} → hi - on.mid ≤ r.hi - r.lo → lo < hi
        → Descending lay st w₀ d₀ lo₀ hi₀ from₀ to₀ p₀ w d lo hi from to p → length v ≡ length w
        → Descending lay st w₀ d₀ lo₀ hi₀ from₀ to₀ p₀ v (d + 1) r.lo r.hi on.«from» on.to on.at
    descending_only all =
        descending_step (none_visited (omega (arith, all, left, chosen.within))) refl
        (none_visited (omega (arith, all, left, chosen.begins.low))) refl
