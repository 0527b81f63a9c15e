-- A node where the walk goes on, entered: those of its left sets that end there are settled, and what is left are its children.
use Prim.Native.Nat.{ℕ, ◌+◌, ◌≤◌, ◌<◌}
use mathlib.Core.Path.{◌≡◌, sym, ap, subst, ◌∙◌}
use mathlib.Core.List.{List}
use native.Mathlib.Omega.{arith}
use lib.Dec.{eqb}
use Rattle.std.specs.Prelude.{Option, Some, None}
use Rattle.std.proofs.lemmas.Option.{none-some, same_Some}
use Rattle.join_spec.specs.Query.{Query}
use Rattle.join_index.specs.Grouping.{key_at}
use Rattle.join_index.specs.declared.Layout.{Layout}
use Rattle.join_index.specs.Ranges.{lead}
use Rattle.join_nodes.specs.Visiting.{Framed, ChildrenAt, NodeVisited, ChildrenVisited}
use Rattle.kept_rows.specs.declared.Progress.{Progress}
use Rattle.words.specs.declared.Part.{Part}
use Rattle.join_nodes.specs.declared.WalkSettings.{WalkSettings}
use Rattle.join_nodes.proofs.FrameLaws.{index_framed, range_framed}
use Rattle.join_nodes.specs.blocks.Blocks.{MergedEnd, Settles}
use Rattle.join_nodes.specs.declared.blocks.Settled.{Settled}
use Rattle.join_nodes.specs.enter.Entering.{NodeEntered}
use Rattle.join_nodes.specs.declared.enter.Entered.{Entered}
use Rattle.join_nodes.proofs.enter.NodeSteps.{Onward, onward_going, onward_kept}
use Rattle.join_nodes.proofs.enter.NodeChildren.{all_merged, node_children, children_visited}

-- the visit of the node is over
pub entered_over : {lay : Layout} {st : WalkSettings} {q : Query} {path w w' : List ℕ} {d lo hi : ℕ} {p : Progress} {r : Entered}
    → r.mid ≡ hi → NodeVisited lay st q path w w' d lo hi p.tally (Some r.at)
    → NodeEntered lay st q path w w' d lo hi p (Some r)
entered_over {lay} {st} {q} {path} {w} {w'} {d} {lo} {hi} {p} {r} end visited =
    record {
      over = λ on is past.
          subst (λ (s : Entered). NodeVisited lay st q path w w' d lo hi p.tally (Some s.at)) (same_Some r on is) visited;
      spent = λ none. absurd (none-some r (sym none));
      kids = λ on is more. absurd (omega (arith, end, more, ap (λ (s : Entered). s.mid) (same_Some r on is)));
      rest = λ on is more w'' one done. absurd (omega (arith, end, more, ap (λ (s : Entered). s.mid) (same_Some r on is)));
    }

-- or the budget is spent
pub entered_spent : {lay : Layout} {st : WalkSettings} {q : Query} {path w w' : List ℕ} {d lo hi : ℕ} {p : Progress}
    → NodeVisited lay st q path w w' d lo hi p.tally None → NodeEntered lay st q path w w' d lo hi p None
entered_spent visited =
    record {
      over = λ on is past. absurd (none-some on is);
      spent = λ none. visited;
      kids = λ on is more. absurd (none-some on is);
      rest = λ on is more w'' one done. absurd (none-some on is);
    }

-- where left sets end stays while only rows change
end_framed : {lay : Layout} {w w' : List ℕ} {d lo hi mid : ℕ} → Framed lay.row_starts w w' → MergedEnd lay w d lo hi mid
    → MergedEnd lay w' d lo hi mid
end_framed {lay} {w} {w'} {d} {lo} {hi} framed end =
    record {
      low = end.low;
      high = end.high;
      maximal = λ q there.
          let low = there.index.ground.slots_below in
          end.maximal q (record { index = index_framed there.index back low; some = there.some; within = there.within })
          ∙ ap (λ (l : List ℕ). lo + lead (λ k. eqb (key_at q d k) 0) l) (range_framed there.index back low lo hi there.within);
    }
  where
    back : Framed lay.row_starts w' w
    back = record { size = sym framed.size; frame = sym framed.frame }

-- or its children are left
pub entered-settled : {lay : Layout} {st : WalkSettings} {q : Query} {path w w' w'' : List ℕ} {d lo hi from to : ℕ} {p : Progress}
    {part : Part} {s : Settled} → Onward lay st q path w w' d lo hi from to p part p.top → d < st.limit
    → Settles lay st w' d lo hi part.«from» part.to p w'' s
    → NodeEntered lay st q path w w'' d lo hi p
    (Some (record { at = s.at; mid = s.mid; «from» = part.«from»; to = part.to }))
entered-settled {lay} {st} {q} {path} {w} {w'' = w₂} {d} {lo} {hi} {p = p} {part} {s} so deeper settles =
    let after = onward_kept so settles.framed (settles.rows q path (onward_going so)) in
    let end = end_framed settles.framed settles.end in
    let here : Entered = record { at = s.at; mid = s.mid; «from» = part.«from»; to = part.to } in
    let is_on : (on : Entered) → Some here ≡ Some on → here ≡ on = λ on is. same_Some here on is in
    record {
      over = λ on is.
          subst (λ (e : Entered). hi ≤ e.mid → NodeVisited lay st q path w w₂ d lo hi p.tally (Some e.at)) (is_on on is)
          (λ past. all_merged after deeper end settles.merged past);
      spent = λ none. absurd (none-some here (sym none));
      kids = λ on is.
          subst (λ (e : Entered). e.mid < hi → ChildrenAt lay st q path w₂ d e.mid hi e.«from» e.to e.at) (is_on on is)
          (λ more. node_children after deeper end settles.merged more);
      rest = λ on is.
          subst (λ (e : Entered). e.mid < hi → (w' : List ℕ) (one : Option Progress)
          → ChildrenVisited lay st q path w₂ w' d e.mid hi e.at.tally one
          → NodeVisited lay st q path w w' d lo hi p.tally one) (is_on on is)
          (λ more w' one done. children_visited after deeper end settles.merged done);
    }
