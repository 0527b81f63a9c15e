-- `enter_node` meets its contract: what each of the four ends shows is in EmptyNodes and NodeEntries, in LimitLaws of blocks and in
-- LoneSets of lone.
use Prim.Native.Nat.{ℕ, ◌-◌}
use mathlib.Core.Path.{refl, sym, subst}
use mathlib.Core.List.{List}
use native.Mathlib.Omega.{arith}
use Rattle.std.specs.Prelude.{Some}
use Rattle.join_spec.specs.Query.{Query}
use Rattle.join_nodes.specs.Visiting.{RangeVisited}
use Rattle.join_nodes.proofs.Asked.{some_path, some-query}
use Rattle.join_nodes.proofs.NodeFacts.{node_path, last_read}
use Rattle.join_nodes.specs.blocks.Blocks.{Going}
use Rattle.join_nodes.proofs.blocks.GoingLaws.{going_range}
use Rattle.join_nodes.proofs.blocks.NodeRows.{empty_list}
use Rattle.join_nodes.specs.lone.Lone.{Lone}
use Rattle.join_nodes.specs.enter.Entering.{GoesOn}
use Rattle.join_nodes.proofs.enter.NodeSteps.{Onward, onward_read, onward_going, node_limit, limit_visited}
use Rattle.join_nodes.proofs.enter.EmptyNodes.{empty_kept}
use Rattle.join_nodes.proofs.enter.NodeEntries.{entered_over, entered_spent, entered-settled}
use Rattle.join_nodes.proofs.enter.enter_node.Goals as goal
use Rattle.join_nodes.proofs.enter.enter_node.Goals.{After-narrow-part, Start}

pub overflow_sub-node : goal.overflow_sub-node
overflow_sub-node c = omega (arith, c.requires.some_path.holds.node.at.candidates.deep)

pub rank_on-rank-requires : goal.rank_on-rank-requires
rank_on-rank-requires c =
    some_path c.requires.some_path
    (λ q path going.
    node_path going.node.at (c.args.node.now.depth - 1) (omega (arith, going.node.at.candidates.deep)))

pub narrow-part-requires : goal.narrow-part-requires
narrow-part-requires c =
    record {
      some_path = some_path c.requires.some_path
          (λ q path going. (going.node.at.candidates, last_read going.node.at c.rank_on-rank.ensures));
      clear_2 = c.requires.clear_2;
    }

abbrev Begun : Start → Query → List ℕ → Type 0
Begun s q path =
    let a = s.args in
    GoesOn a.lay.now a.st.now q path a.work.now a.node.now.depth a.node.now.lo a.node.now.hi a.node.now.from a.node.now.to a.p

onward : (c : After-narrow-part) (q : Query) (path : List ℕ) → Begun (goal.at.After-narrow-part c).Start q path
    → let a = c.args in
    Onward a.lay.now a.st.now q path a.work.now c.narrow-part.new.work a.node.now.depth a.node.now.lo a.node.now.hi a.node.now.from a.node.now.to a.p
    c.narrow-part.result a.p.top
onward c q path going = onward_read going.node going.on c.rank_on-rank.ensures c.narrow-part.ensures.narrowed

-- no candidate is left
pub keep_list-top-requires : goal.keep_list-top-requires
keep_list-top-requires c =
    some-query c.requires.some_path
    (λ q path going. empty_list (onward_going (onward (goal.at.keep_list-top-requires c).After-narrow-part q path going)) c.if-after.true)

pub returns-then-after : goal.returns-then-after
returns-then-after c =
    record {
      entered = λ q path going.
          let so = onward (goal.at.returns-then-after c).After-narrow-part q path going in
          entered_over refl (limit_visited so (empty_kept so c.if-after.true c.keep_list-top.ensures));
      clear = c.narrow-part.ensures.clear;
    }

-- the limit is reached
pub finish-requires : goal.finish-requires
finish-requires c =
    some_path c.requires.some_path (λ q path going. node_limit (onward (goal.at.finish-requires c).After-narrow-part q path going) (omega (arith, c.if-limit-after.true)))

pub returns-in_err-at : goal.returns-in_err-at
returns-in_err-at c =
    record {
      entered = λ q path going.
          let so = onward (goal.at.returns-in_err-at c).After-narrow-part q path going in
          rw c.from_residual.ensures
          (entered_spent (limit_visited so (c.in_err-at.ensures q path (node_limit so (omega (arith, c.if-limit-after.true))))));
      clear = c.narrow-part.ensures.clear;
    }

pub returns-then-limit-after : goal.returns-then-limit-after
returns-then-limit-after c =
    record {
      entered = λ q path going.
          let so = onward (goal.at.returns-then-limit-after c).After-narrow-part q path going in
          entered_over refl (limit_visited so (c.in_ok-at.ensures q path (node_limit so (omega (arith, c.if-limit-after.true)))));
      clear = c.narrow-part.ensures.clear;
    }

-- a lone left set
pub is_lone-requires : goal.is_lone-requires
is_lone-requires c =
    let so = onward (goal.at.is_lone-requires c).After-narrow-part c.requires.some_path.query c.requires.some_path.path c.requires.some_path.holds in
    record {
      some_query = some-query c.requires.some_path
          (λ q path going. going_range (onward_going (onward (goal.at.is_lone-requires c).After-narrow-part q path going)) going.node.at.some);
      from_le_to = so.rise;
      top_le_end = so.rows.high;
    }

pub pair_lone-paired-requires : goal.pair_lone-paired-requires
pair_lone-paired-requires c =
    let a = c.args in
    let p = c.narrow-part.result in
    let w = c.narrow-part.new.work in
    let lone = c.is_lone.ensures c.if-is_lone.true in
    record {
      some_path = some_path c.requires.some_path
          (λ q path going.
          subst (λ (n : ℕ). Going a.lay.now a.st.now q path w a.node.now.depth a.node.now.lo n p.from p.to a.p) lone.one
          (onward_going (onward (goal.at.pair_lone-paired-requires c).After-narrow-part q path going)));
      lone = subst (λ (n : ℕ). Lone a.lay.now a.st.now w a.node.now.lo n p.from p.to a.p.top) lone.one lone;
    }

pub returns-then-is_lone : goal.returns-then-is_lone
returns-then-is_lone c =
    let a = c.args in
    let p = c.narrow-part.result in
    let w = c.narrow-part.new.work in
    let lone = c.is_lone.ensures c.if-is_lone.true in
    record {
      entered = λ q path going.
          let so = onward (goal.at.returns-then-is_lone c).After-narrow-part q path going in
          entered_over refl
          (limit_visited so
          (subst
          (λ (n : ℕ). RangeVisited a.lay.now q a.st.now.budget a.lay.now.row_starts a.node.now.depth w c.pair_lone-paired.new.work a.node.now.lo n
          a.p.tally (Some c.pair_lone-paired.result))
          (sym lone.one)
          (c.pair_lone-paired.ensures q path
          (subst (λ (n : ℕ). Going a.lay.now a.st.now q path w a.node.now.depth a.node.now.lo n p.from p.to a.p) lone.one
          (onward_going so)))));
      clear = c.narrow-part.ensures.clear;
    }

-- its left sets that end here are paired, and the others go on
pub settle-settled-requires : goal.settle-settled-requires
settle-settled-requires c =
    record {
      some_path = some_path c.requires.some_path (λ q path going. onward_going (onward (goal.at.settle-settled-requires c).After-narrow-part q path going));
      lo_lt_hi = c.requires.some_path.holds.node.at.some;
    }

pub returns : goal.returns
returns c =
    record {
      entered = λ q path going. entered-settled (onward (goal.at.returns c).After-narrow-part q path going) c.if-limit-after.false c.settle-settled.ensures;
      clear = c.narrow-part.ensures.clear;
    }
