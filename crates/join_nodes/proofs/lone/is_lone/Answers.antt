-- `is_lone` meets its contract: only under Merge can it answer yes, and then the left set has no key at the limit.
use Prim.Native.Nat.{ℕ, ◌≤◌}
use mathlib.Core.Path.{refl, sym, subst, ◌∙◌}
use native.Mathlib.Omega.{arith}
use borrow.Author.Tests.{eqb-true}
use lib.ListN.{length}
use Rattle.lists.proofs.Bools.{true-false}
use Rattle.join_index.specs.Grouping.{left_at}
use Rattle.join_index.proofs.Orders.{range_left}
use Rattle.join_nodes.proofs.lone.LoneSets.{key_within}
use Rattle.join_nodes.proofs.lone.is_lone.Goals as goal

pub returns-then-node-ne1 : goal.returns-then-node-ne1
returns-then-node-ne1 c = λ yes. true-false yes refl

pub returns-then-lay-top : goal.returns-then-lay-top
returns-then-lay-top c = λ yes. true-false yes refl

pub key_at-requires : goal.key_at-requires
key_at-requires c =
    record {
      query = c.requires.some_query.query;
      holds = range_left c.requires.some_query.holds c.args.node.now.lo c.requires.some_query.holds.some c.word_at-k.ensures;
    }

pub returns-in-Merge : goal.returns-in-Merge
returns-in-Merge c =
    λ yes.
    record {
      one = omega (arith, c.if-node-ne1.false, c.requires.some_query.holds.some);
      merge = c.in-Merge.is;
      short = λ q there.
          subst (λ (k : ℕ). length (left_at q k) ≤ c.args.st.limit) c.word_at-k.ensures.is
          (key_within q c.args.st.limit c.word_at-k.result
          (sym (c.key_at.ensures q (range_left there c.args.node.now.lo there.some c.word_at-k.ensures))
          ∙ eqb-true c.key_at.result 0 yes));
      room = omega (arith, c.if-lay-top.false, c.requires.top_le_end);
    }

pub returns-in-Check : goal.returns-in-Check
returns-in-Check c = λ yes. true-false yes refl

pub returns-in-Weighed : goal.returns-in-Weighed
returns-in-Weighed c = λ yes. true-false yes refl
