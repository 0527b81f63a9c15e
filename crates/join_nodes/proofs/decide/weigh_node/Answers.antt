-- `weigh_node` meets its contract: the two ranks are the path's first and last, the last one's inverted list is counted, and
-- the lengths of the range and of the candidates are the rule's other two numbers.
use Prim.Native.Nat.{◌+◌, ◌-◌, ◌≤◌, ◌<◌}
use mathlib.Core.Path.{sym, ap, ◌∙◌}
use native.Mathlib.Omega.{arith}
use lib.ListN.{length}
use Rattle.join_spec.specs.declared.Rule.{Rule}
use Rattle.join_spec.specs.Node.{goes_on, last_of}
use Rattle.join_nodes.proofs.Asked.{some_path, some-query}
use Rattle.join_nodes.proofs.NodeFacts.{node_path, first_read, last_read, inverted_there, counted_few}
use Rattle.join_nodes.proofs.NodeFacts.{counted_goes, weighed_asks}
use Rattle.join_nodes.proofs.CandidateLaws.{inverted_read}
use Rattle.join_nodes.proofs.decide.weigh_node.Goals as goal
use Rattle.join_nodes.proofs.decide.weigh_node.Goals.{After-rank_on-rank, After-word_at-last}

pub rank_on-root-requires : goal.rank_on-root-requires
rank_on-root-requires c = some_path c.requires (λ q path node. node_path node 0 node.candidates.deep)

pub rank_on-rank-requires : goal.rank_on-rank-requires
rank_on-rank-requires c =
    some_path c.requires (λ q path node. node_path node (c.args.node.now.depth - 1) (omega (arith, node.candidates.deep)))

-- both words of the last rank's offsets lie in the work list
rank_low : (c : After-rank_on-rank)
    → let a = c.args in a.lay.offsets + c.rank_on-rank.result + 1 < length a.work.now
rank_low c =
    let node = c.requires.holds in
    let cands = node.candidates in
    omega (
      arith,
      last_read node c.rank_on-rank.ensures,
      cands.last,
      cands.index.ground.offsets_within,
      cands.index.room,
    )

pub overflow_add-offsets : goal.overflow_add-offsets
overflow_add-offsets c = omega (arith, rank_low (goal.at.overflow_add-offsets c).After-rank_on-rank, c.well_formed)

pub word_at-first-requires : goal.word_at-first-requires
word_at-first-requires c = omega (arith, rank_low (goal.at.word_at-first-requires c).After-rank_on-rank)

pub overflow_add-offsets-2 : goal.overflow_add-offsets-2
overflow_add-offsets-2 c = omega (arith, rank_low (goal.at.overflow_add-offsets-2 c).After-rank_on-rank, c.well_formed)

pub overflow_add-offsets-3 : goal.overflow_add-offsets-3
overflow_add-offsets-3 c = omega (arith, rank_low (goal.at.overflow_add-offsets-3 c).After-rank_on-rank, c.well_formed)

pub word_at-last-requires : goal.word_at-last-requires
word_at-last-requires c = omega (arith, rank_low (goal.at.word_at-last-requires c).After-rank_on-rank)

-- they bound a list that lies there too
list_low : (c : After-word_at-last)
    → let a = c.args in
    (c.word_at-first.result ≤ c.word_at-last.result) × (a.lay.index + c.word_at-last.result ≤ length a.work.now)
list_low c =
    let node = c.requires.holds in
    let cands = node.candidates in
    let held =
    inverted_read cands (last_read node c.rank_on-rank.ensures) c.word_at-first.ensures c.word_at-last.ensures in
    (omega (arith, held.rise), omega (arith, held.within, cands.index.room))

pub overflow_add-index : goal.overflow_add-index
overflow_add-index c = omega (arith, (list_low (goal.at.overflow_add-index c).After-word_at-last).0, (list_low (goal.at.overflow_add-index c).After-word_at-last).1, c.well_formed)

pub overflow_add-index-2 : goal.overflow_add-index-2
overflow_add-index-2 c = omega (arith, (list_low (goal.at.overflow_add-index-2 c).After-word_at-last).1, c.well_formed)

pub count_seen-t-requires : goal.count_seen-t-requires
count_seen-t-requires c =
    some-query c.requires (λ q path node.
    inverted_there (last_of path) c.word_at-first.result c.word_at-last.result node.candidates.index
    node.candidates.last
    (inverted_read node.candidates (last_read node c.rank_on-rank.ensures) c.word_at-first.ensures
    c.word_at-last.ensures))

pub overflow_cast-node : goal.overflow_cast-node
overflow_cast-node c =
    let node = c.requires.holds in
    omega (arith, node.candidates.few, node.candidates.index.ground.right_few)

pub overflow_cast-t : goal.overflow_cast-t
overflow_cast-t c =
    let node = c.requires.holds in
    let rank = last_read node c.rank_on-rank.ensures in
    let held = inverted_read node.candidates rank c.word_at-first.ensures c.word_at-last.ensures in
    let few = counted_few c.rank_on-root.result _ _ node held c.count_seen-t.ensures in
    omega (arith, few, node.candidates.index.ground.right_few)

pub weigh-requires : goal.weigh-requires
weigh-requires c =
    let node = c.requires.holds in
    let ground = node.candidates.index.ground in
    (omega (arith, node.candidates.few, ground.right_few), omega (arith, node.few, ground.left_few))

pub returns : goal.returns
returns c =
    let a = c.args in
    λ q path node weighed.
    let rank = last_read node c.rank_on-rank.ensures in
    let held = inverted_read node.candidates rank c.word_at-first.ensures c.word_at-last.ensures in
    c.weigh.ensures
    ∙ sym (counted_goes _ _ _ node held c.count_seen-t.ensures (weighed_asks q weighed) (first_read node c.rank_on-root.ensures)
    ∙ ap (λ (rule : Rule). goes_on rule (a.node.now.to - a.node.now.from) c.count_seen-t.result (a.node.now.hi - a.node.now.lo)) weighed)
