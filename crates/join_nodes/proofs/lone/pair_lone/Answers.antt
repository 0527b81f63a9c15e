-- `pair_lone` meets its contract: the rows of checks from no counters on say how many right sets contain the left set, and where its
-- row ends says so too; they are counted by path.
use native.Mathlib.Omega.{arith}
use Rattle.lists.specs.Lists.{sum}
use Rattle.join_nodes.proofs.Asked.{some-query}
use Rattle.join_nodes.proofs.blocks.GoingLaws.{going_few}
use Rattle.join_nodes.proofs.lone.LoneSets.{lone_record, lone_room, lone_kept}
use Rattle.join_nodes.proofs.lone.pair_lone.Goals as goal

pub record_row-row-requires : goal.record_row-row-requires
unfolding sum
record_row-row-requires c =
    let going = c.requires.some_path.holds in
    record {
      some_query = some-query c.requires.some_path (λ q path going. lone_record going c.requires.lone c.word_at-k.ensures);
      from_bound = omega (arith, going_few going, going.index.ground.right_few);
    }

pub overflow_sub-row : goal.overflow_sub-row
overflow_sub-row c =
    omega (
      arith,
      c.record_row-row.ensures.past c.requires.some_path.query (lone_record c.requires.some_path.holds c.requires.lone c.word_at-k.ensures),
    )

pub add_paths-paired-requires : goal.add_paths-paired-requires
add_paths-paired-requires c =
    lone_room c.requires.some_path.holds c.requires.lone c.word_at-k.ensures c.record_row-row.ensures

pub returns : goal.returns
returns c =
    λ q path going.
    lone_kept going c.requires.lone c.word_at-k.ensures c.record_row-row.ensures c.add_paths-paired.ensures
