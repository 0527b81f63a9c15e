-- `settle` meets its contract.
use Prim.Native.Nat.{◌-◌}
use native.Mathlib.Omega.{arith}
use Rattle.join_nodes.proofs.Asked.{some-query}
use Rattle.join_nodes.proofs.blocks.GoingLaws.{going_range, going_room}
use Rattle.join_nodes.proofs.blocks.NodeRows.{merged_list, settled}
use Rattle.join_nodes.proofs.blocks.settle.Goals as goal

pub merged_end-mid-requires : goal.merged_end-mid-requires
merged_end-mid-requires c =
    some-query c.requires.some_path (λ q path going. going_range going c.requires.lo_lt_hi)

pub pair_ended-at-requires : goal.pair_ended-at-requires
pair_ended-at-requires c =
    record {
      some_query = some-query c.requires.some_path (λ q path going. merged_list going c.requires.lo_lt_hi c.merged_end-mid.ensures);
      lo_le_hi = c.merged_end-mid.ensures.low;
      is_by_path_bound = going_room c.requires.some_path.holds (c.merged_end-mid.result - c.args.node.now.lo) (omega (arith, c.merged_end-mid.ensures.high));
    }

pub returns : goal.returns
returns c =
    settled c.requires.lo_lt_hi c.merged_end-mid.ensures c.pair_ended-at.ensures
