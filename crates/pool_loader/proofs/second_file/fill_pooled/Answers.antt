-- `pool_loader::second_file::fill_pooled` meets its contract.
use Prim.Native.Nat.{ℕ}
use lib.ListN.{length-replicate}
use Rattle.tag_index.specs.Index.{index_room}
use Rattle.pool_loader.proofs.second_file.Filling.{sorted_here, tags_room, tags_filled, left_ready, right_ready, left_numbers_filled}
use Rattle.pool_loader.proofs.second_file.Filling.{left_ends_filled, left_items_filled, right_ends_filled, right_items_filled}
use Rattle.pool_loader.proofs.second_file.fill_pooled.Goals as goal

pub rank_ids-requires : goal.rank_ids-requires
rank_ids-requires c =
    record {
      ids_listed = (sorted_here c.requires).listed;
      ranks_len = length-replicate {A = ℕ} index_room 0;
    }

pub fill_tags-requires : goal.fill_tags-requires
fill_tags-requires c = record {
  sorted = sorted_here c.requires;
  ids_in_bounds = tags_room c.requires;
}

pub fill_side-requires : goal.fill_side-requires
fill_side-requires c =
    left_ready c.requires c.rank_ids.ensures

pub fill_right-requires : goal.fill_right-requires
fill_right-requires c =
    right_ready c.requires c.rank_ids.ensures (λ i. (c.type_inv.first i).fits)

-- each list is as long as it was: so says the call, of its parameters in their order
pub shape_of-tags : goal.shape_of-tags
shape_of-tags c = c.fill_tags.auto.tags

pub shape_of-left_numbers : goal.shape_of-left_numbers
shape_of-left_numbers c = c.fill_side.auto.numbers

pub shape_of-left_ends : goal.shape_of-left_ends
shape_of-left_ends c = c.fill_side.auto.ends

pub shape_of-left_items : goal.shape_of-left_items
shape_of-left_items c = c.fill_side.auto.items

pub shape_of-right_numbers : goal.shape_of-right_numbers
shape_of-right_numbers c = c.fill_right.auto.numbers

pub shape_of-right_ends : goal.shape_of-right_ends
shape_of-right_ends c = c.fill_right.auto.ends

pub shape_of-right_items : goal.shape_of-right_items
shape_of-right_items c = c.fill_right.auto.items

pub returns : goal.returns
returns c =
    record {
      tags_filled = tags_filled c.requires c.args.tags.now c.fill_tags.ensures;
      left_numbers_filled = left_numbers_filled c.requires c.args.left_numbers.now c.fill_side.ensures.numbers;
      left_ends_filled = left_ends_filled c.requires c.args.left_ends.now c.fill_side.ensures.ends;
      left_items_filled = left_items_filled c.requires c.args.left_items.now c.fill_side.ensures.items;
      right_numbers_filled = c.fill_right.ensures.numbers;
      right_ends_filled = right_ends_filled c.requires c.args.right_ends.now c.fill_right.ensures.ends;
      right_items_filled = right_items_filled c.requires c.args.right_items.now c.fill_right.ensures.items;
    }
