-- `tag_loader::fill_lists` meets its contract.
use Prim.Native.Nat.{ℕ}
use lib.ListN.{length-replicate}
use Rattle.tag_index.specs.Index.{index_room}
use Rattle.tag_loader.proofs.Rooms.{sorted_here, tags_room, tags_filled, left_ready, right_ready, ends_filled}
use Rattle.tag_loader.proofs.Rooms.{items_filled}
use Rattle.sets.specs.declared.Side.TheVariants.{Left, Right}
use Rattle.tag_loader.proofs.fill_lists.Goals as goal

pub rank_ids-requires : goal.rank_ids-requires
rank_ids-requires c =
    record {
      ids_listed = (sorted_here c.requires).listed;
      ranks_len = length-replicate {A = ℕ} index_room 0;
    }

pub fill_tags-requires : goal.fill_tags-requires
fill_tags-requires c =
    record {
      sorted = sorted_here c.requires;
      ids_in_bounds = tags_room c.requires;
    }

pub fill_side-requires : goal.fill_side-requires
fill_side-requires c =
    left_ready c.requires c.rank_ids.ensures

pub fill_side-requires-2 : goal.fill_side-requires-2
fill_side-requires-2 c =
    right_ready c.requires c.rank_ids.ensures

-- each list is as long as it was: so says the call, of its parameters in their order
pub shape_of-tags : goal.shape_of-tags
shape_of-tags c = c.fill_tags.auto.tags

pub shape_of-left_numbers : goal.shape_of-left_numbers
shape_of-left_numbers c = c.fill_side.auto.numbers

pub shape_of-left_ends : goal.shape_of-left_ends
shape_of-left_ends c = c.fill_side.auto.ends

pub shape_of-left_items : goal.shape_of-left_items
shape_of-left_items c = c.fill_side.auto.items

pub shape_of-right_numbers : goal.shape_of-right_numbers
shape_of-right_numbers c = c.fill_side-2.auto.numbers

pub shape_of-right_ends : goal.shape_of-right_ends
shape_of-right_ends c = c.fill_side-2.auto.ends

pub shape_of-right_items : goal.shape_of-right_items
shape_of-right_items c = c.fill_side-2.auto.items

pub returns : goal.returns
returns c =
    record {
      tags_filled = tags_filled c.requires c.args.tags.now c.fill_tags.ensures;
      left_numbers_filled = c.fill_side.ensures.numbers;
      left_ends_filled = ends_filled c.requires Left c.args.left_ends.now c.fill_side.ensures.ends;
      left_items_filled = items_filled c.requires Left c.args.left_items.now c.fill_side.ensures.items;
      right_numbers_filled = c.fill_side-2.ensures.numbers;
      right_ends_filled = ends_filled c.requires Right c.args.right_ends.now c.fill_side-2.ensures.ends;
      right_items_filled = items_filled c.requires Right c.args.right_items.now c.fill_side-2.ensures.items;
    }
