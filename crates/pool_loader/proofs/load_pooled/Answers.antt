-- `pool_loader::load_pooled` meets its contract: by what goes on from the first file.
use Rattle.pool_loader.proofs.load_pooled.Goals as goal

pub pool_second-requires : goal.pool_second-requires
pool_second-requires c = c.scan-answer.ensures

-- each list is as long as it was: so says the call, of its parameters in their order
pub shape_of-tags : goal.shape_of-tags
shape_of-tags c = c.pool_second.auto.tags

pub shape_of-left_numbers : goal.shape_of-left_numbers
shape_of-left_numbers c = c.pool_second.auto.left_numbers

pub shape_of-left_ends : goal.shape_of-left_ends
shape_of-left_ends c = c.pool_second.auto.left_ends

pub shape_of-left_items : goal.shape_of-left_items
shape_of-left_items c = c.pool_second.auto.left_items

pub shape_of-right_numbers : goal.shape_of-right_numbers
shape_of-right_numbers c = c.pool_second.auto.right_numbers

pub shape_of-right_ends : goal.shape_of-right_ends
shape_of-right_ends c = c.pool_second.auto.right_ends

pub shape_of-right_items : goal.shape_of-right_items
shape_of-right_items c = c.pool_second.auto.right_items

pub returns : goal.returns
returns c = c.pool_second.ensures
