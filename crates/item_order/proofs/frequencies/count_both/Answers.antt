-- `item_order::frequencies::count_both` meets its contract: the left side from zeros, then the right side, by the laws of
-- proofs/Frequencies.antt.
use Rattle.item_order.proofs.frequencies.Frequencies.{can_count_left, can_count_right, both_counted}
use Rattle.item_order.proofs.frequencies.count_both.Goals as goal

pub count_side-requires : goal.count_side-requires
count_side-requires c = can_count_left c.requires

pub count_side-requires-2 : goal.count_side-requires-2
count_side-requires-2 c =
    can_count_right c.requires c.count_side.new.frequencies c.count_side.auto.frequencies c.count_side.ensures

pub returns : goal.returns
returns c =
    both_counted c.requires c.count_side.new.frequencies c.count_side.auto.frequencies c.count_side.ensures c.count_side-2.new.frequencies
    c.count_side-2.auto.frequencies c.count_side-2.ensures
