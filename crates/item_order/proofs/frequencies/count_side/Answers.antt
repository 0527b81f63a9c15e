-- `item_order::frequencies::count_side` meets its contract: a tally of the side's entries, by the laws of proofs/Frequencies.antt.
use Rattle.item_order.proofs.frequencies.Frequencies.{entries_long, can_tally_side, side_counted}
use Rattle.item_order.proofs.frequencies.count_side.Goals as goal

pub slice_bounds-tally-end : goal.slice_bounds-tally-end
slice_bounds-tally-end c = entries_long c.requires c.entries-n.ensures

pub tally-requires : goal.tally-requires
tally-requires c =
    can_tally_side c.requires c.entries-n.ensures

pub returns : goal.returns
returns c =
    side_counted c.requires c.entries-n.ensures c.tally.new.counts
    c.tally.ensures
