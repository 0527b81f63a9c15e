-- `side_index::build_side` meets its contract: each step requires what the steps before it leave.
use Rattle.side_index.proofs.SideSorts.{ranks_room, summable, sets_room, lists_room, side_built}
use Rattle.side_index.proofs.build_side.Goals as goal

pub count_ranks-requires : goal.count_ranks-requires
count_ranks-requires c =
    ranks_room c.requires c.clear.ensures

pub sum_words-requires : goal.sum_words-requires
sum_words-requires c =
    let whole = summable c.requires c.clear.ensures c.count_ranks.ensures in record {
      within = whole.0;
      fits = whole.1;
    }

pub place_sets-requires : goal.place_sets-requires
place_sets-requires c =
    sets_room c.requires c.clear.ensures c.count_ranks.ensures c.sum_words.ensures

pub turn_lists-requires : goal.turn_lists-requires
turn_lists-requires c =
    lists_room c.requires c.clear.ensures c.count_ranks.ensures c.sum_words.ensures
    c.place_sets.ensures c.copy_starts.ensures

pub returns : goal.returns
returns c =
    side_built c.requires c.clear.ensures c.count_ranks.ensures c.sum_words.ensures
    c.place_sets.ensures c.copy_starts.ensures c.turn_lists.ensures
