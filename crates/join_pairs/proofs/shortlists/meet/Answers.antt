-- `join_pairs::shortlists::meet` meets its contract: all candidates hold the pivot; any other rank is met by its inverted list.
use Rattle.join_index.proofs.Places.{places_below}
use Rattle.join_pairs.proofs.shortlists.Inverted.{list_rising, list_below}
use Rattle.join_pairs.proofs.shortlists.Meeting.{met_same, met_apart, met_other}
use Rattle.join_pairs.proofs.shortlists.meet.Goals as goal

pub returns-then-r-pivot : goal.returns-then-r-pivot
returns-then-r-pivot c =
    record {
      met = met_same c.requires.some_query.holds c.if-r-pivot.true;
      clear = c.requires.clear_2;
    }

pub intersect-end-requires : goal.intersect-end-requires
intersect-end-requires c =
    let there = c.requires.some_query.holds in
    record {
      rising = record { within = there.places.within; rise = there.rise };
      rising_2 = list_rising c.list_of-list.ensures there.rank;
      apart = met_apart there c.list_of-list.ensures c.word_at.ensures;
      below = places_below there.places there.order;
      below_2 = list_below c.list_of-list.ensures there.rank;
      clear_2 = c.requires.clear_2;
    }

pub returns : goal.returns
returns c =
    record {
      met = met_other c.requires.some_query.holds c.list_of-list.ensures c.word_at.ensures c.intersect-end.ensures.shared;
      clear = c.intersect-end.ensures.clear;
    }
