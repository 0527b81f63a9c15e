-- `tag_index::tag_items::rank_ids` meets its contract. The invariant: the first i ids of the order have their positions (`Ranking`).
use Rattle.tag_index.proofs.tag_items.Ranks.{Ranking}
use Rattle.tag_index.proofs.tag_items.rank_ids.Given as goal

abbrev pub invariant-loop-i : goal.invariant-loop-i
invariant-loop-i l = Ranking l.n l.ids l.ranks l.i
