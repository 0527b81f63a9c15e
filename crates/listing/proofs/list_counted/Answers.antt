-- `listing::list_counted` meets its contract: the counts lie within the lists.
use mathlib.Core.Path.{sym, ◌∙◌}
use lib.Seq.{length-take-le}
use Rattle.listing.proofs.list_counted.Goals as goal

pub list_loaded-requires : goal.list_loaded-requires
list_loaded-requires c =
    record {
      numbered = record {
        lefts = length-take-le _ _ c.requires.left_ended ∙ sym (length-take-le _ _ c.requires.left_numbered);
        rights = length-take-le _ _ c.requires.right_ended ∙ sym (length-take-le _ _ c.requires.right_numbered);
        room = c.requires.room;
      };
      ranks_len = length-take-le _ _ c.requires.ranked;
    }
