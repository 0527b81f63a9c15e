-- `kept_rows::keep_list` meets its contract: where the copy fits it is the row of each of the left sets.
use native.Mathlib.Omega.{arith}
use Rattle.kept_rows.proofs.Sharing.{list_same, copy_room, copy_shared, list_kept}
use Rattle.kept_rows.proofs.keep_list.Goals as goal

pub returns-then-node : goal.returns-then-node
returns-then-node c = list_same

pub returns-then-lay-top : goal.returns-then-lay-top
returns-then-lay-top c = list_same

pub copy_words-end-requires : goal.copy_words-end-requires
copy_words-end-requires c =
    copy_room c.requires.holds (omega (arith, c.if-lay-top.false))

pub share_row-requires : goal.share_row-requires
share_row-requires c =
    record {
      query = c.requires.query;
      holds = copy_shared c.copy_words-end.ensures c.requires.holds (omega (arith, c.if-lay-top.false));
    }

pub returns : goal.returns
returns c =
    list_kept c.copy_words-end.ensures c.requires (omega (arith, c.if-lay-top.false)) c.share_row.ensures
