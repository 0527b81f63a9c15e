-- `merge_rows::ready_rows` meets its contract: the rows stay as they are while the words above them are cleared.
use Rattle.merge_rows.proofs.RowReads.{ground_ready}
use Rattle.merge_rows.proofs.ready_rows.Goals as goal

pub returns : goal.returns
returns c =
    ground_ready c.requires c.fill_rows.ensures c.fill_rows.auto.work
    (rw (c.len.ensures, c.len-2.ensures) at c.clear.ensures)
