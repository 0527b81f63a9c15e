-- `tag_scan::totals::is_over` meets its contract.
use Rattle.tag_scan.proofs.totals.is_over.Goals as goal

pub returns-in-Left : goal.returns-in-Left
returns-in-Left c =
    rw c.in-Left.is c.is_past.ensures

pub returns-in-Right : goal.returns-in-Right
returns-in-Right c =
    rw c.in-Right.is c.is_past-in-Right.ensures
