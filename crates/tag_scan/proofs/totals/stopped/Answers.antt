-- `tag_scan::totals::stopped` meets its contract.
use Rattle.tag_scan.proofs.totals.stopped.Goals as goal

pub returns-in-Refused : goal.returns-in-Refused
returns-in-Refused c =
    rw c.in-Refused.is

pub returns-in-NoMore : goal.returns-in-NoMore
returns-in-NoMore c =
    rw c.in-NoMore.is

pub returns-in-Record : goal.returns-in-Record
returns-in-Record c =
    rw c.in-Record.is
