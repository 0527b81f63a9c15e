-- `tag_scan::used_numbers::key_of` meets its contract.
use Rattle.tag_scan.proofs.used_numbers.key_of.Goals as goal

pub returns-in-Right : goal.returns-in-Right
returns-in-Right c =
    rw c.in-Right.is
