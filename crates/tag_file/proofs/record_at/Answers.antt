-- `tag_file::record_at` meets its contract.
use mathlib.Core.Path.{sym}
use native.Mathlib.Omega.{arith}
use Rattle.tag_file.proofs.ReadLaws.{whole_record, cut_record}
use Rattle.tag_file.proofs.record_at.Goals as goal

pub returns-then-count-room : goal.returns-then-count-room
returns-then-count-room c =
    let a = c.args in
    rw (c.from-high.ensures, c.from-low.ensures, c.from-count.ensures)
    (sym
    (whole_record a.file.now a.at a.side c.requires (omega (arith, c.from-count.ensures, c.if-count-room.true))))

pub returns-else-count-room : goal.returns-else-count-room
returns-else-count-room c =
    let a = c.args in
    sym
    (cut_record a.file.now a.at a.side c.requires (omega (arith, c.from-count.ensures, c.if-count-room.false)))
