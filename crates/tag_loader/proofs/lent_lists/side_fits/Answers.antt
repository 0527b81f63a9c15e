-- `tag_loader::lent_lists::side_fits` meets its contract.
use borrow.Author.Tests.{le-leb, lt-leb}
use Rattle.tag_loader.proofs.lent_lists.side_fits.Goals as goal

pub returns-then-sets-room-2 : goal.returns-then-sets-room-2
returns-then-sets-room-2 c =
    let a = c.args in
    rw (le-leb a.sets a.room.numbers c.if-sets-room.true, le-leb a.sets a.room.ends c.if-sets-room-2.true)

pub returns-else-sets-room-2 : goal.returns-else-sets-room-2
returns-else-sets-room-2 c =
    let a = c.args in
    rw (le-leb a.sets a.room.numbers c.if-sets-room.true, lt-leb a.sets a.room.ends c.if-sets-room-2.false)

pub returns-else-sets-room : goal.returns-else-sets-room
returns-else-sets-room c =
    let a = c.args in
    rw (lt-leb a.sets a.room.numbers c.if-sets-room.false)
