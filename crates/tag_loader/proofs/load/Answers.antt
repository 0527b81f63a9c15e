-- `tag_loader::load` meets its contract: by the three ends of `Answers`.
use Rattle.tag_file.specs.Loading.{Lists, lists_of}
use Rattle.tag_loader.proofs.Answers.{call_fault, sound_limited, call_short, room_fillable, call_loaded}
use Rattle.tag_loader.proofs.load.Goals as goal
use Rattle.tag_loader.proofs.load.Goals.{After-scan-answer}

-- the lists that were lent
abbrev lent : After-scan-answer → Lists
lent at-scan =
    let a = at-scan.args in
    lists_of a.tags.now a.left_numbers.now a.left_ends.now a.left_items.now
    a.right_numbers.now a.right_ends.now a.right_items.now

-- each list is as long as it was: so says the call, of its parameters in their order
pub shape_of-tags-in_default : goal.shape_of-tags-in_default
shape_of-tags-in_default c = c.clear_lists.auto.tags

pub shape_of-left_numbers-in_default : goal.shape_of-left_numbers-in_default
shape_of-left_numbers-in_default c = c.clear_lists.auto.left_numbers

pub shape_of-left_ends-in_default : goal.shape_of-left_ends-in_default
shape_of-left_ends-in_default c = c.clear_lists.auto.left_ends

pub shape_of-left_items-in_default : goal.shape_of-left_items-in_default
shape_of-left_items-in_default c = c.clear_lists.auto.left_items

pub shape_of-right_numbers-in_default : goal.shape_of-right_numbers-in_default
shape_of-right_numbers-in_default c = c.clear_lists.auto.right_numbers

pub shape_of-right_ends-in_default : goal.shape_of-right_ends-in_default
shape_of-right_ends-in_default c = c.clear_lists.auto.right_ends

pub shape_of-right_items-in_default : goal.shape_of-right_items-in_default
shape_of-right_items-in_default c = c.clear_lists.auto.right_items

pub returns-in_default : goal.returns-in_default
returns-in_default c =
    call_fault {before = lent (goal.at.returns-in_default c).After-scan-answer} c.in_default.field-0 c.scan-answer.ensures c.in_default.is c.clear_lists.ensures

pub has_room-requires : goal.has_room-requires
has_room-requires c =
    sound_limited c.scan-answer.ensures c.in-Ok.is

pub shape_of-tags-then-not-has_room : goal.shape_of-tags-then-not-has_room
shape_of-tags-then-not-has_room c = c.clear_lists-then-not-has_room.auto.tags

pub shape_of-left_numbers-then-not-has_room : goal.shape_of-left_numbers-then-not-has_room
shape_of-left_numbers-then-not-has_room c = c.clear_lists-then-not-has_room.auto.left_numbers

pub shape_of-left_ends-then-not-has_room : goal.shape_of-left_ends-then-not-has_room
shape_of-left_ends-then-not-has_room c = c.clear_lists-then-not-has_room.auto.left_ends

pub shape_of-left_items-then-not-has_room : goal.shape_of-left_items-then-not-has_room
shape_of-left_items-then-not-has_room c = c.clear_lists-then-not-has_room.auto.left_items

pub shape_of-right_numbers-then-not-has_room : goal.shape_of-right_numbers-then-not-has_room
shape_of-right_numbers-then-not-has_room c = c.clear_lists-then-not-has_room.auto.right_numbers

pub shape_of-right_ends-then-not-has_room : goal.shape_of-right_ends-then-not-has_room
shape_of-right_ends-then-not-has_room c = c.clear_lists-then-not-has_room.auto.right_ends

pub shape_of-right_items-then-not-has_room : goal.shape_of-right_items-then-not-has_room
shape_of-right_items-then-not-has_room c = c.clear_lists-then-not-has_room.auto.right_items

pub returns-then-not-has_room : goal.returns-then-not-has_room
returns-then-not-has_room c =
    call_short c.scan-answer.ensures c.in-Ok.is (lent (goal.at.returns-then-not-has_room c).After-scan-answer)
    c.has_room.ensures c.if-not-has_room.true-raw
    c.clear_lists-then-not-has_room.ensures

pub fill_lists-requires : goal.fill_lists-requires
fill_lists-requires c =
    room_fillable c.scan-answer.ensures c.in-Ok.is (lent (goal.at.fill_lists-requires c).After-scan-answer)
    c.has_room.ensures c.if-not-has_room.false-raw

pub shape_of-tags : goal.shape_of-tags
shape_of-tags c = c.fill_lists.auto.tags

pub shape_of-left_numbers : goal.shape_of-left_numbers
shape_of-left_numbers c = c.fill_lists.auto.left_numbers

pub shape_of-left_ends : goal.shape_of-left_ends
shape_of-left_ends c = c.fill_lists.auto.left_ends

pub shape_of-left_items : goal.shape_of-left_items
shape_of-left_items c = c.fill_lists.auto.left_items

pub shape_of-right_numbers : goal.shape_of-right_numbers
shape_of-right_numbers c = c.fill_lists.auto.right_numbers

pub shape_of-right_ends : goal.shape_of-right_ends
shape_of-right_ends c = c.fill_lists.auto.right_ends

pub shape_of-right_items : goal.shape_of-right_items
shape_of-right_items c = c.fill_lists.auto.right_items

pub returns : goal.returns
returns c =
    rw c.in-Ok.is
    (call_loaded c.scan-answer.ensures c.in-Ok.is (lent (goal.at.returns c).After-scan-answer)
    c.has_room.ensures c.if-not-has_room.false-raw
    c.fill_lists.ensures)
