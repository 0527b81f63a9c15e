-- `listing::list_short` meets its contract: what was loaded lies within the lists and is what the file's records fill; and the load
-- is refused for a record at fault alone.
use mathlib.Core.Path.{sym}
use native.Mathlib.Omega.{arith}
use Rattle.tag_file.specs.Loading.{Lists, lists_of}
use Rattle.join_text.proofs.Texts.{put_fills, fills_same}
use Rattle.listing_spec.proofs.LoadRoom.{ProgramLists}
use Rattle.listing_spec.proofs.LoadTexts.{loaded_text, loaded_within, refused_load}
use Rattle.listing.proofs.list_short.Goals as goal
use Rattle.listing.proofs.list_short.Goals.{After-load-answer}

abbrev lent : After-load-answer → Lists
lent p =
    lists_of p.filled-tags.result p.filled-left_numbers.result p.filled-left_ends.result
    p.filled-left_items.result p.filled-right_numbers.result p.filled-right_ends.result
    p.filled-right_items.result

-- and after it
abbrev got : After-load-answer → Lists
got p =
    let last = p.load-answer.new in
    lists_of last.tags last.left_numbers last.left_ends last.left_items last.right_numbers last.right_ends
    last.right_items

program_lists : (p : After-load-answer) → ProgramLists (lent p)
program_lists p =
    record {
      tags = sym p.filled-tags.ensures;
      left_numbers = sym p.filled-left_numbers.ensures;
      left_ends = sym p.filled-left_ends.ensures;
      left_items = sym p.filled-left_items.ensures;
      right_numbers = sym p.filled-right_numbers.ensures;
      right_ends = sym p.filled-right_ends.ensures;
      right_items = sym p.filled-right_items.ensures;
    }

pub list_counted-requires : goal.list_counted-requires
list_counted-requires c =
    loaded_within c.args.file.now {lent = lent (goal.at.list_counted-requires c).After-load-answer} {got = got (goal.at.list_counted-requires c).After-load-answer} c.load-answer.ensures c.in-Ok.is _ _
    (omega (arith, c.filled-ranks.ensures)) c.requires.1
    c.load-answer.auto.left_numbers c.load-answer.auto.left_ends c.load-answer.auto.left_items
    c.load-answer.auto.right_numbers c.load-answer.auto.right_ends c.load-answer.auto.right_items

pub returns-in-Ok : goal.returns-in-Ok
returns-in-Ok c =
    fills_same (loaded_text c.args.file.now {lent = lent (goal.at.returns-in-Ok c).After-load-answer} {got = got (goal.at.returns-in-Ok c).After-load-answer} c.load-answer.ensures c.in-Ok.is)
    c.list_counted.ensures

pub returns-in-Err : goal.returns-in-Err
returns-in-Err c =
    fills_same
    (refused_load c.args.file.now {lent = lent (goal.at.returns-in-Err c).After-load-answer} {got = got (goal.at.returns-in-Err c).After-load-answer} c.load-answer.ensures c.in-Err.is (program_lists (goal.at.returns-in-Err c).After-load-answer) c.requires.0)
    (put_fills c.put_refusal.ensures.put (omega (arith, c.put_refusal.ensures.upper_bound, c.requires.1)))
