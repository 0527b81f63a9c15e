-- `pool_scan::union::add_first` meets its contract: where a record is at the place, its tags were added.
use Rattle.std.proofs.Common.{[], sym, ◌∙◌, arith}
use Rattle.tag_file.proofs.RecordLaws.{read_past, read_within, read_count}
use Rattle.pool_scan.proofs.union.Uniting.{start_adding, start_some, start_room, added_as, no_record_there, refused_there}
use Rattle.pool_scan.proofs.union.add_first.Goals as goal

pub add_tags-requires : goal.add_tags-requires
add_tags-requires c =
    let file = c.args.first.now in
    let at = c.args.at in
    let e = sym c.read_record-answer.ensures ∙ c.in-Record.is in
    record {
      some_adding = start_some c.requires.index_ready c.requires.seen_value;
      room_to_add = start_room c.requires.index_ready file _ _ (omega (arith, read_past file at e, read_within file at e))
          (read_count file at e (λ i. (c.type_inv.first i).fits));
    }

pub returns-in-Record : goal.returns-in-Record
returns-in-Record c =
    let e = sym c.read_record-answer.ensures ∙ c.in-Record.is in
    λ count start there. added_as (c.add_tags.ensures [] (start_adding c.requires.index_ready c.requires.seen_value)) e there

pub returns-in-NoMore : goal.returns-in-NoMore
returns-in-NoMore c =
    let e = sym c.read_record-answer.ensures ∙ c.in-NoMore.is in
    λ count start there. no_record_there e there

pub returns-in-Refused : goal.returns-in-Refused
returns-in-Refused c =
    let e = sym c.read_record-answer.ensures ∙ c.in-Refused.is in
    λ count start there. refused_there e there
