-- `pool_scan::union::add_both` meets its contract: the tags of the first file's record are known, so that there is room for the second's.
use Rattle.std.proofs.Common.{ℕ, ◌<◌, get_or, refl}
use Rattle.tag_file.specs.Reading.{tags_at}
use Rattle.tag_file.proofs.RecordLaws.{read_count}
use Rattle.pool_scan.proofs.union.Uniting.{next_some, next_room, both_few, taken_both, known_read}
use Rattle.pool_scan.proofs.union.add_both.Goals as goal
use Rattle.pool_scan.proofs.union.add_both.Goals.{After-add_first-before}

bytes : (f : After-add_first-before) (i : ℕ) → get_or f.args.first.now i 0 < 256
bytes f i = (f.type_inv.first i).fits

pub add_beside-both-requires : goal.add_beside-both-requires
add_beside-both-requires c =
    let a = c.args in
    let own = c.add_first-before.ensures c.requires.known_record_at.count c.requires.known_record_at.start c.requires.known_record_at.there in
    let few = read_count a.first.now a.at c.requires.known_record_at.there.read (bytes (goal.at.add_beside-both-requires c).After-add_first-before) in
    record {
      some_adding = next_some c.requires.index_ready own few c.requires.known_record_at.known;
      room_to_add = next_room c.requires.index_ready own few c.requires.known_record_at.known a.second.now a.start a.count c.requires.tags_inside.inside c.requires.tags_inside.few;
    }

pub returns : goal.returns
returns c =
    let a = c.args in
    let first = a.first.now in
    let here = c.add_first-before.ensures c.requires.known_record_at.count c.requires.known_record_at.start c.requires.known_record_at.there in
    record {
      taken = λ count start there.
          let own = c.add_first-before.ensures count start there in
          taken_both c.requires.index_ready own (read_count first a.at there.read (bytes (goal.at.returns c).After-add_first-before)) (known_read c.requires.known_record_at there)
          (c.add_beside-both.ensures.by_index (tags_at count first start) own.adding) c.requires.tags_inside.few refl refl c.add_beside-both.ensures.own_value refl;
      told = refl;
      few = both_few c.requires.index_ready here (read_count first a.at c.requires.known_record_at.there.read (bytes (goal.at.returns c).After-add_first-before)) c.requires.known_record_at.known
          (c.add_beside-both.ensures.by_index (tags_at c.requires.known_record_at.count first c.requires.known_record_at.start) here.adding) c.requires.tags_inside.few;
    }
