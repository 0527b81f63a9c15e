-- `pool_scan::union::add_alone` meets its contract.
use Rattle.std.proofs.Common.{[], refl}
use Rattle.pool_scan.proofs.union.Uniting.{start_adding, start_some, start_room, taken_alone}
use Rattle.pool_scan.proofs.union.add_alone.Goals as goal

pub add_tags-added-requires : goal.add_tags-added-requires
add_tags-added-requires c =
    let a = c.args in
    record {
      some_adding = start_some c.requires.index_ready refl;
      room_to_add = start_room c.requires.index_ready a.second.now a.start a.count c.requires.tags_inside.inside c.requires.tags_inside.few;
    }

pub returns : goal.returns
returns c =
    record {
      taken = taken_alone c.requires.index_ready (c.add_tags-added.ensures [] (start_adding c.requires.index_ready refl)) c.requires.tags_inside.few refl refl refl refl;
      told = refl;
    }
