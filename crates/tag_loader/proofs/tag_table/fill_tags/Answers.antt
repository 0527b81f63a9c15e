use mathlib.Core.Path.{◌≡◌, sym, ap, ◌∙◌}
use Prim.Native.Nat.{◌+◌, ◌<◌}
use native.Mathlib.Omega.{arith}
use lib.ListN.{get_or, drop}
use lib.Seq.{get_or-take, length-take-le}
use Rattle.lists.proofs.Writing.{writing_room, writing_step, writing_end, written_whole}
use Rattle.tag_file.specs.Format.{bytes_of, tag_bytes, tag_length}
use Rattle.tag_file.proofs.ItemCount.{length-bytes_of}
use Rattle.tag_index.specs.Index.{tag_of_id, table_of}
use Rattle.tag_index.proofs.Ids.{sorted_size, sorted_at}
use Rattle.tag_loader.proofs.tag_table.TableBytes.{table_next, table_end}
use Rattle.tag_loader.proofs.tag_table.fill_tags.Goals as goal

pub put_tag-at-requires : goal.put_tag-at-requires
put_tag-at-requires c =
    let a = c.args in
    let table = table_of a.index.now a.n in
    let i = c.loop-x.x-index in
    let next = table_next table i (omega (arith, sorted_size c.requires.sorted, c.loop-x-test.true)) in
    let room = writing_room c.loop-x.invariant (bytes_of tag_length (get_or table i 0)) (tag_bytes (drop (i + 1) table)) next in
    omega (arith, room, length-bytes_of tag_length (get_or table i 0))

pub loop-x-preserved : goal.loop-x-preserved
loop-x-preserved c =
    let a = c.args in
    let table = table_of a.index.now a.n in
    let i = c.loop-x.x-index in
    let inside : i < a.n = omega (arith, c.loop-x-test.true, length-take-le a.n a.index.now.ids (omega (arith, c.requires.sorted.listed.room))) in
    let next = table_next table i (omega (arith, sorted_size c.requires.sorted)) in
    let id : c.from-id.result ≡ get_or a.index.now.ids i 0 = c.from-id.ensures ∙ get_or-take a.n a.index.now.ids i 0 inside in
    let tag = ap (tag_of_id a.index.now) id ∙ sym (sorted_at c.requires.sorted i inside) in
    writing_step c.loop-x.invariant next (rw (ap (bytes_of tag_length) tag) at c.put_tag-at.ensures)

pub returns : goal.returns
returns c =
    let a = c.args in
    let table = table_of a.index.now a.n in
    let past = table_end table c.loop-x.x-index (omega (arith, sorted_size c.requires.sorted, c.loop-x-test.false, length-take-le a.n a.index.now.ids (omega (arith, c.requires.sorted.listed.room)))) in
    written_whole (writing_end c.loop-x.invariant past) (omega (arith, c.requires.ids_in_bounds))
