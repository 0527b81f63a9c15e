-- `tag_loader::tag_table::put_tag` meets its contract: the head's bytes, then the tail's.
use mathlib.Core.Path.{◌≡◌, ap, ◌∙◌}
use Prim.Native.Nat.{◌+◌}
use native.Mathlib.Omega.{arith}
use lib.ListN.{length}
use lib.Seq.{length-sets}
use Rattle.lists.proofs.Writing.{put_append}
use Rattle.tag_file.specs.Format.{bytes_of}
use Rattle.tag_file.proofs.ItemCount.{length-bytes_of}
use Rattle.tag_loader.proofs.tag_table.TableBytes.{head_bytes, tail_bytes, put_part, tag_parts}
use Rattle.tag_loader.proofs.tag_table.put_tag.Goals as goal

pub returns : goal.returns
returns c =
    let a = c.args in
    let head : c.copy_from_slice.new.self ≡ bytes_of 8 a.head = c.copy_from_slice.ensures.after ∙ c.to_be_bytes.ensures ∙ head_bytes a.head in
    let tail : c.copy_from_slice-2.new.self ≡ bytes_of 4 a.tail = c.copy_from_slice-2.ensures.after ∙ c.to_be_bytes-2.ensures ∙ tail_bytes a.tail in
    let first = put_part a.tags.now (bytes_of 8 a.head) a.at 8 (length-bytes_of 8 a.head) (omega (arith, c.requires)) in
    let same = ap length first.written ∙ length-sets a.tags.now a.at (bytes_of 8 a.head) in
    rw (head, tail, tag_parts a.head a.tail c.ranges.tail.fits)
    (put_append first (put_part _ (bytes_of 4 a.tail) (a.at + 8) 4 (length-bytes_of 4 a.tail) (omega (arith, c.requires, same))))
