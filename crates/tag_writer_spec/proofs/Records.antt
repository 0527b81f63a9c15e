-- Laws of records as bytes: marks, the tags of a set one after the other, and the lengths.
use mathlib.Core.Path.{◌≡◌, refl}
use Prim.Native.Nat.{ℕ, ◌+◌, ◌*◌, ◌≤◌, ◌<◌}
use mathlib.Core.List.{List, [], ◌∷◌, ◌++◌}
use native.Mathlib.Numerals.{add-one}
use lib.ListN.{length, take, drop, get_or, length-map}
use lib.Seq.{drop-cons}
use Rattle.sets.specs.declared.Side.{Side}
use Rattle.sets.specs.declared.Side.TheVariants.{Left, Right}
use Rattle.tag_file.specs.Format.{tag_length, head_length, tag_bytes, mark, record_head}
use Rattle.tag_writer_spec.specs.Writer.{item_tag, item_tags}
use Rattle.tag_file.proofs.Bytes.{bytes_of-tag_at}

pub mark_bytes : (side : Side) → mark side ≡ get_or (mark side) 0 0 ∷ get_or (mark side) 1 0 ∷ []
mark_bytes Left = refl
mark_bytes Right = refl

pub length_head : (side : Side) (number count : ℕ) → length (record_head side number count) ≡ head_length
length_head Left number count = refl
length_head Right number count = refl

pub length-item_tags : (tags set : List ℕ) → length (item_tags tags set) ≡ length set
length-item_tags tags set = length-map set (item_tag tags)

-- the tags of the items from a place on: the first one's bytes in the table, then the others
pub tags_run : (tags set : List ℕ) (i : ℕ) → i < length set
    → tag_length * get_or set i 0 + tag_length ≤ length tags → ((k : ℕ) → get_or tags k 0 < 256)
    → tag_bytes (item_tags tags (drop i set))
    ≡ take tag_length (drop (tag_length * get_or set i 0) tags) ++ tag_bytes (item_tags tags (drop (i + 1) set))
unfolding tag_bytes
tags_run tags set i more known low =
    rw (drop-cons set i 0 more, add-one i, bytes_of-tag_at tags (tag_length * get_or set i 0) known low)
