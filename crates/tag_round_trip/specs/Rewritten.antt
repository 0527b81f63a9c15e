-- The records of a file that was written, and those that the writer makes of a loaded file. Document 01, "Tag file": the writer,
-- and the loader's lists handed to it.
use Rattle.std.specs.Prelude.{ℕ, List, [], ◌∷◌, ◌++◌, map}
use Rattle.sets.specs.Collections.{sets_of}
use Rattle.sets.specs.declared.Side.{Side}
use Rattle.sets.specs.declared.Side.TheVariants.{Left, Right}
use Rattle.tag_file.specs.Format.{record_bytes}
use Rattle.tag_file.specs.Records.{TagRecord, of_side, collapse}
use Rattle.tag_file.specs.Loading.{Lists}
use Rattle.tag_writer_spec.specs.Writer.{item_tags}

-- records one after the other, as bytes
unfoldable pub bytes_of_records : List TagRecord → List ℕ
bytes_of_records [] = []
bytes_of_records (r ∷ rs) = record_bytes r.side r.number r.tags ++ bytes_of_records rs

-- the records of a side, by place: one for each number with its set
unfoldable pub side_records : Side → List ℕ → List ℕ → List (List ℕ) → List TagRecord
side_records side tags [] sets = []
side_records side tags (number ∷ numbers) [] = []
side_records side tags (number ∷ numbers) (set ∷ sets) =
    record { side = side; number = number; tags = item_tags tags set } ∷ side_records side tags numbers sets

-- the records that the writer makes of the seven lists: the left sets', then the right sets'
abbrev pub records_of_lists : Lists → List TagRecord
records_of_lists l =
    side_records Left l.tags l.left_numbers (sets_of l.left_ends l.left_items)
    ++ side_records Right l.tags l.right_numbers (sets_of l.right_ends l.right_items)

-- a record with each of its tags once, rising
abbrev pub collapsed : TagRecord → TagRecord
collapsed r = record { side = r.side; number = r.number; tags = collapse r.tags }

-- the records of a side, by place and collapsed
abbrev pub collapsed_side : Side → List TagRecord → List TagRecord
collapsed_side side rs = map collapsed (of_side side rs)

-- what a loaded file's records become: the left sets', then the right sets'
unfoldable pub rewritten : List TagRecord → List TagRecord
rewritten rs = collapsed_side Left rs ++ collapsed_side Right rs
