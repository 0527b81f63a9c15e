-- The records of a file as a list, and what the loader makes of such a list: the tag table and the sets. Document 01, "Tag file":
-- "Item numbers follow the rising order of distinct tags"; "repeats allowed and collapsed". A set's items are found through the
-- table, and nothing here is sorted but the table, by insertion.
use Rattle.std.specs.Prelude.{ℕ, zero, suc, List, [], ◌∷◌, ◌++◌, map, Bool, true, false, cond, eqb, ltb, length, get_or}
use Rattle.lists.specs.Lists.{keep, memb, sum, upto}
use Rattle.sets.specs.declared.Side.{Side}
use Rattle.sets.specs.declared.Side.TheVariants.{Left, Right}
use Rattle.tag_file.specs.Format.{record_length}
use Rattle.tag_file.specs.Reading.{read_at, tags_at}
use Rattle.tag_file.specs.declared.ReadAnswer.{ReadAnswer}
use Rattle.tag_file.specs.declared.ReadAnswer.TheVariants.{Record, NoMore, Refused}

-- what a whole record says
pub record TagRecord : Type 0 where
  pub side : Side
  pub number : ℕ
  pub tags : List ℕ

-- the bytes of records that follow each other: the place of the record after them
abbrev pub total_length : List TagRecord → ℕ
total_length rs = sum (λ r. record_length (length r.tags)) rs

-- the record of an answer, then those that go on from the next place; none if no whole record was read
abbrev pub onward : ReadAnswer → List ℕ → (ℕ → List TagRecord) → List TagRecord
onward (Record side number count place next) file go =
    record { side = side; number = number; tags = tags_at count file place } ∷ go next
onward NoMore file go = []
onward (Refused why) file go = []

-- the whole records from a place on, up to the end or to what isn't one; fuel many at most
unfoldable pub records_from : ℕ → List ℕ → ℕ → List TagRecord
records_from zero file at = []
records_from (suc fuel) file at = onward (read_at file at) file (λ next. records_from fuel file next)

-- the same with fuel enough: a record has more than one byte
abbrev pub records_at : List ℕ → ℕ → List TagRecord
records_at file at = records_from (length file) file at

-- the whole records of a file
abbrev pub records : List ℕ → List TagRecord
records file = records_at file 0

-- whether two sides are the same
abbrev pub same_side : Side → Side → Bool
same_side Left Left = true
same_side Left Right = false
same_side Right Left = false
same_side Right Right = true

-- the records of a side, in the order of the file: a record's index here is the place of its set
abbrev pub of_side : Side → List TagRecord → List TagRecord
of_side side rs = keep (λ r. same_side side r.side) rs

-- a number put into a strictly rising list, if it isn't there
unfoldable pub insert : ℕ → List ℕ → List ℕ
insert x [] = x ∷ []
insert x (y ∷ ys) = cond (ltb x y) (x ∷ y ∷ ys) (cond (eqb x y) (y ∷ ys) (y ∷ insert x ys))

-- numbers put one by one into a strictly rising list
unfoldable pub insert_all : List ℕ → List ℕ → List ℕ
insert_all table [] = table
insert_all table (x ∷ xs) = insert_all (insert x table) xs

-- the distinct numbers of a list, strictly rising
abbrev pub collapse : List ℕ → List ℕ
collapse xs = insert_all [] xs

-- the tags of records, one record after the other
unfoldable pub all_tags : List TagRecord → List ℕ
all_tags [] = []
all_tags (r ∷ rs) = r.tags ++ all_tags rs

-- the tag table: the distinct tags of both sides, strictly rising; the item of a tag is its index here
abbrev pub tag_table : List TagRecord → List ℕ
tag_table rs = collapse (all_tags rs)

-- the items whose tag is among the given ones
unfoldable pub items_of : List ℕ → List ℕ → List ℕ
items_of table tags = keep (λ i. memb (get_or table i 0) tags) (upto (length table))

-- how many distinct tags the records of a side have, each record by itself: its collapsed entries
abbrev pub entries_of : Side → List TagRecord → ℕ
entries_of side rs = sum (λ r. length (collapse r.tags)) (of_side side rs)

-- the sets of a side over a tag table, by place
abbrev pub sets_of_side : Side → List ℕ → List TagRecord → List (List ℕ)
sets_of_side side table rs = map (λ r. items_of table r.tags) (of_side side rs)
