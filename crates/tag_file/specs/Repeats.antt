-- Repeated reads. Document 02, C-15: the repeats of a record are "its count less its distinct tags". They are judged within one
-- record: a tag that two records have is no repeat.
use Rattle.std.specs.Prelude.{ℕ, ◌-◌, List, length}
use Rattle.lists.specs.Lists.{sum}
use Rattle.sets.specs.declared.Side.{Side}
use Rattle.sets.specs.declared.Side.TheVariants.{Left, Right}
use Rattle.tag_file.specs.Reading.{read_at, tags_at}
use Rattle.tag_file.specs.Records.{TagRecord, of_side, collapse}
use Rattle.tag_file.specs.declared.Repeats.{Repeats}
use Rattle.tag_file.specs.declared.RecordRead.{RecordRead}
use Rattle.tag_file.specs.declared.ReadAnswer.{ReadAnswer}
use Rattle.tag_file.specs.declared.ReadAnswer.TheVariants.{Record, NoMore, Refused}

-- how many of a record's tags are repeats: their count less the distinct ones
unfoldable pub repeats_in : List ℕ → ℕ
repeats_in tags = length tags - length (collapse tags)

-- ---- totals

-- of a side's records, each by itself
abbrev pub repeats_of : Side → List TagRecord → ℕ
repeats_of side rs = sum (λ r. repeats_in r.tags) (of_side side rs)

-- the reads of a side: the tags of its records, repeats and all
abbrev pub reads_of : Side → List TagRecord → ℕ
reads_of side rs = sum (λ r. length r.tags) (of_side side rs)

-- "The loader totals these for kits and for stacks": left sets are kits, right sets stacks
abbrev pub repeat_totals : List TagRecord → Repeats
repeat_totals rs = record { left = repeats_of Left rs; right = repeats_of Right rs }

-- none on either side
abbrev pub no_repeats : Repeats
no_repeats = record { left = 0; right = 0 }

-- ---- the record reader

-- the repeats of what was read: those of a whole record, and none without one
abbrev pub repeats_read : List ℕ → ReadAnswer → ℕ
repeats_read file (Record side number count place next) = repeats_in (tags_at count file place)
repeats_read file NoMore = 0
repeats_read file (Refused why) = 0

-- what the record reader answers at a place
abbrev pub record_read : List ℕ → ℕ → RecordRead
record_read file at = record { answer = read_at file at; repeats = repeats_read file (read_at file at) }
