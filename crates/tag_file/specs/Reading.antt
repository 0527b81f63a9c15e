-- What the record reader answers at a place of a file, and the tags from a place on. Document 01, "Tag file": "A record is used
-- only if it was read whole". A left set's record is a kit's there, a right set's a stack's.
use Rattle.std.specs.Prelude.{ℕ, zero, suc, ◌+◌, ◌*◌, List, [], ◌∷◌, Bool, cond, ◌&&◌, eqb, leb, length, get_or, drop}
use Rattle.lists.specs.Lists.{prefix}
use Rattle.sets.specs.declared.Side.{Side}
use Rattle.sets.specs.declared.Side.TheVariants.{Left, Right}
use Rattle.sets.specs.declared.Refusal.TheVariants.{Malformed}
use Rattle.tag_file.specs.Format.{tag_length, head_length, tag_at, mark}
use Rattle.tag_file.specs.declared.ReadAnswer.{ReadAnswer}
use Rattle.tag_file.specs.declared.ReadAnswer.TheVariants.{Record, NoMore, Refused}

-- whether a side's mark is at a place
abbrev pub marked : Side → List ℕ → ℕ → Bool
marked side file at = prefix (mark side) (drop at file)

-- the number of the record at a place, high byte first
abbrev pub number_at : List ℕ → ℕ → ℕ
number_at file at = get_or file (at + 2) 0 * 256 + get_or file (at + 3) 0

-- how many tags the record at a place has
abbrev pub count_at : List ℕ → ℕ → ℕ
count_at file at = get_or file (at + 4) 0

-- the place after count tags that begin at a place
abbrev pub past_tags : ℕ → ℕ → ℕ
past_tags place count = place + tag_length * count

-- whether the file has all of the record at a place: its head, then as many tags as the count says
abbrev pub whole_at : List ℕ → ℕ → Bool
whole_at file at =
    leb (at + head_length) (length file) && leb (past_tags (at + head_length) (count_at file at)) (length file)

-- the record of a side at a place, if it is whole; else the refusal with this place
abbrev pub record_at : Side → List ℕ → ℕ → ReadAnswer
record_at side file at =
    cond (whole_at file at)
    (Record side (number_at file at) (count_at file at) (at + head_length) (past_tags (at + head_length) (count_at file at)))
    (Refused (Malformed at))

-- what is at a place: no more at the file's end, a whole record, or a refusal with this place; a place past the end counts as cut
-- short
unfoldable pub read_at : List ℕ → ℕ → ReadAnswer
read_at file at =
    cond (eqb at (length file)) NoMore
    (cond (marked Left file at) (record_at Left file at)
    (cond (marked Right file at) (record_at Right file at) (Refused (Malformed at))))

-- n tags, one after the other, from a place on
unfoldable pub tags_at : ℕ → List ℕ → ℕ → List ℕ
tags_at zero file at = []
tags_at (suc n) file at = tag_at file at ∷ tags_at n file (at + tag_length)
