-- The bytes of a tag file: tags, and whole records. Document 01, "Tag file", first sentences. A left set's record is a kit's there, a
-- right set's a stack's. A tag is read as one number, high byte first: the order of tags as unsigned bytes is then the order of
-- numbers.
use Rattle.std.specs.Prelude.{ℕ, zero, suc, ◌+◌, ◌*◌, ◌/◌, ◌%◌, List, [], ◌∷◌, ◌++◌, length, take, drop}
use Rattle.sets.specs.declared.Side.{Side}
use Rattle.sets.specs.declared.Side.TheVariants.{Left, Right}

-- the bytes of a tag
abbrev pub tag_length : ℕ
tag_length = 12

-- the bytes of a record before its tags: mark, number, count
abbrev pub head_length : ℕ
head_length = 5

-- the bytes of a whole record with so many tags
abbrev pub record_length : ℕ → ℕ
record_length count = head_length + tag_length * count

-- v followed by bytes, as one number, high byte first
unfoldable pub value_from : ℕ → List ℕ → ℕ
value_from v [] = v
value_from v (b ∷ bs) = value_from (v * 256 + b) bs

-- bytes as one number, high byte first
abbrev pub value : List ℕ → ℕ
value bytes = value_from 0 bytes

-- a number as n bytes, high byte first
unfoldable pub bytes_of : ℕ → ℕ → List ℕ
bytes_of zero v = []
bytes_of (suc n) v = bytes_of n (v / 256) ++ (v % 256 ∷ [])

-- the tag at a place of a list of bytes
abbrev pub tag_at : List ℕ → ℕ → ℕ
tag_at bytes place = value (take tag_length (drop place bytes))

-- tags one after the other, as bytes
unfoldable pub tag_bytes : List ℕ → List ℕ
tag_bytes [] = []
tag_bytes (tag ∷ tags) = bytes_of tag_length tag ++ tag_bytes tags

-- the two-byte mark of a side's records
abbrev pub mark : Side → List ℕ
mark Left = 0x4B ∷ 0x54 ∷ []
mark Right = 0x53 ∷ 0x4B ∷ []

-- a record before its tags, by how many there are: mark, number and count
abbrev pub record_head : Side → ℕ → ℕ → List ℕ
record_head side number count = mark side ++ (number / 256 ∷ number % 256 ∷ count ∷ [])

-- a whole record: its head, then the tags
abbrev pub record_bytes : Side → ℕ → List ℕ → List ℕ
record_bytes side number tags = record_head side number (length tags) ++ tag_bytes tags
