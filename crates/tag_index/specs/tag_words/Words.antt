-- Inner: a tag as two numbers, its first 8 bytes and its last 4: what its functions promise.
use Rattle.std.specs.Prelude.{ℕ, ◌+◌, ◌*◌, ◌<◌, ◌≡◌, List, take, drop}
use Rattle.sets.specs.Limits.{full_words}
use Rattle.tag_file.specs.Format.{value}
use Rattle.tag_index.specs.declared.tag_words.Tag.{Tag}

-- four bytes as one number
abbrev pub word_at : List ℕ → ℕ → ℕ
word_at file at = value (take 4 (drop at file))

-- r is the number of four bytes
pub record WordIs (file : List ℕ) (at r : ℕ) : Type 0 where
  pub is : r ≡ word_at file at
  pub small : r < full_words

-- the number that a tag stands for
abbrev pub tag_value : Tag → ℕ
tag_value t = t.hi * full_words + t.lo

-- t is the tag of the number x
pub record TagIs (x : ℕ) (t : Tag) : Type 0 where
  pub is : tag_value t ≡ x
  pub small : t.lo < full_words
