-- Inner: the counts and the repeats of a load, what the functions over them ask and promise.
use Rattle.std.specs.Prelude.{ℕ, ◌+◌, ◌<◌, ◌≤◌, Bool, ◌||◌, ltb}
use Rattle.sets.specs.Limits.{max_items, max_sets, max_entries}
use Rattle.sets.specs.declared.Side.{Side}
use Rattle.sets.specs.declared.Side.TheVariants.{Left, Right}
use Rattle.tag_file.specs.declared.Loaded.{Loaded}
use Rattle.tag_file.specs.declared.Repeats.{Repeats}

-- ---- counts

-- the counts with one more record of a side: the index has so many tags, and the record so many distinct ones
abbrev pub grown_by : Loaded → Side → ℕ → ℕ → Loaded
grown_by t Left tagCount distinct =
    record {
      left_sets = t.left_sets + 1;
      right_sets = t.right_sets;
      left_entries = t.left_entries + distinct;
      right_entries = t.right_entries;
      tag_count = tagCount;
    }
grown_by t Right tagCount distinct =
    record {
      left_sets = t.left_sets;
      right_sets = t.right_sets + 1;
      left_entries = t.left_entries;
      right_entries = t.right_entries + distinct;
      tag_count = tagCount;
    }

-- whether counts pass a limit
abbrev pub passes : ℕ → ℕ → ℕ → Bool
passes sets entries tagCount = ltb max_sets sets || (ltb max_entries entries || ltb max_items tagCount)

-- the same, for one side
abbrev pub is_over : Loaded → Side → Bool
is_over t Left = passes t.left_sets t.left_entries t.tag_count
is_over t Right = passes t.right_sets t.right_entries t.tag_count

-- the counts are within the limits
pub record Limited (t : Loaded) : Type 0 where
  pub left_sets : t.left_sets ≤ max_sets
  pub right_sets : t.right_sets ≤ max_sets
  pub left_entries : t.left_entries ≤ max_entries
  pub right_entries : t.right_entries ≤ max_entries
  pub tags : t.tag_count ≤ max_items

-- ---- repeats

-- with those of one more record of a side
abbrev pub repeated_by : Repeats → Side → ℕ → Repeats
repeated_by t Left more = record { left = t.left + more; right = t.right }
repeated_by t Right more = record { left = t.left; right = t.right + more }

-- how many numbers a word of 64 bits has
abbrev pub word_numbers : ℕ
word_numbers = 18446744073709551616

-- so many more fit such a word
pub record RepeatsRoom (t : Repeats) (more : ℕ) : Type 0 where
  pub left : t.left + more < word_numbers
  pub right : t.right + more < word_numbers
