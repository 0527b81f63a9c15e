-- The limits of document 01, one name each; `MAX_..` in the code.
use Rattle.std.specs.Prelude.{ℕ, ◌*◌}

-- the greatest count of items, T
abbrev pub max_items : ℕ
max_items = 4096

-- the greatest number of sets in a collection
abbrev pub max_sets : ℕ
max_sets = 4096

-- the greatest number of pairs of a left and a right set
abbrev pub max_pairs : ℕ
max_pairs = max_sets * max_sets

-- the greatest number of item entries in a collection
abbrev pub max_entries : ℕ
max_entries = 65535

-- the greatest number of items in a set
abbrev pub max_set_length : ℕ
max_set_length = 255

-- the greatest depth limit of a join
abbrev pub max_limit : ℕ
max_limit = 255

-- how many numbers a 16-bit list can hold: 0 .. 65,535
abbrev pub half_words : ℕ
half_words = 65536

-- how many numbers a 32-bit list can hold: 0 .. 4,294,967,295
abbrev pub full_words : ℕ
full_words = 4294967296
