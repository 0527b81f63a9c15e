-- Inner: the tags of a record, chained by bucket: what the functions of the record reader ask and promise. A link is one more than the
-- index of a tag in its record, or 0 for none.
use Rattle.std.specs.Prelude.{ℕ, ◌+◌, ◌-◌, ◌/◌, ◌%◌, ◌<◌, ◌≤◌, ◌≡◌, List, length, get_or}
use Rattle.sets.specs.Limits.{max_set_length, full_words}
use Rattle.tag_file.specs.Format.{tag_at}
use Rattle.tag_file.specs.Reading.{past_tags}

-- how many buckets there are
abbrev pub buckets : ℕ
buckets = 251

-- the bucket of a tag: of its first 8 bytes and its last 4 together
unfoldable pub bucket_of : ℕ → ℕ
bucket_of x = (x / full_words % buckets + x % full_words) % buckets

-- r is the bucket of the tag x
pub record BucketIs (x r : ℕ) : Type 0 where
  pub is : r ≡ bucket_of x
  pub small : r < buckets

-- the tag i of a record whose first tag is at start
abbrev pub tag_of : List ℕ → ℕ → ℕ → ℕ
tag_of file start i = tag_at file (past_tags start i)

-- the file has the tag k of a record, and a record may have as many
pub record TagThere (file : List ℕ) (start k : ℕ) : Type 0 where
  pub inside : past_tags start (k + 1) ≤ length file
  pub room : k < max_set_length

-- j links to the last tag of a bucket among the first k of a record; 0 if none of them is in it
pub record LastIn (file : List ℕ) (start bucket k j : ℕ) : Type 0 where
  pub within : j ≤ k
  pub here : 0 < j → bucket_of (tag_of file start (j - 1)) ≡ bucket
  pub none : (m : ℕ) → j ≤ m → m < k → bucket_of (tag_of file start m) ≡ bucket → ⊥

-- each of the first n tags has its link, to the last tag of its bucket before it
pub record Linked (file : List ℕ) (start n : ℕ) (links : List ℕ) : Type 0 where
  pub full : length links ≡ max_set_length
  pub link : (i : ℕ) → i < n → LastIn file start (bucket_of (tag_of file start i)) i (get_or links i 0)

-- and each bucket has one to its last tag among them
pub record Chained (file : List ℕ) (start n : ℕ) (last links : List ℕ) : Type 0 where
  pub linked : Linked file start n links
  pub full : length last ≡ buckets
  pub front : (b : ℕ) → b < buckets → LastIn file start b n (get_or last b 0)
