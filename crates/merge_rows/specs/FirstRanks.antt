-- Inner: the path of a left set that is longer than the limit, as a set: the items before which fewer than the limit come by rank.
use Rattle.std.specs.Prelude.{ℕ, ◌+◌, ◌*◌, ◌<◌, ◌≤◌, ◌≡◌, List, map, Bool, true, ◌||◌, eqb, ltb, leb, length, take, get_or}
use Rattle.lists.specs.Lists.{count, keep, any, memb, upto}
use Rattle.sets.specs.Limits.{max_items, half_words, full_words}
use Rattle.sets.specs.Collections.{good_items}
use Rattle.sets.specs.Ordered.{is_permutation}
use Rattle.bit_sets.specs.BitSets.{bit_at, member}
use Rattle.merge_rows.specs.declared.paths.Two.{Two}

-- how many items of a set have a rank below r
abbrev pub ranks_below : List ℕ → List ℕ → ℕ → ℕ
ranks_below ranks set r = count (λ y. ltb (get_or ranks y 0) r) set

-- whether an item of a set has one of its first ranks
abbrev pub on_path : ℕ → List ℕ → List ℕ → ℕ → Bool
on_path limit ranks set x = ltb (ranks_below ranks set (get_or ranks x 0)) limit

-- the items with its first ranks
unfoldable pub path_of : ℕ → List ℕ → List ℕ → List ℕ
path_of limit ranks set = keep (on_path limit ranks set) set

-- a set with items below T, and their ranks
pub record Ranked (ranks set : List ℕ) : Type 0 where
  pub few : length ranks ≤ max_items
  pub permutation : is_permutation (length ranks) ranks ≡ true
  pub good : good_items (length ranks) set ≡ true

-- a set that is longer than the limit, and room for its path
pub record PathRoom (limit : ℕ) (ranks set path : List ℕ) : Type 0 where
  pub ranked : Ranked ranks set
  pub some : 0 < limit
  pub longer : limit < length set
  pub room : length set ≤ length path

-- the first n places of a list are the path, in some order
pub record PathTaken (limit : ℕ) (ranks set path : List ℕ) (n : ℕ) : Type 0 where
  pub some : 0 < n
  pub within : n ≤ length path
  pub members : (x : ℕ) → memb x (take n path) ≡ memb x (path_of limit ranks set)

-- rank and item in one number: the order of these is that of the ranks
abbrev pub key_of : List ℕ → ℕ → ℕ
key_of ranks x = half_words * get_or ranks x 0 + x

-- how many keys of a set are below b
abbrev pub keys_below : List ℕ → List ℕ → ℕ → ℕ
keys_below ranks set b = count (λ x. ltb (key_of ranks x) b) set

-- the numbers up to r are those below which fewer than m keys are
pub record FewerBelow (ranks set : List ℕ) (m r : ℕ) : Type 0 where
  pub upto : (b : ℕ) → b < full_words → leb b r ≡ ltb (keys_below ranks set b) m

-- the two least keys: up to the first no key is below, up to the second at most one
pub record LeastTwo (ranks set : List ℕ) (r : Two) : Type 0 where
  pub first : FewerBelow ranks set 1 r.first
  pub second : FewerBelow ranks set 2 r.second

-- the ranks of a set became members
pub record RanksMarked (ranks set was is : List ℕ) : Type 0 where
  pub size : length is ≡ length was
  pub holds : (r : ℕ) → member is r ≡ (memb r (map (λ x. get_or ranks x 0) set) || member was r)

-- a word with at least n digits 1, and the n-th of them: n - 1 stand below it
pub record NthDigit (word n r : ℕ) : Type 0 where
  pub below : r < 64
  pub is : bit_at word r ≡ true
  pub before : count (bit_at word) (upto r) + 1 ≡ n

-- a set of ranks with at least n members
pub record MembersRoom (words : List ℕ) (n : ℕ) : Type 0 where
  pub some : 0 < n
  pub enough : n ≤ count (member words) (upto (64 * length words))
  pub few : 64 * length words ≤ max_items

-- the n-th member of a set: n - 1 are below it
pub record NthMember (words : List ℕ) (n r : ℕ) : Type 0 where
  pub below : r < 64 * length words
  pub is : member words r ≡ true
  pub before : count (member words) (upto r) + 1 ≡ n

-- the rank of an item up to which so many items of a set come
pub record Border (limit : ℕ) (ranks set : List ℕ) (r : ℕ) : Type 0 where
  pub some : any (λ x. eqb (get_or ranks x 0) r) set ≡ true
  pub upto : (x : ℕ) → memb x set ≡ true → leb (get_or ranks x 0) r ≡ on_path limit ranks set x

-- the first n places of a list are the items of a set with ranks up to r, in their order
pub record UpToTaken (ranks set : List ℕ) (r : ℕ) (path : List ℕ) (n : ℕ) : Type 0 where
  pub size : n ≡ count (λ x. leb (get_or ranks x 0) r) set
  pub is : take n path ≡ keep (λ x. leb (get_or ranks x 0) r) set
