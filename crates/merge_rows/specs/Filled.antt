-- Inner: the rows of the right sets. Word x tells the blocks of 64 right sets in which some set holds item x; the T words of block q
-- follow those of the blocks before it, and word x of them tells which sets of the block hold item x.
use Rattle.std.specs.Prelude.{ℕ, ◌+◌, ◌*◌, ◌/◌, ◌%◌, ◌<◌, ◌≤◌, ◌≡◌, List, [], Bool, true, false, ◌&&◌, ◌||◌, eqb, ltb, length, get_or, None}
use Rattle.lists.specs.Lists.{all, any, memb}
use Rattle.sets.specs.Limits.{max_items, max_sets}
use Rattle.sets.specs.Collections.{Collection, first_bad_in}
use Rattle.signatures.specs.Signing.{double}
use Rattle.merge_rows.specs.Words.{digit}

-- the blocks of 64 that so many right sets make
abbrev pub blocks_of : ℕ → ℕ
blocks_of n = (n + 63) / 64

-- the words of 64 bits that the rows of so many items and right sets take
abbrev pub row_words : ℕ → ℕ → ℕ
row_words t rights = t * (blocks_of rights + 1)

-- whether the rows say that right set s holds item x
abbrev pub cell_at : ℕ → List ℕ → ℕ → ℕ → Bool
cell_at t w x s = digit w (t * (s / 64 + 1) + x) (s % 64)

-- the rows are those of the right sets; a block that no sum names has no right set with the item, and no block past the last is named
pub record RowsHold (t : ℕ) (rights : List (List ℕ)) (w : List ℕ) : Type 0 where
  pub room : 2 * row_words t (length rights) ≤ length w
  pub cells : (s x : ℕ) → s < 64 * blocks_of (length rights) → x < t → cell_at t w x s ≡ memb x (get_or rights s [])
  pub sums : (s x : ℕ) → x < t → memb x (get_or rights s []) ≡ true → digit w x (s / 64) ≡ true
  pub within : (x j : ℕ) → x < t → digit w x j ≡ true → j < blocks_of (length rights)

-- right sets without a bad one, and room for their rows
pub record FillRoom (t : ℕ) (sets : Collection) (w : List ℕ) : Type 0 where
  pub few : t ≤ max_items
  pub good : first_bad_in t sets ≡ None
  pub room : 2 * row_words t (length sets.ends) ≤ length w

-- the block of right set s has room
pub record BlockRoom (t s : ℕ) (w : List ℕ) : Type 0 where
  pub few : t ≤ max_items
  pub place : s < max_sets
  pub room : 2 * (t * (s / 64 + 2)) ≤ length w

-- w became w': where right set s is the first of its block, the block is cleared
pub record BlockOpened (t s : ℕ) (w w' : List ℕ) : Type 0 where
  pub size : length w' ≡ length w
  pub below : (c : ℕ) → c < t * (s / 64 + 1) → double w' (2 * c) ≡ double w (2 * c)
  pub fresh : s % 64 ≡ 0 → (x j : ℕ) → x < t → digit w' (t * (s / 64 + 1) + x) j ≡ false
  pub begun : (s % 64 ≡ 0 → ⊥) → w' ≡ w

-- right set s holds item x: the digits that say so
abbrev pub marks : ℕ → ℕ → ℕ → ℕ → ℕ → Bool
marks t s c j x = (eqb c x && eqb j (s / 64)) || (eqb c (t * (s / 64 + 1) + x) && eqb j (s % 64))

-- right set s with items below T, and room for its block
pub record AddRoom (t s : ℕ) (set w : List ℕ) : Type 0 where
  pub block : BlockRoom t s w
  pub items : all (λ x. ltb x t) set ≡ true

-- w became w': the digits of right set s are 1, and every other digit is as before
pub record Added (t s : ℕ) (set w w' : List ℕ) : Type 0 where
  pub size : length w' ≡ length w
  pub holds : (c j : ℕ) → digit w' c j ≡ (any (marks t s c j) set || digit w c j)
