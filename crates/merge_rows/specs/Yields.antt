-- Inner: what one left set comes to with the right sets. Candidates hold its path; those that hold all of it are its pairs, and
-- each other one is a check that its signature drops or that is false.
use Rattle.std.specs.Prelude.{ℕ, ◌+◌, ◌*◌, ◌<◌, ◌≡◌, List, [], Bool, not, ◌&&◌, length, get_or}
use Rattle.lists.specs.Lists.{keep, count, subset, upto}
use Rattle.sets.specs.Limits.{full_words}
use Rattle.sets.specs.Signatures.{signature}
use Rattle.merge_rows.specs.declared.Met.{Met}
use Rattle.merge_rows.specs.SignedSets.{drops_at}
use Rattle.merge_rows.specs.ShortLists.{pairs_with, Listed}

-- the right sets that contain a left set, and how many of its checks drop and fail
pub record Yield : Type 0 where
  pub places : List ℕ
  pub dropped : ℕ
  pub falses : ℕ

-- whether right set s holds every item of a list
abbrev pub holds_all : List (List ℕ) → List ℕ → ℕ → Bool
holds_all rights list s = subset list (get_or rights s [])

-- whether the check of right set s is dropped, and whether it is false
abbrev pub is_drop : List (List ℕ) → List ℕ → ℕ → Bool
is_drop rights more s = not (holds_all rights more s) && drops_at (signature more) rights s

abbrev pub is_false : List (List ℕ) → List ℕ → ℕ → Bool
is_false rights more s = not (holds_all rights more s) && not (drops_at (signature more) rights s)

-- of candidates: those that hold more are pairs, the others are checked in vain
abbrev pub yield_among : List (List ℕ) → List ℕ → List ℕ → Yield
yield_among rights more candidates =
    record {
      places = keep (holds_all rights more) candidates;
      dropped = count (is_drop rights more) candidates;
      falses = count (is_false rights more) candidates;
    }

-- the right sets that hold a path
unfoldable pub candidates_of : List (List ℕ) → List ℕ → List ℕ
candidates_of rights path = keep (holds_all rights path) (upto (length rights))

-- of all right sets: those that hold the path are candidates
abbrev pub yield_of : List (List ℕ) → List ℕ → List ℕ → Yield
yield_of rights path more = yield_among rights more (candidates_of rights path)

-- counters that n more right sets don't make wrap
pub record MetRoom (m : Met) (n : ℕ) : Type 0 where
  pub at : m.at + 2 * n < full_words
  pub dropped : m.dropped + n < full_words
  pub falses : m.falses + n < full_words

-- left set k came to a yield: its pairs are listed, and its checks added
pub record Yielded (k : ℕ) (y : Yield) (m m' : Met) (was is : List ℕ) : Type 0 where
  pub listed : Listed was m.at (pairs_with k y.places) m'.at is
  pub confirmed : m'.confirmed ≡ m.confirmed
  pub dropped : m'.dropped ≡ m.dropped + y.dropped
  pub falses : m'.falses ≡ m.falses + y.falses
