-- Inner: numbers written into a lent list from a place on: what the functions that write ask and promise.
use Rattle.std.specs.Prelude.{ℕ, ◌+◌, ◌≤◌, ◌≡◌, List, length}
use Rattle.std.proofs.lemmas.List.Edits.{sets}

-- there is room for what is to be written at a place
abbrev pub RoomFor : List ℕ → ℕ → List ℕ → Type 0
RoomFor list at new = at + length new ≤ length list

-- new numbers were written at a place, and r is the place after them
pub record Put (was : List ℕ) (at : ℕ) (new : List ℕ) (r : ℕ) (is : List ℕ) : Type 0 where
  pub written : is ≡ sets was at new
  pub past : r ≡ at + length new
