-- `merge_rows::paths::take_two` meets its contract: the items of the two least keys in front.
use Prim.Native.Nat.{ℕ, zero, suc, ◌%◌, ◌<◌, ◌≤◌}
use mathlib.Core.Path.{◌≡◌, refl, ap, ◌∙◌}
use mathlib.Core.List.{List, [], ◌∷◌}
use native.Mathlib.Omega.{arith}
use lib.ListN.{length, take, set, length-set}
use Rattle.lists.specs.Lists.{memb}
use Rattle.sets.specs.Limits.{half_words}
use Rattle.merge_rows.specs.declared.paths.Two.{Two}
use Rattle.merge_rows.specs.FirstRanks.{path_of, PathRoom, PathTaken, LeastTwo}
use Rattle.merge_rows.proofs.LeastKeys.{one_path, two_path}
use Rattle.merge_rows.proofs.paths.take_two.Goals as goal

-- two numbers in front of a list
front_one : (l : List ℕ) (a b : ℕ) → 1 < length l → take 1 (set (set l 0 a) 1 b) ≡ a ∷ []
front_one [] a b more = absurd (omega arith)
front_one (x ∷ xs) a b more = refl

front_two : (l : List ℕ) (a b : ℕ) → 1 < length l → take 2 (set (set l 0 a) 1 b) ≡ a ∷ b ∷ []
front_two [] a b more = absurd (omega arith)
front_two (x ∷ []) a b more = absurd (omega arith)
front_two (x ∷ y ∷ l) a b more = refl

abbrev after : Two → List ℕ → List ℕ
after r path = set (set path 0 (r.first % half_words)) 1 (r.second % half_words)

module _ {ranks items path : List ℕ} (r : Two) (least : LeastTwo ranks items r) where
  two-members : (limit : ℕ) → PathRoom limit ranks items path → limit ≤ 2
      → (x : ℕ) → memb x (take limit (after r path)) ≡ memb x (path_of limit ranks items)
  two-members zero room few x = absurd (omega (arith, room.some))
  two-members (suc zero) room few x =
      ap (memb x) (front_one path (r.first % half_words) (r.second % half_words) (omega (arith, room.longer, room.room)))
      ∙ one_path room.ranked r least room.longer x
  two-members (suc (suc zero)) room few x =
      ap (memb x) (front_two path (r.first % half_words) (r.second % half_words) (omega (arith, room.longer, room.room)))
      ∙ two_path room.ranked r least room.longer x
  two-members (suc (suc (suc limit))) room few x = absurd (omega arith)

  two-taken : (limit : ℕ) → PathRoom limit ranks items path → limit ≤ 2 → PathTaken limit ranks items (after r path) limit
  two-taken limit room few =
      record {
        some = room.some;
        within =
            omega (
              arith,
              room.longer,
              room.room,
              length-set (set path 0 (r.first % half_words)) 1 (r.second % half_words),
              length-set path 0 (r.first % half_words),
            );
        members = two-members limit room few;
      }

pub bounds-path-1 : goal.bounds-path-1
bounds-path-1 c =
    simp length-set (omega (arith, c.requires.room.some, c.requires.room.longer, c.requires.room.room))

pub returns : goal.returns
returns c =
    two-taken c.least_two-two.result c.least_two-two.ensures c.args.limit c.requires.room c.requires.few
