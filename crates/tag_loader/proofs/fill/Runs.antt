-- The lists of a side by records: one record in front, and nothing where it is of the other side.
use mathlib.Core.Path.{◌≡◌, refl, sym, ap}
use mathlib.Core.List.{List, [], ◌∷◌, ◌++◌, map, append-nil, flatten}
use mathlib.Core.Bool.{Bool, true, false}
use Prim.Native.Nat.{ℕ, ◌+◌}
use native.Mathlib.Nat.{add-zero}
use lib.ListN.{length}
use Rattle.lists.specs.Lists.{onto, keep}
use Rattle.sets.specs.declared.Side.{Side}
use Rattle.tag_file.specs.Records.{TagRecord, same_side, of_side, items_of, sets_of_side}
use Rattle.tag_file.specs.Loading.{numbers_of, ends_from}

pub flatten_one : (set : List ℕ) → flatten (set ∷ []) ≡ set
unfolding flatten
flatten_one set = append-nil set

module _ (side : Side) (r : TagRecord) (rs : List TagRecord) where
  pub numbers_cons : numbers_of side (r ∷ rs) ≡ onto (same_side side r.side) r.number [] ++ numbers_of side rs
  unfolding keep
  numbers_cons = by_mine (same_side side r.side)
    where
      by_mine : (b : Bool)
          → map (λ (q : TagRecord). q.number) (onto b r (of_side side rs)) ≡ onto b r.number [] ++ numbers_of side rs
      by_mine true = refl
      by_mine false = refl

  pub sets_cons : (table : List ℕ)
      → sets_of_side side table (r ∷ rs) ≡ onto (same_side side r.side) (items_of table r.tags) [] ++ sets_of_side side table rs
  unfolding keep
  sets_cons table = by_mine (same_side side r.side)
    where
      by_mine : (b : Bool) → map (λ (q : TagRecord). items_of table q.tags) (onto b r (of_side side rs))
          ≡ onto b (items_of table r.tags) [] ++ sets_of_side side table rs
      by_mine true = refl
      by_mine false = refl

module _ (mine : Bool) (set : List ℕ) (sets : List (List ℕ)) where
  pub flatten-onto : flatten (onto mine set [] ++ sets) ≡ flatten (onto mine set []) ++ flatten sets
  unfolding flatten
  flatten-onto = by_mine mine
    where
      by_mine : (b : Bool) → flatten (onto b set [] ++ sets) ≡ flatten (onto b set []) ++ flatten sets
      by_mine true = ap (λ (l : List ℕ). l ++ flatten sets) (sym (append-nil set))
      by_mine false = refl

  pub ends_onto : (e : ℕ) → ends_from e (onto mine set [] ++ sets)
      ≡ onto mine (e + length set) [] ++ ends_from (e + length (flatten (onto mine set []))) sets
  unfolding ends_from flatten
  ends_onto e = by_mine mine
    where
      by_mine : (b : Bool)
          → ends_from e (onto b set [] ++ sets) ≡ onto b (e + length set) [] ++ ends_from (e + length (flatten (onto b set []))) sets
      by_mine true = ap (λ (l : List ℕ). (e + length set) ∷ ends_from (e + length l) sets) (sym (append-nil set))
      by_mine false = ap (λ (k : ℕ). ends_from k sets) (sym (add-zero e))
