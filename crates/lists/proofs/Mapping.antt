-- A function over the elements of a list: `map` with `take` and `drop`, by place, and of two functions that agree on the members.
-- Over `++` and of another `map` it is mathlib.Core.List's.
use mathlib.Core.Path.{◌≡◌, refl, ap, ap₂}
use mathlib.Core.List.{List, [], ◌∷◌, map}
use mathlib.Core.Bool.{true}
use Prim.Native.Nat.{ℕ, zero, suc, ◌<◌}
use native.Mathlib.Nat.{not-suc-le-zero, le_of_suc-le-suc}
use lib.ListN.{length, get_or, take, drop}
use Rattle.lists.specs.Lists.{memb}
use Rattle.lists.proofs.Membership.{memb_head, memb_tail}

module _ {A B : Type 0} (f : A → B) where
  pub map-take : (n : ℕ) (l : List A) → map f (take n l) ≡ take n (map f l)
  map-take zero l = refl
  map-take (suc n) [] = refl
  map-take (suc n) (x ∷ xs) = ap (λ (l : List B). f x ∷ l) (map-take n xs)

  pub map-drop : (n : ℕ) (l : List A) → map f (drop n l) ≡ drop n (map f l)
  map-drop zero l = refl
  map-drop (suc n) [] = refl
  map-drop (suc n) (x ∷ xs) = map-drop n xs

  pub map_at : (l : List A) (j : ℕ) (d : A) (e : B) → j < length l → get_or (map f l) j e ≡ f (get_or l j d)
  map_at [] j d e h = absurd (not-suc-le-zero h)
  map_at (x ∷ xs) zero d e h = refl
  map_at (x ∷ xs) (suc j) d e h = map_at xs j d e (le_of_suc-le-suc h)

pub map_agree : {A : Type 0} (f g : ℕ → A) (xs : List ℕ) → ((x : ℕ) → memb x xs ≡ true → f x ≡ g x) → map f xs ≡ map g xs
map_agree f g [] h = refl
map_agree {A} f g (x ∷ xs) h =
    ap₂ (λ (y : A) (l : List A). y ∷ l) (h x (memb_head x xs)) (map_agree f g xs (λ y m. h y (memb_tail y x xs m)))
