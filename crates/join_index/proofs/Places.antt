-- Parts of the work list that are places of right sets: each is there and has a flag, and counting goes place by place. A right
-- set is seen by its first rank.
use Prim.Native.Nat.{ℕ, ◌+◌, ◌≤◌, ◌<◌}
use mathlib.Core.Path.{◌≡◌, refl, sym, ap, ◌∙◌}
use mathlib.Core.List.{List, [], ◌∷◌}
use mathlib.Core.Bool.{Bool, false}
use native.Mathlib.Omega.{arith}
use lib.Dec.{leb, ltb}
use lib.ListN.{length, get_or}
use borrow.Author.Tests.{lt-ltb, ltb-true}
use Rattle.lists.specs.Lists.{one, count, slice}
use Rattle.lists.proofs.Throughout.{all_weaken}
use Rattle.lists.proofs.Slices.{all_slice, slice_past, slice_next}
use Rattle.join_spec.specs.Query.{Query}
use Rattle.join_spec.specs.Node.{seen}
use Rattle.join_index.specs.Grouping.{right_at}
use Rattle.join_index.specs.declared.Layout.{Layout}
use Rattle.words.specs.Words.{Word}
use Rattle.words.specs.flags.Flags.{flag_room, Below}
use Rattle.join_index.specs.Asking.{RightThere, PlacesThere}
use Rattle.join_index.proofs.Reading.{right_stored}

pub place_right : {lay : Layout} {q : Query} {w : List ℕ} {from to : ℕ} → PlacesThere lay q w from to
    → (i s : ℕ) → from ≤ i → i < to → Word w i s → RightThere lay q w s
place_right {lay} {q} {w} {from} {to} there i s low high word =
    let test = all_slice (λ (k : ℕ). ltb k (length q.rights)) from to w there.within there.below i low high in
    record {
      index = there.index;
      below = ltb-true s (length q.rights) (ap (λ (k : ℕ). ltb k (length q.rights)) word.is ∙ test);
    }

-- the places of right sets are so few that each has a flag
pub places_below : {lay : Layout} {q : Query} {w : List ℕ} {from to : ℕ} → PlacesThere lay q w from to → from ≤ to
    → Below flag_room from to w
places_below {lay} {q} {w} {from} {to} there order =
    record {
      order = order;
      within = there.within;
      below =
          all_weaken (λ (s : ℕ). ltb s (length q.rights)) (λ (s : ℕ). ltb s flag_room) (slice from to w)
          (λ s low.
          lt-ltb s flag_room (omega (arith, ltb-true s (length q.rights) low, there.index.ground.right_few)))
          there.below;
    }

-- counting goes place by place
module _ (p : ℕ → Bool) (w : List ℕ) (i to : ℕ) where
  pub count_past : to ≤ i → count p (slice i to w) ≡ 0
  unfolding count
  count_past past = ap (count p) (slice_past i to w past)

  pub count_next : i < to → to ≤ length w → count p (slice i to w) ≡ one (p (get_or w i 0)) + count p (slice (i + 1) to w)
  unfolding count
  count_next more within = ap (count p) (slice_next i to w more within)

seen_none : (r : ℕ) (l : List ℕ) → length l ≡ 0 → false ≡ seen r l
unfolding seen
seen_none r [] h = refl
seen_none r (x ∷ xs) h = absurd (omega arith)

seen_first : (r : ℕ) (l : List ℕ) → 0 < length l → leb (get_or l 0 0) r ≡ seen r l
unfolding seen
seen_first r [] h = absurd (omega arith)
seen_first r (x ∷ xs) h = refl

-- a right set as it is stored
module _ {lay : Layout} {q : Query} {w : List ℕ} {s : ℕ} (r : ℕ) (there : RightThere lay q w s) where
  pub right_none : get_or w (lay.right_starts + s + 1) 0 ≤ get_or w (lay.right_starts + s) 0 → false ≡ seen r (right_at q s)
  right_none h = let t = right_stored there in seen_none r (right_at q s) (omega arith)

  pub right_first : get_or w (lay.right_starts + s) 0 < get_or w (lay.right_starts + s + 1) 0
      → leb (get_or w (lay.right_ranks + get_or w (lay.right_starts + s) 0) 0) r ≡ seen r (right_at q s)
  right_first h =
      let t = right_stored there in
      let some : 0 < length (right_at q s) = omega arith in
      let start = get_or w (lay.right_starts + s) 0 in
      let at : lay.right_ranks + start + 0 ≡ lay.right_ranks + start = omega arith in
      let first : get_or (right_at q s) 0 0 ≡ get_or w (lay.right_ranks + get_or w (lay.right_starts + s) 0) 0 =
      t.rank 0 some ∙ ap (λ (k : ℕ). get_or w k 0) at
      in
      ap (λ (k : ℕ). leb k r) (sym first) ∙ seen_first r (right_at q s) some
