-- The inverted lists as they are stored, and the ranks that stand in a part of the work list.
use Prim.Native.Nat.{ℕ, suc, ◌+◌, ◌-◌, ◌≤◌, ◌<◌}
use mathlib.Core.Path.{◌≡◌, sym, ap, ap₂, subst, ◌∙◌}
use mathlib.Core.List.{List}
use mathlib.Core.Bool.{true}
use native.Mathlib.Omega.{arith}
use lib.Dec.{ltb}
use lib.ListN.{length, get_or}
use borrow.Author.Tests.{ltb-true}
use Rattle.lists.specs.Lists.{all, memb, rising, slice, upto}
use Rattle.lists.proofs.Membership.{memb_at}
use Rattle.lists.proofs.Throughout.{all_at}
use Rattle.lists.proofs.Filtering.{all_keep}
use Rattle.lists.proofs.Ranges.{all_upto}
use Rattle.lists.proofs.Rising.{rising-keep, rising-range}
use Rattle.lists.proofs.Slices.{length-slice, get_d_slice}
use Rattle.join_spec.specs.Query.{Query}
use Rattle.join_index.specs.Grouping.{right_at}
use Rattle.join_index.specs.Ground.{inverted_list}
use Rattle.join_index.specs.declared.Layout.{Layout}
use Rattle.join_index.proofs.GroundLaws.{slot_bound}
use Rattle.words.specs.Words.{Word}
use Rattle.words.specs.Merges.{Rising}
use Rattle.words.specs.flags.Flags.{flag_room, Below}
use Rattle.join_index.specs.Asking.{RankThere, PlacesThere}
use Rattle.join_index.proofs.Places.{places_below}
use Rattle.words.specs.declared.Part.{Part}
use Rattle.join_pairs.specs.shortlists.Shortlists.{Located, RanksThere}

-- the inverted list of a rank lies between two offsets, and its slot below the rows
pub record Inverted (lay : Layout) (q : Query) (w : List ℕ) (r : ℕ) : Type 0 where
  pub offsets_within : lay.offsets + r + 1 < length w
  pub rise : get_or w (lay.offsets + r) 0 ≤ get_or w (lay.offsets + r + 1) 0
  pub low : lay.index + get_or w (lay.offsets + r + 1) 0 ≤ lay.slots
  pub below : lay.slots + get_or w (lay.offsets + r + 1) 0 ≤ lay.row_starts
  pub room : lay.slots + get_or w (lay.offsets + r + 1) 0 ≤ length w
  pub is : slice (lay.index + get_or w (lay.offsets + r) 0) (lay.index + get_or w (lay.offsets + r + 1) 0) w ≡ inverted_list q r

pub inverted_stored : {lay : Layout} {q : Query} {w : List ℕ} {r : ℕ} → RankThere lay q w r → Inverted lay q w r
inverted_stored {lay} {q} {w} {r} there =
    let h = there.index.ground.inverted r there.below in
    let here : lay.offsets + r + 1 ≡ lay.offsets + suc r = omega arith in
    let next : get_or w (lay.offsets + r + 1) 0 ≡ get_or w (lay.offsets + suc r) 0 = ap (λ (i : ℕ). get_or w i 0) here in
    record {
      offsets_within = omega (arith, there.index.ground.offsets_within, there.index.room, there.below);
      rise = omega (arith, h.rise);
      low = omega (arith, h.within);
      below = omega (arith, there.index.ground.slot_within r there.below);
      room = omega (arith, slot_bound there.index.ground r there.below);
      is = rw next h.is;
    }

-- the inverted list where it was found: rising places of right sets
module _ {lay : Layout} {q : Query} {w : List ℕ} {r : ℕ} {s : Part} (located : Located lay w r s)
    (there : RankThere lay q w r) where
  pub list_part : slice s.from s.to w ≡ inverted_list q r
  list_part =
      ap₂ (λ (a b : ℕ). slice a b w) located.from located.to ∙ (inverted_stored there).is

  list_within : s.to ≤ length w
  list_within = omega (arith, (inverted_stored there).low, located.to, there.index.room)

  pub list_places : PlacesThere lay q w s.from s.to
  list_places =
      record {
        index = there.index;
        within = list_within;
        below =
            ap (all (λ (x : ℕ). ltb x (length q.rights))) list_part
            ∙ all_keep (λ (x : ℕ). ltb x (length q.rights)) (λ (x : ℕ). memb r (right_at q x)) (upto (length q.rights))
            (all_upto (length q.rights));
      }

  pub list_below : Below flag_room s.from s.to w
  list_below =
      places_below list_places (omega (arith, (inverted_stored there).rise, located.from, located.to))

  pub list_rising : Rising s.from s.to w
  list_rising =
      record {
        within = list_within;
        rise = ap rising list_part
            ∙ rising-keep (λ (x : ℕ). memb r (right_at q x)) (upto (length q.rights)) (rising-range 0 (length q.rights));
      }

-- a word of a part, by its place in the list
pub slice_at : (w : List ℕ) (from to i : ℕ) → from ≤ i → i < to → get_or (slice from to w) (i - from) 0 ≡ get_or w i 0
slice_at w from to i low high =
    let there : from + (i - from) ≡ i = omega arith in
    get_d_slice 0 from to (i - from) w (omega arith) ∙ ap (λ (n : ℕ). get_or w n 0) there

-- a word of a part is in it
pub slice-memb : {w : List ℕ} {i r : ℕ} → Word w i r → (from to : ℕ) → from ≤ i → i < to → to ≤ length w
    → memb r (slice from to w) ≡ true
slice-memb {w} {i} word from to low high within =
    subst (λ (n : ℕ). memb n (slice from to w) ≡ true) (slice_at w from to i low high ∙ sym word.is)
    (memb_at (slice from to w) (i - from) 0 (omega (arith, length-slice from to w within)))

-- one of some ranks
pub rank_of : {lay : Layout} {q : Query} {w ranks : List ℕ} → RanksThere lay q w ranks → (i : ℕ) → i < length ranks
    → {r : ℕ} → r ≡ get_or ranks i 0 → RankThere lay q w r
rank_of {q = q} {ranks = ranks} there i more is =
    record {
      index = there.index;
      below = omega (arith, is, ltb-true (get_or ranks i 0) q.T (all_at (λ (k : ℕ). ltb k q.T) 0 ranks there.below i more));
    }
