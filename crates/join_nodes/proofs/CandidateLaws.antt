-- What `narrow` needs of the candidates at a node, and that its two ways give the candidates after it.
use Prim.Native.Nat.{ℕ, suc, ◌+◌, ◌-◌, ◌≤◌, ◌<◌}
use mathlib.Core.Path.{◌≡◌, refl, sym, ap, ap₂, subst, ◌∙◌}
use mathlib.Core.List.{List, [], ◌∷◌}
use mathlib.Core.Bool.{Bool, true}
use native.Mathlib.Omega.{arith}
use lib.Dec.{ltb}
use lib.ListN.{length, take, get_or}
use Rattle.lists.specs.Lists.{keep, memb, rising, slice, upto}
use Rattle.lists.proofs.Filtering.{all_keep}
use Rattle.lists.proofs.Ranges.{all_upto}
use Rattle.lists.proofs.Rising.{rising-keep, rising-range}
use Rattle.lists.proofs.Slices.{rest_more}
use Rattle.join_spec.specs.Query.{Query}
use Rattle.join_spec.specs.Node.{last_of}
use Rattle.join_spec.specs.Walk.{is_candidate}
use Rattle.join_index.specs.Grouping.{right_at}
use Rattle.counting_sort.specs.Holding.{RegionHolds}
use Rattle.join_index.specs.Ground.{inverted_list, offset_of}
use Rattle.join_index.specs.declared.Layout.{Layout}
use Rattle.join_index.proofs.GroundLaws.{slot_bound}
use Rattle.words.specs.Words.{Word}
use Rattle.words.specs.Merges.{Rising}
use Rattle.words.specs.shared.Sharing.{Apart, Intersected}
use Rattle.words.specs.flags.Flags.{flag_room, Below}
use Rattle.join_index.proofs.Places.{places_below}
use Rattle.join_nodes.specs.Narrowing.{Candidates, Narrowed, candidate_list}
use Rattle.join_nodes.proofs.Narrowing.{narrow_first, narrow_further}

pub candidates-rising : (q : Query) (path : List ℕ) (e : ℕ) → rising (candidate_list q path e) ≡ true
candidates-rising q path e =
    rising-keep (λ s. is_candidate e path (right_at q s)) (upto (length q.rights)) (rising-range 0 (length q.rights))

module _ {lay : Layout} {q : Query} {path w : List ℕ} {d lo hi : ℕ} (cands : Candidates lay q path w d lo hi) where
  -- the words that the code reads are the bounds of the last rank's inverted list
  pub first_word : {rank first : ℕ} → Word w (lay.offsets + rank) first → rank ≡ last_of path
      → first ≡ offset_of lay w (last_of path)
  first_word word is = word.is ∙ ap (offset_of lay w) is

  pub last_word : {rank last : ℕ} → Word w (lay.offsets + rank + 1) last → rank ≡ last_of path
      → last ≡ offset_of lay w (suc (last_of path))
  last_word {rank} word is =
      let next : lay.offsets + rank + 1 ≡ lay.offsets + suc (last_of path) = omega arith in
      word.is ∙ ap (λ (i : ℕ). get_or w i 0) next

  -- with the two words that bound the inverted list of the last rank
  module _ {first last : ℕ} (at_first : first ≡ offset_of lay w (last_of path))
      (at_last : last ≡ offset_of lay w (suc (last_of path))) where
    pub inverted_holds : RegionHolds w lay.slots (lay.index + first) (lay.index + last) (inverted_list q (last_of path))
    inverted_holds = rw (at_first, at_last) (cands.index.ground.inverted (last_of path) cands.last)

    pub narrowed_first : d ≡ 1 → Narrowed lay q path d w w (record { «from» = lay.index + first; to = lay.index + last })
    narrowed_first top =
        record {
          size = refl;
          frame = refl;
          rise = inverted_holds.rise;
          below = omega (arith, inverted_holds.within);
          rest = refl;
          holds = inverted_holds.is ∙ listed path (cands.depth ∙ top) ∙ ap (candidate_list q path) (sym top);
        }
      where
        listed : (p : List ℕ) → length p ≡ 1 → inverted_list q (last_of p) ≡ candidate_list q p 1
        listed [] e = absurd (omega arith)
        listed (r ∷ []) e = narrow_first q r
        listed (r ∷ x ∷ rest) e = absurd (omega arith)

    slot_room : lay.slots + last ≤ length w
    slot_room = rw at_last (slot_bound cands.index.ground (last_of path) cands.last)

    pub before_rising : 1 < d → Rising lo hi w
    before_rising deeper =
        record {
          within = omega (arith, cands.below, slot_room, inverted_holds.rise, at_first);
          rise = rw (cands.sorted deeper) (candidates-rising q path (d - 1));
        }

    pub inverted_rising : Rising (lay.index + first) (lay.index + last) w
    inverted_rising =
        record {
          within = omega (arith, inverted_holds.within, slot_room);
          rise =
              rw inverted_holds.is
              (rising-keep (λ s. memb (last_of path) (right_at q s)) (upto (length q.rights))
              (rising-range 0 (length q.rights)));
        }

    -- right places that are kept are places that a set can have
    kept_small : (test : ℕ → Bool) (from to : ℕ) → from ≤ to → to ≤ length w
        → slice from to w ≡ keep test (upto (length q.rights)) → Below flag_room from to w
    kept_small test from to order within is =
        places_below
        (record {
          index = cands.index;
          within = within;
          below =
              rw is
              (all_keep (λ s. ltb s (length q.rights)) test (upto (length q.rights)) (all_upto (length q.rights)));
        })
        order

    pub before_small : 1 < d → Below flag_room lo hi w
    before_small deeper =
        kept_small (λ s. is_candidate (d - 1) path (right_at q s)) lo hi cands.rise (before_rising deeper).within
        (cands.sorted deeper)

    pub inverted_small : Below flag_room (lay.index + first) (lay.index + last) w
    inverted_small =
        kept_small (λ s. memb (last_of path) (right_at q s)) (lay.index + first) (lay.index + last) inverted_holds.rise
        inverted_rising.within inverted_holds.is

    pub slot_apart : Apart hi (lay.index + first) (lay.index + last) (lay.slots + first) w
    slot_apart =
        record {
          first = omega (arith, cands.below, at_first);
          second = omega (arith, inverted_holds.within);
          room = omega (arith, slot_room, inverted_holds.rise);
        }

    pub narrowed_further : {w' : List ℕ} {end : ℕ} → 1 < d
        → Intersected lo hi (lay.index + first) (lay.index + last) (lay.slots + first) w w' end
        → Narrowed lay q path d w w' (record { «from» = lay.slots + first; to = end })
    narrowed_further {w'} {end} deeper met =
        record {
          size = met.changed.size;
          frame = subst (λ (n : ℕ). take (lay.slots + n) w' ≡ take (lay.slots + n) w) at_first met.changed.low;
          rise = met.low;
          below = omega (arith, met.high, at_last, inverted_holds.rise);
          rest =
              rest_more (lay.slots + first + (lay.index + last - (lay.index + first))) lay.row_starts w w'
              (omega (arith, at_last, inverted_holds.rise, cands.index.ground.slot_within (last_of path) cands.last))
              met.changed.high;
          holds =
              met.is
              ∙ ap₂ (λ (a b : List ℕ). keep (λ s. memb s a) b) inverted_holds.is (cands.sorted deeper)
              ∙ narrow_further q path cands.depth cands.deep;
        }

  -- the inverted list, its two bounds read
  pub inverted_read : {rank first last : ℕ} → rank ≡ last_of path → Word w (lay.offsets + rank) first
      → Word w (lay.offsets + rank + 1) last
      → RegionHolds w lay.slots (lay.index + first) (lay.index + last) (inverted_list q (last_of path))
  inverted_read is at_first at_last = inverted_holds (first_word at_first is) (last_word at_last is)
