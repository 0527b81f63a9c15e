-- Candidates cut down rank by rank. The invariant: no right set that holds all the ranks is missing, and of a candidate the
-- ranks that are left decide. w is the work list before, and v as it is at place i of the ranks.
use Prim.Native.Nat.{ℕ, suc, ◌+◌, ◌-◌, ◌≤◌, ◌<◌}
use mathlib.Core.Path.{◌≡◌, refl, sym, ap, subst, ◌∙◌}
use mathlib.Core.List.{List, ◌∷◌}
use mathlib.Core.Bool.{true}
use native.Mathlib.Omega.{arith}
use lib.Dec.{ltb}
use lib.ListN.{length, get_or, take}
use borrow.Author.Tests.{ltb-true}
use Rattle.lists.specs.Lists.{all, keep, memb, subset, rising, slice, upto}
use Rattle.lists.proofs.Bools.{and_left, and_right}
use Rattle.lists.proofs.Membership.{memb-some}
use Rattle.lists.proofs.Throughout.{all_elim, all_intro, subset_elim}
use Rattle.lists.proofs.Filtering.{memb-keep, all_keep, all_kept, keep_through}
use Rattle.lists.proofs.Rising.{rising-keep, rising_below}
use Rattle.lists.proofs.Slices.{slice_next, frame_at, length-slice, all_slice}
use Rattle.join_spec.specs.Query.{Query}
use Rattle.join_index.specs.Grouping.{right_at}
use Rattle.join_index.specs.declared.Layout.{Layout}
use Rattle.join_index.proofs.GroundLaws.{offsets_rise}
use Rattle.words.specs.Words.{Word}
use Rattle.join_index.specs.Asking.{RankThere, PlacesThere}
use Rattle.join_index.proofs.Reading.{index_frame}
use Rattle.words.specs.declared.Part.{Part}
use Rattle.join_pairs.specs.shortlists.Shortlists.{Located, SpanThere, RankMet, FindThere, ShortlistOf}
use Rattle.join_pairs.proofs.shortlists.Inverted.{inverted_stored, list_part, list_places, list_rising, slice_at, slice-memb}

pub record Sifting (lay : Layout) (q : Query) (w : List ℕ) (from to pivot : ℕ) (v : List ℕ) (a b i : ℕ) : Type 0 where
  pub places : PlacesThere lay q v a b
  pub order : a ≤ b
  pub rise : rising (slice a b v) ≡ true
  pub holding : all (λ s. memb pivot (right_at q s)) (slice a b v) ≡ true
  pub high : i < to → b ≤ lay.slots + get_or w (lay.offsets + get_or w i 0) 0
  pub complete :
      keep (λ s. subset (slice from to w) (right_at q s)) (slice a b v)
      ≡ keep (λ s. subset (slice from to w) (right_at q s)) (upto (length q.rights))
  pub decides :
      (s : ℕ) → memb s (slice a b v) ≡ true → subset (slice i to w) (right_at q s) ≡ subset (slice from to w) (right_at q s)

subset-rest : (x : ℕ) (xs ys : List ℕ) → memb x ys ≡ true → subset xs ys ≡ subset (x ∷ xs) ys
unfolding all
subset-rest x xs ys h = rw h

module _ {lay : Layout} {q : Query} {w : List ℕ} {from to pivot : ℕ} (there : FindThere lay q w from to pivot) where
  within : to ≤ length w
  within = omega (arith, there.within, there.index.room)

  pub some_ranks : from < to
  some_ranks = omega (arith, memb-some pivot (slice from to w) there.there, length-slice from to w within)

  pub pivot_there : RankThere lay q w pivot
  pivot_there =
      record {
        index = there.index;
        below = ltb-true pivot q.T (all_elim (λ (r : ℕ). ltb r q.T) (slice from to w) there.below pivot there.there);
      }

  rank_low : (i : ℕ) → from ≤ i → i < to → get_or w i 0 < q.T
  rank_low i low high =
      ltb-true (get_or w i 0) q.T (all_slice (λ (r : ℕ). ltb r q.T) from to w within there.below i low high)

  rank_next : (i : ℕ) → from ≤ i → i + 1 < to → get_or w i 0 < get_or w (i + 1) 0
  rank_next i low high =
      omega (
        arith,
        slice_at w from to i low (omega arith),
        slice_at w from to (i + 1) (omega arith) high,
        rising_below (slice from to w) there.rise (i - from) (i + 1 - from) (omega arith)
            (omega (arith, length-slice from to w within)),
      )

  pub sifting_start : {s : Part} → Located lay w pivot s → Sifting lay q w from to pivot w s.from s.to from
  sifting_start located =
      let part = list_part located pivot_there in
      let stored = inverted_stored pivot_there in
      record {
        places = list_places located pivot_there;
        order = omega (arith, located.from, located.to, stored.rise);
        rise = (list_rising located pivot_there).rise;
        holding = ap (all (λ (x : ℕ). memb pivot (right_at q x))) part
            ∙ all_kept (λ (x : ℕ). memb pivot (right_at q x)) (upto (length q.rights));
        high = λ more. omega (arith, located.to, stored.low);
        complete = ap (keep (λ (x : ℕ). subset (slice from to w) (right_at q x))) part
            ∙ keep_through (λ (x : ℕ). subset (slice from to w) (right_at q x)) (λ (x : ℕ). memb pivot (right_at q x))
            (λ (x : ℕ). true) (upto (length q.rights)) (all_true (upto (length q.rights)))
            (λ x good h. subset_elim (slice from to w) (right_at q x) h pivot there.there);
        decides = λ x m. refl;
      }
    where
      all_true : (xs : List ℕ) → all (λ (x : ℕ). true) xs ≡ true
      all_true xs = all_intro (λ (x : ℕ). true) xs (λ x m. refl)

  module _ {v : List ℕ} {a b i r : ℕ} (frame : take lay.slots v ≡ take lay.slots w)
      (sifting : Sifting lay q w from to pivot v a b i)
      (low : from ≤ i) (more : i < to) (word : Word v i r)
    where
      rank_is : r ≡ get_or w i 0
      rank_is = word.is ∙ frame_at 0 i lay.slots w v (omega (arith, there.within)) frame

      rank_word : Word w i r
      rank_word = record { is = rank_is; small = word.small }

      same_offset : (x : ℕ) → x ≤ q.T → get_or v (lay.offsets + x) 0 ≡ get_or w (lay.offsets + x) 0
      same_offset x h =
          frame_at 0 (lay.offsets + x) lay.slots w v (omega (arith, there.index.ground.offsets_within)) frame

      pub sifting_span : SpanThere lay q v r pivot a b
      sifting_span =
          let below = rank_low i low more in
          record {
            rank = record { index = sifting.places.index; below = omega (arith, rank_is) };
            places = sifting.places;
            order = sifting.order;
            rise = sifting.rise;
            holding = sifting.holding;
            high =
                let here = ap (λ (x : ℕ). get_or w (lay.offsets + x) 0) rank_is in
                omega (arith, sifting.high more, same_offset r (omega (arith, rank_is)));
          }

      module _ {u : List ℕ} {s : Part} (met : RankMet lay v r pivot a b u s) where
        part : slice s.from s.to u ≡ keep (λ (x : ℕ). memb r (right_at q x)) (slice a b v)
        part = met.is q sifting_span

        next_high : i + 1 < to → s.to ≤ lay.slots + get_or w (lay.offsets + get_or w (i + 1) 0) 0
        next_high further =
            let below = rank_low i low more in
            let later = rank_low (i + 1) (omega arith) further in
            let rises = rank_next i low further in
            let one_more : lay.offsets + r + 1 ≡ lay.offsets + suc r = omega arith in
            let offset : get_or v (lay.offsets + r + 1) 0 ≡ get_or w (lay.offsets + suc r) 0 =
            ap (λ (x : ℕ). get_or v x 0) one_more ∙ same_offset (suc r) (omega (arith, rank_is)) in
            omega (
              arith,
              met.high,
              offset,
              offsets_rise lay q w there.index.ground (suc r) (get_or w (i + 1) 0) (omega (arith, rank_is)) (omega arith),
            )

        pub sifting_step : Sifting lay q w from to pivot u s.from s.to (i + 1)
        sifting_step =
            record {
              places =
                  record {
                    index = index_frame met.changed.low met.changed.size sifting.places.index;
                    within = omega (arith, met.high, (inverted_stored sifting_span.rank).room, met.changed.size);
                    below = ap (all (λ (x : ℕ). ltb x (length q.rights))) part
                        ∙ all_keep (λ (x : ℕ). ltb x (length q.rights)) (λ (x : ℕ). memb r (right_at q x)) (slice a b v)
                        sifting.places.below;
                  };
              order = met.order;
              rise = ap rising part ∙ rising-keep (λ (x : ℕ). memb r (right_at q x)) (slice a b v) sifting.rise;
              holding = ap (all (λ (x : ℕ). memb pivot (right_at q x))) part
                  ∙ all_keep (λ (x : ℕ). memb pivot (right_at q x)) (λ (x : ℕ). memb r (right_at q x)) (slice a b v)
                  sifting.holding;
              high = next_high;
              complete = ap (keep (λ (x : ℕ). subset (slice from to w) (right_at q x))) part
                  ∙ keep_through (λ (x : ℕ). subset (slice from to w) (right_at q x)) (λ (x : ℕ). memb r (right_at q x))
                  (λ (x : ℕ). ltb x (length q.rights)) (slice a b v) sifting.places.below
                  (λ x good h. subset_elim (slice from to w) (right_at q x) h r (slice-memb rank_word from to low more within))
                  ∙ sifting.complete;
              decides = λ x m.
                  let both = sym (memb-keep (λ (y : ℕ). memb r (right_at q y)) (slice a b v) x) ∙ sym (ap (memb x) part) ∙ m in
                  let holds : memb (get_or w i 0) (right_at q x) ≡ true =
                  subst (λ (y : ℕ). memb y (right_at q x) ≡ true) rank_is
                  (and_right (memb x (slice a b v)) (memb r (right_at q x)) both)
                  in
                  subset-rest (get_or w i 0) (slice (i + 1) to w) (right_at q x) holds
                  ∙ ap (λ (l : List ℕ). subset l (right_at q x)) (sym (slice_next i to w more within))
                  ∙ sifting.decides x (and_left (memb x (slice a b v)) (memb r (right_at q x)) both);
            }

  pub sifting_end : {v : List ℕ} {a b i : ℕ} → Sifting lay q w from to pivot v a b i
      → ShortlistOf lay q w from to v (record { from = a; to = b; rest = i })
  sifting_end sifting = record { places = sifting.places; complete = sifting.complete; decides = sifting.decides }
