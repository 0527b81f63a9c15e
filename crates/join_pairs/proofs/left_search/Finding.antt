-- A left set as it was found, and its candidates: its row of the pair list is that of the candidates.
use Prim.Native.Nat.{ℕ, ◌+◌, ◌-◌, ◌≤◌, ◌<◌}
use mathlib.Core.Path.{◌≡◌, refl, sym, ap, ◌∙◌}
use mathlib.Core.List.{List}
use mathlib.Core.Bool.{Bool, true, false}
use native.Mathlib.Omega.{arith}
use lib.Dec.{ltb}
use lib.ListN.{length, take, drop}
use lib.Seq.{drop-drop}
use borrow.Author.Tests.{ltb-true}
use Rattle.lists.specs.Lists.{all, memb, subset, rising, slice, upto}
use Rattle.lists.specs.Writing.{Put}
use Rattle.lists.proofs.Membership.{memb-some}
use Rattle.lists.proofs.Throughout.{all_elim}
use Rattle.lists.proofs.Filtering.{keep_agree}
use Rattle.lists.proofs.Ranges.{range_upper}
use Rattle.lists.proofs.Rising.{rising-drop}
use Rattle.lists.proofs.Slices.{slice_from, slice_past, length-slice, frame-slice}
use Rattle.sets.proofs.Containment.{contained-subset}
use Rattle.join_spec.specs.Query.{Query}
use Rattle.join_index.specs.Grouping.{left_at, right_at}
use Rattle.join_index.specs.declared.Layout.{Layout}
use Rattle.join_index.proofs.Ordering.{left_below, left_rising}
use Rattle.join_check.specs.declared.Probe.{Probe}
use Rattle.join_index.specs.Asking.{LeftThere}
use Rattle.join_check.specs.Probes.{Probed}
use Rattle.join_index.proofs.Reading.{index_frame}
use Rattle.join_pairs.specs.declared.shortlists.Shortlist.{Shortlist}
use Rattle.kept_rows.specs.Kept.{contained_at}
use Rattle.join_pairs.specs.row_pairs.Containing.{pairs_with, row_among}
use Rattle.join_pairs.specs.row_pairs.Writing.{RowRoom}
use Rattle.join_pairs.specs.shortlists.Shortlists.{RanksThere, FindThere, ShortlistOf, Shortlisted}
use Rattle.join_pairs.specs.left_search.LeftRows.{row_at, LeftRoom}
use Rattle.join_pairs.proofs.left_search.LeftPairs.{row-whole, row_empty}

rising-rest : (w : List ℕ) (from to rest : ℕ) → from ≤ rest → rising (slice from to w) ≡ true → rising (slice rest to w) ≡ true
unfolding slice
rising-rest w from to rest low rise =
    let there : from + (rest - from) ≡ rest = omega arith in
    ap (λ (n : ℕ). rising (slice n to w)) (sym there)
    ∙ ap rising (sym (drop-drop (rest - from) from (take to w)))
    ∙ rising-drop (rest - from) (slice from to w) rise

module _ {lay : Layout} {w : List ℕ} {k : ℕ} {p : Probe} (found : Probed lay w k 0 p) where
  ranks_are : (q : Query) → LeftThere lay q w k → slice p.from p.to w ≡ left_at q k
  ranks_are q left = (found.is q left).rest

  ranks_below : (q : Query) → LeftThere lay q w k → all (λ (r : ℕ). ltb r q.T) (slice p.from p.to w) ≡ true
  ranks_below q left = ap (all (λ (r : ℕ). ltb r q.T)) (ranks_are q left) ∙ left_below q k

  ranks_rise : (q : Query) → LeftThere lay q w k → rising (slice p.from p.to w) ≡ true
  ranks_rise q left = ap rising (ranks_are q left) ∙ left_rising q k

  pub ranks_there : {q : Query} → LeftThere lay q w k → p.from < p.to
      → RanksThere lay q w (take (p.to - p.from) (drop p.from w))
  ranks_there {q} left some =
      let part = slice_from p.from p.to w in
      record {
        index = left.index;
        some = omega (arith, length-slice p.from p.to w ranks_within, ap length part, some);
        below = ap (all (λ (r : ℕ). ltb r q.T)) (sym part) ∙ ranks_below q left;
      }
    where
      ranks_within : p.to ≤ length w
      ranks_within = omega (arith, found.within, left.index.room)

  pub find_there : {q : Query} → LeftThere lay q w k → {r : ℕ} → memb r (take (p.to - p.from) (drop p.from w)) ≡ true
      → FindThere lay q w p.from p.to r
  find_there {q} left {r} there =
      record {
        index = left.index;
        within = found.within;
        below = ranks_below q left;
        rise = ranks_rise q left;
        there = ap (memb r) (slice_from p.from p.to w) ∙ there;
      }

  -- a left set without ranks has no pair
  pub empty_put : {q : Query} {at : ℕ} {was : List ℕ} → LeftRoom lay q w k at was → p.to ≤ p.from → Put was at (row_at q k) at was
  empty_put {q} there none =
      let row = row_empty there.left (sym (ranks_are q there.left) ∙ slice_past p.from p.to w none) in
      rw row (record { written = refl; past = omega arith })

  -- the candidates
  module _ {r : ℕ} {v : List ℕ} {c : Shortlist} (pivot : memb r (take (p.to - p.from) (drop p.from w)) ≡ true)
      (listed : Shortlisted lay w p.from p.to r v c)
      {q : Query} {at : ℕ} {was : List ℕ} (there : LeftRoom lay q w k at was)
    where
      shortlist : ShortlistOf lay q w p.from p.to v c
      shortlist = listed.is q (find_there there.left pivot)

      abbrev holding : ℕ → Bool
      holding s = subset (slice p.from p.to w) (right_at q s)

      some : 0 < length (left_at q k)
      some = memb-some r (left_at q k) (ap (memb r) (sym (ranks_are q there.left) ∙ slice_from p.from p.to w) ∙ pivot)

      same : (s : ℕ) → s < length q.rights → holding s ≡ contained_at q k s
      same s below =
          ap (λ (l : List ℕ). subset l (right_at q s)) (ranks_are q there.left)
          ∙ sym (contained-subset (left_at q k) (right_at q s) some)
          ∙ sym (there.left.index.ground.faithful k s there.left.below below)

      below_memb : (s : ℕ) → memb s (slice c.from c.to v) ≡ true → s < length q.rights
      below_memb s m =
          ltb-true s (length q.rights)
          (all_elim (λ (x : ℕ). ltb x (length q.rights)) (slice c.from c.to v) shortlist.places.below s m)

      shortlist_row : row_at q k ≡ row_among q k (slice c.from c.to v)
      shortlist_row =
          row-whole q k
          ∙ ap (pairs_with k)
          (keep_agree (contained_at q k) holding (upto (length q.rights))
          (λ s m. sym (same s (omega (arith, range_upper 0 (length q.rights) s m))))
          ∙ sym shortlist.complete
          ∙ keep_agree holding (contained_at q k) (slice c.from c.to v) (λ s m. same s (below_memb s m)))

      rest_same : slice c.rest p.to v ≡ slice c.rest p.to w
      rest_same = frame-slice c.rest p.to lay.slots w v found.within listed.changed.low

      pub shortlist_room :
          RowRoom lay q v (record { signature = p.signature; from = c.rest; to = p.to; upward = false }) k c.from c.to at was
      shortlist_room =
          record {
            left = record { index = index_frame listed.changed.low listed.changed.size there.left.index; below = there.left.below };
            places = shortlist.places;
            signed = (found.is q there.left).signed;
            rising =
                record {
                  within = omega (arith, found.within, there.left.index.room, listed.changed.size);
                  rise = ap rising rest_same
                      ∙ rising-rest w p.from p.to c.rest listed.low (ranks_rise q there.left);
                };
            decides = λ s m.
                ap (λ (l : List ℕ). subset l (right_at q s)) rest_same ∙ shortlist.decides s m ∙ same s (below_memb s m);
            room = omega (arith, there.room, ap length shortlist_row);
          }

      pub shortlist_put : {n : ℕ} {u : List ℕ} → Put was at (row_among q k (slice c.from c.to v)) n u
          → Put was at (row_at q k) n u
      shortlist_put put = rw shortlist_row put
