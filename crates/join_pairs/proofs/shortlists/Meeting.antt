-- Candidates cut down by one rank: all of them hold the pivot, and any other rank is met by its inverted list.
use Prim.Native.Nat.{ℕ, ◌+◌}
use mathlib.Core.Path.{◌≡◌, sym, ap, ◌∙◌}
use mathlib.Core.List.{List}
use mathlib.Core.Bool.{Bool, ◌&&◌}
use native.Mathlib.Omega.{arith}
use lib.Dec.{ltb}
use lib.ListN.{length}
use Rattle.lists.specs.Lists.{keep, memb, slice, upto}
use Rattle.lists.specs.Parts.{Changed}
use Rattle.lists.proofs.Throughout.{all_elim}
use Rattle.lists.proofs.Filtering.{memb-keep, keep_agree, keep_all}
use Rattle.lists.proofs.Ranges.{memb-upto}
use Rattle.lists.proofs.Slices.{changed_none, changed_more}
use Rattle.join_spec.specs.Query.{Query}
use Rattle.join_index.specs.Grouping.{right_at}
use Rattle.join_index.specs.declared.Layout.{Layout}
use Rattle.words.specs.Words.{Word}
use Rattle.words.specs.shared.Sharing.{Apart, Intersected}
use Rattle.words.specs.declared.Part.{Part}
use Rattle.join_pairs.specs.shortlists.Shortlists.{Located, SpanThere, RankMet}
use Rattle.join_pairs.proofs.shortlists.Inverted.{inverted_stored, list_part}

-- one change after the other
pub changed_then : {lo hi : ℕ} {w v u : List ℕ} → Changed lo hi w v → Changed lo hi v u → Changed lo hi w u
changed_then first then =
    record {
      size = then.size ∙ first.size;
      low = then.low ∙ first.low;
      high = then.high ∙ first.high;
    }

module _ {lay : Layout} {q : Query} {w : List ℕ} {r pivot from to : ℕ} (there : SpanThere lay q w r pivot from to) where
  pub met_same : r ≡ pivot
      → RankMet lay w r pivot from to w (record { from = from; to = to })
  met_same same =
      record {
        changed = changed_none lay.slots lay.row_starts w;
        order = there.order;
        high = omega (arith, there.high, (inverted_stored there.rank).rise);
        is = λ p t.
            sym
            (ap (λ (x : ℕ). keep (λ (s : ℕ). memb x (right_at p s)) (slice from to w)) same
            ∙ keep_all (λ (s : ℕ). memb pivot (right_at p s)) (slice from to w) t.holding);
      }

  module _ {list : Part} {start : ℕ} (located : Located lay w r list) (word : Word w (lay.offsets + r) start) where
    pub met_apart : Apart to list.from list.to (lay.slots + start) w
    met_apart =
        let s = inverted_stored there.rank in
        record {
          first = omega (arith, there.high, word.is);
          second = omega (arith, s.low, located.to);
          room = omega (arith, s.room, s.rise, located.from, located.to, word.is);
        }

    pub met_other : {w' : List ℕ} {end : ℕ} → Intersected from to list.from list.to (lay.slots + start) w w' end
        → RankMet lay w r pivot from to w' (record { from = lay.slots + start; to = end })
    met_other {w'} shared =
        let s = inverted_stored there.rank in
        record {
          changed =
              changed_more lay.slots lay.row_starts (omega arith)
              (omega (arith, s.below, s.rise, located.from, located.to, word.is)) shared.changed;
          order = shared.low;
          high = omega (arith, shared.high, s.rise, located.from, located.to, word.is);
          is = λ p t.
              shared.is
              ∙ keep_agree (λ (x : ℕ). memb x (slice list.from list.to w)) (λ (x : ℕ). memb r (right_at p x))
              (slice from to w)
              (λ x m.
              ap (memb x) (list_part located t.rank)
              ∙ memb-keep (λ (y : ℕ). memb r (right_at p y)) (upto (length p.rights)) x
              ∙ ap (λ (b : Bool). b && memb r (right_at p x))
              (memb-upto (length p.rights) x
              ∙ all_elim (λ (y : ℕ). ltb y (length p.rights)) (slice from to w) t.places.below x m));
        }
