-- The state of the first pass: no records are taken in at the start, and one more after each record that passes no limit.
use mathlib.Core.Path.{◌≡◌, sym, ap, subst, ◌∙◌}
use mathlib.Core.List.{List, [], ◌∷◌, ◌++◌}
use mathlib.Core.Bool.{false}
use Prim.Native.Nat.{ℕ}
use native.Mathlib.Omega.{arith}
use lib.ListN.{length}
use Rattle.lists.specs.Lists.{keep, sum, rising}
use Rattle.tag_file.specs.declared.Loaded.{Loaded}
use Rattle.tag_file.specs.Records.{TagRecord, insert_all, collapse, all_tags, tag_table}
use Rattle.tag_file.specs.Loading.{too_many, totals_of}
use Rattle.tag_index.specs.Index.{table_of, Sorted}
use Rattle.tag_index.proofs.Ids.{sorted_size}
use Rattle.tag_scan.specs.totals.Totals.{grown_by, is_over, Limited}
use Rattle.tag_scan.proofs.totals.Counting.{tag_table_last, grown_counts, grown_tags, over_too_many, limited_grown}
use Rattle.tag_scan.specs.Scan.{Lengths, Taken}
use Rattle.tag_index.specs.declared.TagIndex.{TagIndex}

pub taken_start : (index : TagIndex) (total : Loaded) → Lengths index → total ≡ totals_of []
    → Taken [] total index
unfolding sum table_of rising insert_all all_tags keep
taken_start index total l e =
    let none : total.tag_count ≡ 0 = ap (λ (t : Loaded). t.tag_count) e in
    let empty : table_of index total.tag_count ≡ [] = ap (λ (n : ℕ). table_of index n) none in
    record {
      counts = e;
      limited = record {
        left_sets = omega (arith, ap (λ (t : Loaded). t.left_sets) e);
        right_sets = omega (arith, ap (λ (t : Loaded). t.right_sets) e);
        left_entries = omega (arith, ap (λ (t : Loaded). t.left_entries) e);
        right_entries = omega (arith, ap (λ (t : Loaded). t.right_entries) e);
        tags = omega (arith, none);
      };
      sorted = record {
        kept = record { heads_full = l.heads_full; tails_full = l.tails_full; room = omega arith };
        listed = record {
          full = l.ids_full;
          room = omega arith;
          small = λ j h. absurd (omega arith);
          all = λ id h. absurd (omega arith);
        };
        rises = ap rising empty;
      };
      table = empty;
    }

-- one more record, whose tags were put into the index
module _ {rs : List TagRecord} {total : Loaded} {index : TagIndex} (t : Taken rs total index)
    (r : TagRecord) {tagCount distinct : ℕ} {now-index : TagIndex} (sorted : Sorted now-index tagCount)
    (table : table_of now-index tagCount ≡ insert_all (table_of index total.tag_count) r.tags)
    (counted : distinct ≡ length (collapse r.tags)) where
  table_next : table_of now-index tagCount ≡ tag_table (rs ++ (r ∷ []))
  table_next = table ∙ ap (λ (l : List ℕ). insert_all l r.tags) t.table ∙ sym (tag_table_last rs r)

  counts_next : grown_by total r.side tagCount distinct ≡ totals_of (rs ++ (r ∷ []))
  counts_next =
      ap (λ (q : Loaded). grown_by q r.side tagCount distinct) t.counts
      ∙ grown_counts rs r tagCount distinct (sym (sorted_size sorted) ∙ ap length table_next) counted

  -- the counts tell whether it passes a limit
  pub taken_over : is_over (grown_by total r.side tagCount distinct) r.side ≡ too_many r.side (rs ++ (r ∷ []))
  taken_over = ap (λ (q : Loaded). is_over q r.side) counts_next ∙ over_too_many r.side (rs ++ (r ∷ []))

  pub taken_next : {now-total : Loaded} → now-total ≡ grown_by total r.side tagCount distinct
      → is_over (grown_by total r.side tagCount distinct) r.side ≡ false
      → Taken (rs ++ (r ∷ [])) now-total now-index
  taken_next {now-total} grew few =
      let same : now-total.tag_count ≡ tagCount = ap (λ (q : Loaded). q.tag_count) grew ∙ grown_tags total r.side tagCount distinct in
      record {
        counts = grew ∙ counts_next;
        limited = subst (λ (q : Loaded). Limited q) (sym grew) (limited_grown total r.side tagCount distinct t.limited few);
        sorted = subst (λ (k : ℕ). Sorted now-index k) (sym same) sorted;
        table = ap (λ (k : ℕ). table_of now-index k) same ∙ table_next;
      }
