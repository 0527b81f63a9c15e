-- The state of the pass with one more right set of the second file: pooled with one of the first, or behind the others.
use Rattle.std.specs.Prelude.{Some, None, unwrap_or}
use Rattle.std.proofs.Common.{◌≡◌, ℕ, ◌+◌, ◌-◌, false, ◌||◌, ltb, List, [], ◌∷◌, ◌++◌, length, sym, ap, ◌∙◌, subst, arith, ltb-false}
use Rattle.lists.proofs.Bools.{or_left_false, or_right_false}
use Rattle.sets.specs.Limits.{max_items, max_sets, max_entries}
use Rattle.sets.specs.declared.Side.{Side}
use Rattle.sets.specs.declared.Side.TheVariants.{Left, Right}
use Rattle.tag_file.specs.declared.Loaded.{Loaded}
use Rattle.tag_file.specs.Records.{TagRecord, same_side, of_side, insert_all, tag_table, entries_of}
use Rattle.tag_file.specs.Loading.{too_many, totals_of}
use Rattle.pool_loader_spec.proofs.OneMore.{Grown}
use Rattle.pool_loader_spec.proofs.Growing.{table_grown, sets_grown, entries_other, entries_grown}
use Rattle.tag_index.specs.Index.{table_of}
use Rattle.tag_index.proofs.Ids.{sorted_size}
use Rattle.tag_scan.specs.totals.Totals.{grown_by, passes, is_over, Limited}
use Rattle.tag_scan.proofs.totals.Counting.{over_too_many}
use Rattle.tag_scan.specs.Scan.{Taken}
use Rattle.tag_scan.proofs.Taking.{taken_over, taken_next}
use Rattle.pool_scan.specs.declared.union.United.{United}
use Rattle.pool_scan.specs.union.Union.{TakenIn}
use Rattle.pool_scan.specs.counting.Counting.{united_by}
use Rattle.tag_index.specs.declared.TagIndex.{TagIndex}

-- what is known of the records with one more right set: whether they pass a limit, and if not, that they are taken in
pub record OneTaken (is : List TagRecord) (total : Loaded) (index : TagIndex) : Type 0 where
  pub over : passes total.right_sets total.right_entries total.tag_count ≡ too_many Right is
  pub taken : too_many Right is ≡ false → Taken is total index

-- behind the others
module _ {was : List TagRecord} {total : Loaded} {index : TagIndex} (t : Taken was total index)
    (s : TagRecord) (right : s.side ≡ Right) {u : United} {now-index : TagIndex}
    (i : TakenIn [] s.tags index total.tag_count u now-index) where
  abbrev grown : Side → Loaded
  grown side = grown_by total side u.tag_count u.all

  pub alone_taken : {is : List TagRecord} → is ≡ was ++ (s ∷ [])
      → OneTaken is (united_by total u None) now-index
  alone_taken {is} e =
      let told : is_over (united_by total u None) Right ≡ too_many Right (was ++ (s ∷ [])) =
      subst (λ (side : Side). is_over (grown side) side ≡ too_many side (was ++ (s ∷ []))) right
      (taken_over t s i.sorted i.table i.all_counted)
      in
      record {
        over = told ∙ ap (too_many Right) (sym e);
        taken = λ few.
            subst (λ (rs : List TagRecord). Taken rs (united_by total u None) now-index) (sym e)
            (taken_next t s i.sorted i.table i.all_counted (ap grown (sym right))
            (subst (λ (side : Side). is_over (grown side) side ≡ false) (sym right) (told ∙ ap (too_many Right) (sym e) ∙ few)));
      }

-- pooled with one of the first file
module _ {was : List TagRecord} {total : Loaded} {index : TagIndex} (t : Taken was total index)
    (r : TagRecord) (right : r.side ≡ Right) (new : List ℕ) {u : United} {now-index : TagIndex}
    (i : TakenIn r.tags new index total.tag_count u now-index) {is : List TagRecord}
    (g : Grown was is r new) where
  -- how many distinct tags the first file's had
  abbrev own : ℕ
  own = unwrap_or u.first 0

  abbrev now-total : Loaded
  now-total = united_by total u (Some own)

  table_met : table_of now-index u.tag_count ≡ tag_table is
  table_met = i.table ∙ ap (λ (l : List ℕ). insert_all l new) t.table ∙ sym (table_grown g)

  counts_met : now-total ≡ totals_of is
  counts_met =
      let sets : total.left_sets ≡ length (of_side Left is) =
      ap (λ (q : Loaded). q.left_sets) t.counts ∙ sym (sets_grown g Left)
      in
      let others : total.right_sets ≡ length (of_side Right is) =
      ap (λ (q : Loaded). q.right_sets) t.counts ∙ sym (sets_grown g Right)
      in
      let entries : total.left_entries ≡ entries_of Left is =
      ap (λ (q : Loaded). q.left_entries) t.counts ∙ sym (entries_other g Left (ap (same_side Left) right))
      in
      let grew : total.right_entries + (u.all - own) ≡ entries_of Right is =
      omega (
        arith,
        ap (λ (q : Loaded). q.right_entries) t.counts,
        entries_grown g Right (ap (same_side Right) right),
        i.own_counted,
        i.all_counted,
        i.less,
      )
      in
      let tags : u.tag_count ≡ length (tag_table is) = sym (sorted_size i.sorted) ∙ ap length table_met in
      rw (sets, others, entries, grew, tags)

  pub met_taken : OneTaken is now-total now-index
  met_taken =
      let told : is_over now-total Right ≡ too_many Right is =
      ap (λ (q : Loaded). is_over q Right) counts_met ∙ over_too_many Right is
      in
      record {
        over = told;
        taken = λ few. record {
          counts = counts_met;
          limited = limits (told ∙ few);
          sorted = i.sorted;
          table = table_met;
        };
      }
    where
      limits : is_over now-total Right ≡ false → Limited now-total
      limits f =
          let a = ltb max_sets total.right_sets in
          let b = ltb max_entries (total.right_entries + (u.all - own)) in
          let d = ltb max_items u.tag_count in
          let later = or_right_false a (b || d) f in
          record {
            left_sets = t.limited.left_sets;
            right_sets = t.limited.right_sets;
            left_entries = t.limited.left_entries;
            right_entries = ltb-false max_entries (total.right_entries + (u.all - own)) (or_left_false b d later);
            tags = ltb-false max_items u.tag_count (or_right_false b d later);
          }
