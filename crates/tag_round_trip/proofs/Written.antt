-- The writer's bytes are those of its records, so that the reader takes the output record by record, whatever the lists hold.
use mathlib.Core.Path.{◌≡◌, refl, sym, ap, ◌∙◌}
use Prim.Native.Nat.{ℕ, ◌*◌, ◌<◌}
use mathlib.Core.List.{List, [], ◌∷◌, ◌++◌, append_assoc}
use mathlib.Core.Bool.{true}
use borrow.Author.Tests.{lt-ltb}
use lib.ListN.{get_or}
use Rattle.lists.specs.Lists.{all}
use Rattle.lists.proofs.Bools.{and_both}
use Rattle.lists.proofs.Throughout.{all_append}
use Rattle.sets.specs.Collections.{sets_of}
use Rattle.sets.specs.declared.Side.{Side}
use Rattle.sets.specs.declared.Side.TheVariants.{Left, Right}
use Rattle.tag_file.specs.Format.{tag_length, record_bytes}
use Rattle.tag_file.specs.Reading.{read_at}
use Rattle.tag_file.specs.Records.{TagRecord, total_length, records}
use Rattle.tag_file.specs.Loading.{Lists}
use Rattle.tag_file.specs.declared.ReadAnswer.TheVariants.{NoMore}
use Rattle.tag_writer_spec.specs.Writer.{item_tags, records_of, file_bytes}
use Rattle.tag_round_trip.specs.Rewritten.{bytes_of_records, side_records, records_of_lists}
use Rattle.tag_round_trip.proofs.Values.{tags_fit, tag_at_bound}
use Rattle.tag_round_trip.proofs.Printing.{records_fit, records_bytes, read_past}

bytes_of_records_append : (a b : List TagRecord) → bytes_of_records (a ++ b) ≡ bytes_of_records a ++ bytes_of_records b
unfolding bytes_of_records
bytes_of_records_append [] b = refl
bytes_of_records_append (r ∷ rs) b =
    rw (bytes_of_records_append rs b)
    (sym (append_assoc (record_bytes r.side r.number r.tags) (bytes_of_records rs) (bytes_of_records b)))

side_bytes : (side : Side) (tags numbers : List ℕ) (sets : List (List ℕ))
    → records_of side tags numbers sets ≡ bytes_of_records (side_records side tags numbers sets)
unfolding records_of bytes_of_records side_records
side_bytes side tags [] sets = refl
side_bytes side tags (number ∷ numbers) [] = refl
side_bytes side tags (number ∷ numbers) (set ∷ sets) = rw (side_bytes side tags numbers sets)

-- the tags of a table of bytes fit
item_tags_fit : (tags : List ℕ) → ((i : ℕ) → get_or tags i 0 < 256) → (set : List ℕ) → tags_fit (item_tags tags set) ≡ true
unfolding all
item_tags_fit tags low [] = refl
item_tags_fit tags low (i ∷ is) = and_both (lt-ltb _ _ (tag_at_bound tags (tag_length * i) low)) (item_tags_fit tags low is)

side_fit : (side : Side) (tags numbers : List ℕ) (sets : List (List ℕ)) → ((i : ℕ) → get_or tags i 0 < 256)
    → records_fit (side_records side tags numbers sets) ≡ true
unfolding all side_records
side_fit side tags [] sets low = refl
side_fit side tags (number ∷ numbers) [] low = refl
side_fit side tags (number ∷ numbers) (set ∷ sets) low =
    and_both (item_tags_fit tags low set) (side_fit side tags numbers sets low)

module _ (l : Lists) where
  lists_bytes : file_bytes l ≡ bytes_of_records (records_of_lists l)
  unfolding file_bytes
  lists_bytes =
      rw (
        side_bytes Left l.tags l.left_numbers (sets_of l.left_ends l.left_items),
        side_bytes Right l.tags l.right_numbers (sets_of l.right_ends l.right_items),
      )
      (sym (bytes_of_records_append (side_records Left l.tags l.left_numbers (sets_of l.left_ends l.left_items)) _))

  -- the reader takes what was written record by record, and then says that there is no more
  pub written_records : ((i : ℕ) → get_or l.tags i 0 < 256) → records (file_bytes l) ≡ records_of_lists l
  written_records low =
      ap records lists_bytes
      ∙ records_bytes (records_of_lists l)
      (all_append (λ r. tags_fit r.tags) _ _
      (side_fit Left l.tags l.left_numbers (sets_of l.left_ends l.left_items) low)
      (side_fit Right l.tags l.right_numbers (sets_of l.right_ends l.right_items) low))

  pub written_end : ((i : ℕ) → get_or l.tags i 0 < 256)
      → read_at (file_bytes l) (total_length (records (file_bytes l))) ≡ NoMore
  written_end low = rw (written_records low, lists_bytes) (read_past (records_of_lists l))
