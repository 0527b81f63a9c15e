-- A walk over the records of a file: those seen and those from the place on are all of them, and the place is after those seen.
use Rattle.std.proofs.Common.{◌≡◌, ℕ, ◌≤◌, List, [], ◌∷◌, ◌++◌, length, sym, refl, ap, ◌∙◌, append_assoc, append-nil, arith}
use Rattle.lists.specs.Lists.{sum}
use Rattle.lists.proofs.Summing.{sum_append}
use Rattle.sets.specs.declared.Side.{Side}
use Rattle.tag_file.specs.Format.{record_length}
use Rattle.tag_file.specs.Reading.{read_at, tags_at}
use Rattle.tag_file.specs.Records.{TagRecord, total_length, records_at, records}
use Rattle.tag_file.specs.declared.ReadAnswer.TheVariants.{Record}
use Rattle.tag_file.proofs.RecordLaws.{length-tags_at, read_length, records_next, total_length_last}

pub record Walking (file : List ℕ) (seen : List TagRecord) (at : ℕ) : Type 0 where
  pub split : records file ≡ seen ++ records_at file at
  pub place : at ≡ total_length seen

pub walking_start : (file : List ℕ) → Walking file [] 0
unfolding sum
walking_start file = record { split = refl; place = refl }

module _ {file : List ℕ} {seen : List TagRecord} {at : ℕ} (w : Walking file seen at) where
  pub walking_end : records_at file at ≡ [] → records file ≡ seen
  walking_end stop = w.split ∙ ap (λ (l : List TagRecord). seen ++ l) stop ∙ append-nil seen

  -- the place is within the records
  pub walking_within : at ≤ total_length (records file)
  walking_within =
      omega (
        arith,
        w.place,
        ap total_length w.split,
        sum_append (λ (q : TagRecord). record_length (length q.tags)) seen (records_at file at),
      )

  module _ {side : Side} {n c p next : ℕ} (e : read_at file at ≡ Record side n c p next) where
    -- the record that was read
    abbrev pub this : TagRecord
    this = record { side = side; number = n; tags = tags_at c file p }

    pub walking_here : records file ≡ seen ++ (this ∷ records_at file next)
    walking_here = w.split ∙ ap (λ (l : List TagRecord). seen ++ l) (records_next file at side n c p next e)

    pub walking_step : Walking file (seen ++ (this ∷ [])) next
    walking_step =
        record {
          split = walking_here ∙ sym (append_assoc seen (this ∷ []) (records_at file next));
          place = omega (arith, read_length file at e, w.place, total_length_last seen this, length-tags_at c file p);
        }
