-- Where the reader gave no whole record, there are no records from that place on.
use mathlib.Core.Path.{◌≡◌, refl}
use mathlib.Core.List.{List, []}
use Prim.Native.Nat.{ℕ}
use Rattle.sets.specs.declared.Side.{Side}
use Rattle.tag_file.specs.Reading.{read_at}
use Rattle.tag_file.specs.Records.{records_at}
use Rattle.tag_file.specs.declared.ReadAnswer.{ReadAnswer}
use Rattle.tag_file.specs.declared.ReadAnswer.TheVariants.{Record, NoMore, Refused}
use Rattle.tag_file.proofs.RecordLaws.{records_end, records_refused}

pub no_records : (file : List ℕ) (at : ℕ) (a : ReadAnswer) → read_at file at ≡ a
    → ((s : Side) (n c p next : ℕ) → a ≡ Record s n c p next → ⊥)
    → records_at file at ≡ []
no_records file at (Record s n c p next) e h = absurd (h s n c p next refl)
no_records file at NoMore e h = records_end file at e
no_records file at (Refused why) e h = records_refused file at why e
