-- What the record reader and both loads answer, in words: number and details first, and then what follows here.
use Rattle.std.specs.Prelude.{ℕ, List, [], ◌∷◌, Result, Err, Ok}
use Rattle.sets.specs.Refusals.{side_number, accepted_words, refused_words}
use Rattle.tag_file.specs.declared.RecordRead.{RecordRead}
use Rattle.tag_file.specs.declared.ReadAnswer.{ReadAnswer}
use Rattle.tag_file.specs.declared.ReadAnswer.TheVariants.{Record, NoMore, Refused}
use Rattle.sets.specs.declared.Refusal.{Refusal}
use Rattle.tag_file.specs.declared.Loaded.{Loaded}
use Rattle.tag_file.specs.declared.Repeats.{Repeats}

-- of the record reader: whether there is no more; then side, number, count of tags, place of the first, next place, and repeats
abbrev pub words_read : ReadAnswer → ℕ → List ℕ
words_read (Record side number count place next) repeats =
    accepted_words (0 ∷ side_number side ∷ number ∷ count ∷ place ∷ next ∷ repeats ∷ [])
words_read NoMore repeats = accepted_words (1 ∷ 0 ∷ 0 ∷ 0 ∷ 0 ∷ 0 ∷ 0 ∷ [])
words_read (Refused why) repeats = refused_words why 7

abbrev pub read_words : RecordRead → List ℕ
read_words read = words_read read.answer read.repeats

-- of a load: left sets, right sets, left entries, right entries, tags, left repeats, right repeats
abbrev pub load_words : Result (Loaded × Repeats) Refusal → List ℕ
load_words (Ok (loaded, repeats)) =
    accepted_words
    (loaded.left_sets ∷ loaded.right_sets ∷ loaded.left_entries ∷ loaded.right_entries ∷ loaded.tag_count
    ∷ repeats.left ∷ repeats.right ∷ [])
load_words (Err why) = refused_words why 7
