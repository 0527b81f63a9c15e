-- A file's first fault is one of 1, 2 and 3.
use Prim.Native.Nat.{ℕ, ◌≤◌}
use mathlib.Core.Path.{◌≡◌, refl, sym, ap, ◌∙◌}
use mathlib.Core.List.{List, [], ◌∷◌, ◌++◌}
use mathlib.Core.Bool.{Bool, true, false, cond}
use borrow.Author.Tests.{leb-true}
use lib.Dec.{eqb, leb}
use lib.ListN.{length}
use Rattle.std.specs.Prelude.{Result, Err, Ok, ⊤}
use Rattle.sets.specs.Refusals.{row_of, refuse_if, unless}
use Rattle.sets.specs.declared.Side.{Side}
use Rattle.sets.specs.declared.Side.TheVariants.{Left, Right}
use Rattle.sets.specs.declared.Refusal.{Refusal}
use Rattle.sets.specs.declared.Refusal.TheVariants.{Malformed, NumberUsed, TooMany}
use Rattle.tag_file.specs.declared.ReadAnswer.{ReadAnswer}
use Rattle.tag_file.specs.declared.ReadAnswer.TheVariants.{NoMore, Refused}
use Rattle.tag_file.specs.Reading.{marked, whole_at, record_at, read_at}
use Rattle.tag_file.specs.Records.{TagRecord, records, total_length}
use Rattle.tag_file.specs.Loading.{number_used, too_many, fault_of, first_fault, refusal_of, file_fault}

-- whether a test fails with a number up to 3 if it fails
unfoldable early : Result ⊤ Refusal → Bool
early (Ok _) = true
early (Err why) = leb (row_of why).number 3

unless_early : (first later : Result ⊤ Refusal) → early first ≡ true → early later ≡ true → early (unless Err first later) ≡ true
unless_early (Ok _) later e d = d
unless_early (Err why) later e d = e

used_early : (b : Bool) (place : ℕ) → early (refuse_if b (NumberUsed place)) ≡ true
unfolding early
used_early true place = refl
used_early false place = refl

many_early : (b : Bool) (place : ℕ) → early (refuse_if b (TooMany place)) ≡ true
unfolding early
many_early true place = refl
many_early false place = refl

fault_early : (seen : List TagRecord) (r : TagRecord) → early (fault_of seen r) ≡ true
unfolding fault_of
fault_early seen r =
    unless_early (refuse_if (number_used seen r) (NumberUsed (total_length seen)))
    (refuse_if (too_many r.side (seen ++ (r ∷ []))) (TooMany (total_length seen)))
    (used_early (number_used seen r) (total_length seen))
    (many_early (too_many r.side (seen ++ (r ∷ []))) (total_length seen))

first_early : (seen rs : List TagRecord) (last : Result ⊤ Refusal) → early last ≡ true → early (first_fault seen rs last) ≡ true
unfolding first_fault
first_early seen [] last e = e
first_early seen (r ∷ rs) last e =
    unless_early (fault_of seen r) (first_fault (seen ++ (r ∷ [])) rs last) (fault_early seen r)
    (first_early (seen ++ (r ∷ [])) rs last e)

-- what the reader refuses with
either_early : (b : Bool) (x y : ReadAnswer) → early (refusal_of x) ≡ true → early (refusal_of y) ≡ true
    → early (refusal_of (cond b x y)) ≡ true
either_early true x y e d = e
either_early false x y e d = d

record_early : (side : Side) (file : List ℕ) (at : ℕ) → early (refusal_of (record_at side file at)) ≡ true
unfolding early
record_early side file at = either_early (whole_at file at) _ (Refused (Malformed at)) refl refl

read_early : (file : List ℕ) (at : ℕ) → early (refusal_of (read_at file at)) ≡ true
unfolding read_at early
read_early file at =
    either_early (eqb at (length file)) NoMore _ refl
    (either_early (marked Left file at) (record_at Left file at) _ (record_early Left file at)
    (either_early (marked Right file at) (record_at Right file at) (Refused (Malformed at)) (record_early Right file at) refl))

pub fault_number : (file : List ℕ) {why : Refusal} → file_fault file ≡ Err why → (row_of why).number ≤ 3
unfolding file_fault early
fault_number file {why} e =
    let last = refusal_of (read_at file (total_length (records file))) in
    leb-true (row_of why).number 3
    (sym (ap early e) ∙ first_early [] (records file) last (read_early file (total_length (records file))))
